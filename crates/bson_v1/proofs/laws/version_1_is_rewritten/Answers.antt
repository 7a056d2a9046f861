use Rattle.bson_v1.proofs.Version1Laws.{no_shape, shape_renewed, stays}
use Rattle.bson_v1.proofs.laws.version_1_is_rewritten.Goals as goal

pub returns : goal.returns
returns c = record { v1_object = shape_renewed; other_objects = no_shape; v2_stays = stays }
