use Rattle.bson_codec.proofs.Inside.{ends_inside}
use Rattle.bson_codec.proofs.laws.ends_are_inside.Goals as goal

pub returns : goal.returns
returns c = ends_inside
