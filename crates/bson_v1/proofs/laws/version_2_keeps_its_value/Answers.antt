use Rattle.bson_v1.proofs.Version1Laws.{kept_by_default, kept_in_order}
use Rattle.bson_v1.proofs.laws.version_2_keeps_its_value.Goals as goal

pub returns : goal.returns
returns c = record { in_order = kept_in_order; by_default = kept_by_default }
