use Rattle.bson_bytes.proofs.Within.{fault_stands}
use Rattle.bson_bytes.proofs.laws.fault_is_in_the_bytes.Goals as goal

pub returns : goal.returns
returns c = fault_stands
