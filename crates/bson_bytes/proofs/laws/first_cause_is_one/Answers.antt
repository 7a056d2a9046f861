use Rattle.bson_bytes.proofs.First.{one_cause}
use Rattle.bson_bytes.proofs.laws.first_cause_is_one.Goals as goal

pub returns : goal.returns
returns c = one_cause
