use Rattle.bson_model.proofs.SameSorted.{by_key}
use Rattle.bson_model.proofs.laws.same_by_key.Goals as goal

pub returns : goal.returns
returns c = by_key
