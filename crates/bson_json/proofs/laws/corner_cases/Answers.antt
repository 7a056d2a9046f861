use Rattle.bson_json.proofs.Corners.{accepts, refuses}
use Rattle.bson_json.proofs.laws.corner_cases.Goals as goal

pub returns-clause-accepts : goal.returns-clause-accepts
returns-clause-accepts c = accepts

pub returns-clause-refuses : goal.returns-clause-refuses
returns-clause-refuses c = refuses
