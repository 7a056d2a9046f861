use Rattle.bson_model.proofs.Modes.{all_writable}
use Rattle.bson_model.proofs.laws.every_value_is_writable.Goals as goal

pub returns : goal.returns
returns c = all_writable
