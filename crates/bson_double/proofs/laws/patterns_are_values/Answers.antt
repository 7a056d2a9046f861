use Rattle.bson_double.proofs.laws.patterns_are_values.Goals as goal
use Rattle.bson_double.proofs.Patterns.{same_value}

pub returns : goal.returns
returns c = same_value
