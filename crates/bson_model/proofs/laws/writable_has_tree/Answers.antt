use Rattle.bson_scalar.specs.declared.form.Doubles.TheVariants.{Special}
use Rattle.bson_model.proofs.ValueRoundTrips.{has_tree}
use Rattle.bson_model.proofs.laws.writable_has_tree.Goals as goal

pub returns : goal.returns
returns c = has_tree Special
