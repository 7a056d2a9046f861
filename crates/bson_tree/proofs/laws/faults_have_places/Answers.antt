use Rattle.bson_scalar.specs.declared.form.Doubles.TheVariants.{Special}
use Rattle.bson_tree.proofs.Everywhere.{has_fault}
use Rattle.bson_tree.proofs.laws.faults_have_places.Goals as goal

pub returns : goal.returns
returns c = λ t nothing. has_fault Special t nothing
