use Rattle.bson_scalar.specs.declared.form.Doubles.TheVariants.{Special}
use Rattle.bson_tree.proofs.Agrees.{fault_to}
use Rattle.bson_tree.proofs.laws.placed_fault_is_read.Goals as goal

pub returns : goal.returns
returns c = λ f t path m. fault_to Special m
