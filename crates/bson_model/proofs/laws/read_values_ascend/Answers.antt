use Rattle.bson_scalar.specs.declared.form.Doubles.TheVariants.{Special}
use Rattle.bson_model.proofs.Ascending.{is_sorted}
use Rattle.bson_model.proofs.laws.read_values_ascend.Goals as goal

pub returns : goal.returns
returns c = λ t v is m. is_sorted Special m is
