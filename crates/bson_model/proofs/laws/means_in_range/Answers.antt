use Rattle.bson_scalar.specs.declared.form.Doubles.TheVariants.{Special}
use Rattle.bson_model.proofs.RangeLaws.{in_range}
use Rattle.bson_model.proofs.laws.means_in_range.Goals as goal

pub returns : goal.returns
returns c = λ t v is m. in_range Special m is
