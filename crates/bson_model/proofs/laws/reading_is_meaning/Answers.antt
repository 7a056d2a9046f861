use Rattle.bson_scalar.specs.declared.form.Doubles.TheVariants.{Special}
use Rattle.bson_model.proofs.MeansLaws.{means_from, means_to}
use Rattle.bson_model.proofs.laws.reading_is_meaning.Goals as goal

pub returns : goal.returns
returns c = λ t v. (means_from Special t v, λ m. means_to Special m)
