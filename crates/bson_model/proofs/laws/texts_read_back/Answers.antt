use Rattle.bson_scalar.specs.declared.form.Doubles.TheVariants.{Special}
use Rattle.bson_scalar.specs.declared.form.Form.TheVariants.{Canonical}
use Rattle.bson_model.proofs.TextLaws.{own_text}
use Rattle.bson_model.proofs.laws.texts_read_back.Goals as goal

pub returns : goal.returns
returns c = own_text Special Canonical
