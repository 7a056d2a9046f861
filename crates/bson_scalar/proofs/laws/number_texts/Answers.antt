use Rattle.bson_scalar.proofs.TreeTexts.{float_text_is}
use Rattle.bson_scalar.proofs.laws.number_texts.Goals as goal

pub returns : goal.returns
returns c = float_text_is
