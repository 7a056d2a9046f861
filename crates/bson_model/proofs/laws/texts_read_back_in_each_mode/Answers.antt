use Rattle.bson_model.proofs.TextLaws.{own_text}
use Rattle.bson_model.proofs.laws.texts_read_back_in_each_mode.Goals as goal

pub returns : goal.returns
returns c = own_text
