use Rattle.bson_model.proofs.KeptTexts.{own_text}
use Rattle.bson_model.proofs.ordered.ordered_texts_read_back.Goals as goal

pub returns : goal.returns
returns c = own_text
