use Rattle.bson_model.proofs.TextMeaning.{text_means}
use Rattle.bson_model.proofs.ordered.ordered_texts_have_meaning.Goals as goal

pub returns : goal.returns
returns c = text_means
