use Rattle.bson_model.proofs.OrderedTexts.{ordered_text}
use Rattle.bson_model.proofs.ordered.ordered_texts.Goals as goal

pub returns : goal.returns
returns c = ordered_text
