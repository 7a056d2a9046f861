use Rattle.bson_model.proofs.TextMeaning.{meant_by_text}
use Rattle.bson_model.proofs.ordered.accepted_in_either_order.Goals as goal

pub returns : goal.returns
returns c = meant_by_text
