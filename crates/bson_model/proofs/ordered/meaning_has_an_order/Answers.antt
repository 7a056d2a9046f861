use Rattle.bson_model.proofs.OrderedMeansLaws.{meant_in_order}
use Rattle.bson_model.proofs.ordered.meaning_has_an_order.Goals as goal

pub returns : goal.returns
returns c = meant_in_order
