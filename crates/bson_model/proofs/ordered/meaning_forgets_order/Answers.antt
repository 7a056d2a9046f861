use Rattle.bson_model.proofs.Forgets.{forgets}
use Rattle.bson_model.proofs.ordered.meaning_forgets_order.Goals as goal

pub returns : goal.returns
returns c = λ D t v m. forgets D m
