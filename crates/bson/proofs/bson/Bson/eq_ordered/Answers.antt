use Rattle.std.proofs.Common.{sym, ◌∙◌}
use Rattle.bson.proofs.SameInOrder.{order_to, order_from}
use Rattle.bson.proofs.bson.Bson.eq_ordered.Goals as goal

pub returns : goal.returns
returns c =
    (λ h. order_to _ _ (sym c.same_values_in_order.ensures ∙ h), λ e. c.same_values_in_order.ensures ∙ order_from _ _ e)
