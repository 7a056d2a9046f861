use Rattle.std.proofs.Common.{sym, ◌∙◌}
use Rattle.bson.proofs.SameInOrder.{pairs_to, pairs_from}
use Rattle.bson.proofs.document.Document.eq_ordered.Goals as goal

pub returns : goal.returns
returns c =
    (λ h. pairs_to _ _ (sym c.same_documents_in_order.ensures ∙ h), λ e. c.same_documents_in_order.ensures ∙ pairs_from _ _ e)
