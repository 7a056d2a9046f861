use Rattle.std.proofs.Common.{◌≡◌, ◌∙◌, ap₂, inl, inr, sym}
use Rattle.bson.specs.View.{bson_view}
use Rattle.bson_model.specs.Same.{same}
use Rattle.vbson.specs.Comparison.{comparison_status}
use Rattle.vbson.proofs.comparison.vbson_same_documents_nonnull.Goals as goal

pub returns-in-Err-clause-accepts : goal.returns-in-Err-clause-accepts
returns-in-Err-clause-accepts c v w x y = inr (inr (c.in-Err.ensures.rejected.accepts v x))

pub returns-in-Err-clause-no_document : goal.returns-in-Err-clause-no_document
returns-in-Err-clause-no_document c ten = inl (c.in-Err.ensures.rejected.no_document ten)

pub returns-in-Ok-value_of_document-clause-accepts : goal.returns-in-Ok-value_of_document-clause-accepts
returns-in-Ok-value_of_document-clause-accepts c v w x y =
    let left_bson : v ≡ bson_view c.in-Ok.document = c.in-Ok.ensures.unique_value v x in
    let right_bson : w ≡ bson_view c.in-Ok-value_of_document.right_bson = c.in-Ok-value_of_document.ensures.unique_value w y in
    inl (c.compare_values.ensures ∙ ap₂ (λ p q. comparison_status (same p q)) (sym left_bson) (sym right_bson))

pub returns-clause-accepts : goal.returns-clause-accepts
returns-clause-accepts c v w x y = inr (inr (c.in-Err-value_of_document.ensures.rejected.accepts w y))

pub returns-clause-no_document : goal.returns-clause-no_document
returns-clause-no_document c ten =
    inr (bson_view c.in-Ok.document, c.in-Ok.ensures.ok, c.in-Err-value_of_document.ensures.rejected.no_document ten)
