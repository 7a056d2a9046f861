use Rattle.std.proofs.Common.{◌∙◌, ap₂, inl, inr, sym}
use Rattle.bson_model.specs.Same.{same}
use Rattle.vbson.specs.Comparison.{comparison_status}
use Rattle.vbson.proofs.comparison.vbson_same_nonnull.Goals as goal

pub returns-in-Err-clause-accepts : goal.returns-in-Err-clause-accepts
returns-in-Err-clause-accepts c v w x y = inr (inr (c.in-Err.ensures.accepts v x))

pub returns-clause-accepts : goal.returns-clause-accepts
returns-clause-accepts c v w x y = inr (inr (c.in-Err-value_of_text.ensures.accepts w y))

pub returns-in-Ok-value_of_text-clause-accepts : goal.returns-in-Ok-value_of_text-clause-accepts
returns-in-Ok-value_of_text-clause-accepts c v w x y =
    let left = c.in-Ok.ensures.unique_value v x in
    let right = c.in-Ok-value_of_text.ensures.unique_value w y in
    inl (c.compare_values.ensures ∙ ap₂ (λ p q. comparison_status (same p q)) (sym left) (sym right))
