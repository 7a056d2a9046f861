use Rattle.std.proofs.Common.{◌∙◌, ap, inl, inr, refl, sym}
use Rattle.vbson.specs.Comparison.{hash_of}
use Rattle.vbson.proofs.comparison.vbson_hash_nonnull.Goals as goal

pub returns-in-Err-clause-accepts : goal.returns-in-Err-clause-accepts
returns-in-Err-clause-accepts c v x = inr (inr (c.in-Err.ensures.accepts v x))

pub returns-in-Ok-clause-accepts : goal.returns-in-Ok-clause-accepts
returns-in-Ok-clause-accepts c v x =
    inl (refl, c.hash_of.ensures.hash ∙ ap hash_of (sym (c.in-Ok.ensures.unique_value v x)))
