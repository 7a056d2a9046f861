use Rattle.std.proofs.Common.{Result, Ok, Err, Some, ap, sym, ◌∙◌}
use Rattle.std.specs.Prelude.{IfOk}
use Rattle.bson_scalar.proofs.FiniteDoubles.{finite_text_to}
use Rattle.bson_scalar.proofs.doubles.write_finite_double.Goals as goal

with_text : {X E : Type 0} (r : Result X E) (P Q : X → Type 0) → ((x : X) → P x → Q x) → IfOk r P → IfOk r Q
with_text (Ok x) P Q k h = k x h
with_text (Err e) P Q k h = tt

pub returns-clause-written : goal.returns-clause-written
returns-clause-written g c =
    with_text c.write_text_object.result _ _
    (λ t wrote_tree. (
      c.as_str.result.now,
      finite_text_to c.args.pattern c.double_text.result.bytes c.requires c.double_text.ensures
          ∙ ap Some (sym c.as_str.ensures.value),
      wrote_tree,
    ))
    c.write_text_object.ensures.written
