-- Where a writer stops.
use Rattle.std.proofs.Common.{ℕ, List}
use Rattle.std.specs.Prelude.{⊤}
use Rattle.bson_scalar.specs.declared.form.Doubles.{Doubles}
use Rattle.bson_text.specs.TraversalErrors.{IsDocumentEndError}
use Rattle.bson_text.specs.declared.traversal_error.TraversalError.{TraversalError}
use Rattle.bson_text.proofs.Becoming.{weaker_stop}

-- a writer that sorts_keys gives up no more if it may give up more
pub sorting_stops : (WriterMayGiveUp : Doubles → Type 0) (ks : List (List ℕ)) (e : TraversalError) → IsDocumentEndError (λ D. ⊥) ⊤ ks e
    → IsDocumentEndError WriterMayGiveUp ⊤ ks e
sorting_stops WriterMayGiveUp ks e = weaker_stop e (λ u. u) (λ give ascend D. absurd (give ascend D))
