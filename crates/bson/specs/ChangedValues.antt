-- What calls of a closure make of the values of a document.
use Rattle.std.specs.Prelude.{◌≡◌, ℕ, List, [], ◌∷◌, String, string_bytes}
use Rattle.std.specs.Borrow.{Bor, MutBor}
use Rattle.std.specs.Fn.{Mut, Called}
use Rattle.std.specs.declared.alloc.Global.{Global}
use Rattle.bson.specs.declared.bson.Bson.{Bson}

module _ {F : Type 0}
    (fn_mut : Mut F (Bor (String Global) × (MutBor Bson × Unit {0})) (Unit {0} × (MutBor Bson × Unit {0}))) where
  -- a call of the closure at the key and at a `&mut` to the value before may leave the closure after, and the value after
  pub record ChangesValue (closure_before : F) (key_bytes : List ℕ) (value_before : Bson) (closure_after : F)
      (value_after : Bson) : Type 0 where
    pub key_reference : Bor (String Global)
    pub value_reference : MutBor Bson
    pub final_reference : MutBor Bson
    pub key_matches : string_bytes key_reference.now ≡ key_bytes
    pub value_matches : value_reference.now ≡ value_before
    pub closure_called : Called fn_mut closure_before (key_reference, (value_reference, tt))
        (tt, (final_reference, tt)) closure_after
    pub leaves_value : final_reference.now ≡ value_after

  -- calls at the pairs before in turn may leave the closure after, and the pairs after: the same keys, each with what
  -- its call made of the value
  abbrev pub ChangesEach : (closure_before : F) → (pairs_before : List (List ℕ × Bson)) → (closure_after : F)
      → (pairs_after : List (List ℕ × Bson)) → Type 0
  ChangesEach closure_before [] closure_after pairs_after = (closure_after ≡ closure_before) × (pairs_after ≡ [])
  ChangesEach closure_before (pair_before ∷ pairs_before) closure_after pairs_after =
      (value_after : Bson) × (next_closure : F) × (rest_after : List (List ℕ × Bson))
      × ChangesValue closure_before pair_before.0 pair_before.1 next_closure value_after
      × ChangesEach next_closure pairs_before closure_after rest_after
      × (pairs_after ≡ (pair_before.0, value_after) ∷ rest_after)
