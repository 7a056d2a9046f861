-- Parts of a text.
use Rattle.std.proofs.Common.{◌≡◌, ◌≤◌, ◌+◌, ◌++◌, ℕ, List, [], length, take, drop, refl, sym, ap, ◌∙◌, append-nil, append_assoc, arith}
use Rattle.std.proofs.Common.{length-append}
use Rattle.std.proofs.lemmas.List.{take-append-drop, length-take-le}
use Rattle.bson_run.specs.ErrorMessages.{IsSubsliceAt}

pub all : (text : List ℕ) → IsSubsliceAt 0 text text
all text = ([], [], sym (append-nil text), refl)

module _ (n offset : ℕ) (text whole part : List ℕ) (p : IsSubsliceAt offset whole text) where
  cut_there : text ≡ p.0 ++ take n whole ++ drop n whole ++ p.1
  cut_there = p.2 ∙ ap (λ w. p.0 ++ w ++ p.1) (sym (take-append-drop n whole))
      ∙ ap (λ w. w ++ p.1) (sym (append_assoc p.0 (take n whole) (drop n whole)))

  pub of_front : part ≡ take n whole → IsSubsliceAt offset part text
  of_front is = (
    p.0,
    drop n whole ++ p.1,
    cut_there ∙ append_assoc (p.0 ++ take n whole) (drop n whole) p.1
        ∙ ap (λ w. p.0 ++ w ++ (drop n whole ++ p.1)) (sym is),
    p.3,
  )

  pub of_back : (start : ℕ) → start ≡ offset + n → n ≤ length whole → part ≡ drop n whole → IsSubsliceAt start part text
  of_back start from within is = (
    p.0 ++ take n whole,
    p.1,
    cut_there ∙ ap (λ w. p.0 ++ take n whole ++ w ++ p.1) (sym is),
    omega (arith, from, p.3, length-append p.0 (take n whole), length-take-le n whole within),
  )
