-- The parts of an input between separators: which are texts, and how many there are.
use Rattle.std.proofs.Common.{◌≡◌, ◌⊎◌, inl, inr, ◌<◌, ◌+◌, ℕ, Bool, true, false, cond, if◌then◌else◌, List, [], ◌∷◌, ◌++◌, length}
use Rattle.std.proofs.Common.{refl, ap, sym, ◌∙◌, length-append, nat_lt, arith}
use Rattle.std.proofs.lemmas.Bool.Decides.{nat_tests}
use Rattle.bson_json.specs.declared.sequence.Separator.{Separator}
use Rattle.bson_json.specs.declared.sequence.Separator.TheVariants.{WhiteSpace}
use Rattle.bson_json.specs.Sequence.{keeps_part, parts, prepend_text, texts_after, texts_in, texts_of_parts}

-- ---- parts that are texts

-- where the bytes after a part begin
abbrev pub IsNext : (rest text next : List ℕ) → Type 0
IsNext rest text next = ((rest ≡ text) × (next ≡ [])) ⊎ ((x : ℕ) × (rest ≡ text ++ x ∷ next))

-- whether a separator comes after a part
abbrev pub has_next : (rest text : List ℕ) → Bool
has_next rest text = nat_lt (length text) (length rest)

none_next : (rest text : List ℕ) → rest ≡ text → has_next rest text ≡ false
none_next rest text is =
    let none : nat_lt (length text) (length text) ≡ false = grind (arith, nat_tests) in
    ap (λ l. nat_lt (length text) (length l)) is ∙ none

pub no_text : (k : Separator) (text : List ℕ) (texts : List (List ℕ)) → keeps_part k text ≡ false → prepend_text k text texts ≡ texts
no_text k text texts e = ap (λ b. if b then text ∷ texts else texts) e

pub one_text : (k : Separator) (text : List ℕ) (texts : List (List ℕ)) → keeps_part k text ≡ true → prepend_text k text texts ≡ text ∷ texts
one_text k text texts e = ap (λ b. if b then text ∷ texts else texts) e

-- ---- how many there are

nothing_in : texts_in WhiteSpace [] ≡ []
unfolding texts_of_parts parts
nothing_in = refl

none_left : (rest : List ℕ) → length rest ≡ 0 → texts_in WhiteSpace rest ≡ []
none_left [] none = nothing_in
none_left (x ∷ xs) none = absurd (omega (arith, none))

texts_left : (rest text next : List ℕ) → IsNext rest text next → texts_after WhiteSpace (has_next rest text) next ≡ texts_in WhiteSpace next
texts_left rest text next (inl is) =
    let none = none_next rest text is.0 in
    ap (λ b. texts_after WhiteSpace b next) none ∙ sym (ap (texts_in WhiteSpace) is.1 ∙ nothing_in)
texts_left rest text next (inr (x, is)) =
    let size = ap length is ∙ length-append text (x ∷ next) in
    let some : length text < length rest = omega (arith, size) in
    let more : has_next rest text ≡ true = grind (arith, nat_tests, some) in
    ap (λ b. texts_after WhiteSpace b next) more

-- all texts are the one that was found, if it was, and those that are left
abbrev pub AreCounted : (content rest : List ℕ) → (has_one : Bool) → Type 0
AreCounted content rest has_one = length (texts_in WhiteSpace content) ≡ cond has_one 1 0 + length (texts_in WhiteSpace rest)

module _ (content rest text next : List ℕ)
    (found : texts_in WhiteSpace rest ≡ prepend_text WhiteSpace text (texts_after WhiteSpace (has_next rest text) next))
    (place : IsNext rest text next) where
  left : keeps_part WhiteSpace text ≡ true → length (texts_in WhiteSpace rest) ≡ 1 + length (texts_in WhiteSpace next)
  left some =
      let all = ap length (found ∙ one_text WhiteSpace text _ some) in
      let same = ap length (texts_left rest text next place) in
      omega (arith, all, same)

  pub counts_one : (has_one : Bool) → has_one ≡ false → keeps_part WhiteSpace text ≡ true → AreCounted content rest has_one
      → AreCounted content next true
  counts_one has_one first some before =
      let none = before ∙ ap (λ b. cond b 1 0 + length (texts_in WhiteSpace rest)) first in
      omega (arith, none, left some)

at_most_one : (has_one : Bool) (all : ℕ) → all ≡ cond has_one 1 0 + 0 → false ≡ nat_lt 1 all
at_most_one true all is = grind (arith, nat_tests, is)
at_most_one false all is = grind (arith, nat_tests, is)

pub less_than_two : (content rest : List ℕ) (has_one : Bool) → length rest ≡ 0 → AreCounted content rest has_one
    → false ≡ nat_lt 1 (length (texts_in WhiteSpace content))
less_than_two content rest has_one none before =
    at_most_one has_one (length (texts_in WhiteSpace content))
    (before ∙ ap (λ ts. cond has_one 1 0 + length ts) (none_left rest none))

-- a run ends: fewer bytes are left, or no separator comes after the part
pub shorter : (rest text next : List ℕ) → IsNext rest text next
    → length next + cond (has_next rest text) 1 0 < length rest + 1
shorter rest text next (inl is) =
    let none = none_next rest text is.0 in
    let last : length next + cond (has_next rest text) 1 0 ≡ 0 =
    ap (λ b. length next + cond b 1 0) none ∙ ap (λ l. length l + 0) is.1 in
    omega (arith, last)
shorter rest text next (inr (x, is)) =
    let size = ap length is ∙ length-append text (x ∷ next) in
    let some : length text < length rest = omega (arith, size) in
    let more : has_next rest text ≡ true = grind (arith, nat_tests, some) in
    let left : length next + cond (has_next rest text) 1 0 ≡ length next + 1 = ap (λ b. length next + cond b 1 0) more in
    omega (arith, left, size)
