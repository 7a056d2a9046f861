-- A map of one key, of two and of more.
use Rattle.std.proofs.Common.{◌≡◌, ℕ, List, [], ◌∷◌, length, String, Global, None, refl, sym}
use Rattle.serde_json.specs.Data.{object}
use Rattle.serde_json.specs.View.{members_view}
use Rattle.serde_json.specs.declared.value.Value.{Value}
use Rattle.bson_scalar.specs.Reading.{two_members, single_key_member}

abbrev pub Member : Type 0
Member = String Global × Value

two_none : (a b : List ℕ) (x y : Member) (rest : List Member) → (length rest ≡ 0 → ⊥)
    → two_members a b (object (members_view (x ∷ y ∷ rest))) ≡ None
two_none a b x y [] h = absurd (h refl)
two_none a b x y (z ∷ rest) h = refl

pub two_more : (a b : List ℕ) (es : List Member) (x y : Member) (mid rest : List Member) → es ≡ x ∷ mid → mid ≡ y ∷ rest
    → (length rest ≡ 0 → ⊥) → None ≡ two_members a b (object (members_view es))
two_more a b es x y mid rest p q h = rw (p, q) (sym (two_none a b x y rest h))

lone_none : (a : List ℕ) (x : Member) (rest : List Member) → (length rest ≡ 0 → ⊥)
    → single_key_member a (object (members_view (x ∷ rest))) ≡ None
lone_none a x [] h = absurd (h refl)
lone_none a x (z ∷ rest) h = refl

pub lone_more : (a : List ℕ) (es : List Member) (x : Member) (rest : List Member) → es ≡ x ∷ rest
    → (length rest ≡ 0 → ⊥) → None ≡ single_key_member a (object (members_view es))
lone_more a es x rest p h = rw p (sym (lone_none a x rest h))
