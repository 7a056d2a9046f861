-- Keys of which no two are equal, each different from those after it.
use Rattle.std.proofs.Common.{◌≡◌, ℕ, suc, ◌<◌, List, [], ◌∷◌, length, get_or, Bool, true, false, ◌||◌, refl, sym, arith}
use Rattle.std.proofs.lemmas.Slice.Eq.{bytes_eq-Decides}
use Rattle.std.specs.Str.{bytes_eq}
use Rattle.json.specs.Strict.{AreDistinct}

abbrev pub stands : List ℕ → List (List ℕ) → Bool
stands k [] = false
stands k (l ∷ ks) = bytes_eq k l || stands k ks

abbrev pub Differ : List (List ℕ) → Type 0
Differ [] = Unit {0}
Differ (k ∷ ks) = (stands k ks ≡ false) × Differ ks

abbrev StandsAt : List ℕ → List (List ℕ) → Type 0
StandsAt k ks = (j : ℕ) × (j < length ks) × ((d : List ℕ) → get_or ks j d ≡ k)

found_at : (b : Bool) (k l : List ℕ) (ks : List (List ℕ)) → bytes_eq k l ≡ b → (stands k ks ≡ true → StandsAt k ks)
    → (b || stands k ks) ≡ true → StandsAt k (l ∷ ks)
found_at true k l ks e more h = (0, omega arith, λ d. sym ((bytes_eq-Decides k l).0 e))
found_at false k l ks e more h = let g = more h in (suc g.0, omega (arith, g.1), λ d. g.2 d)

key_at : (k : List ℕ) (ks : List (List ℕ)) → stands k ks ≡ true → StandsAt k ks
key_at k [] h = cc
key_at k (l ∷ ks) h = found_at (bytes_eq k l) k l ks refl (key_at k ks) h

not_true : (b : Bool) → (b ≡ true → ⊥) → b ≡ false
not_true true h = absurd (h refl)
not_true false h = refl

pub differ : (ks : List (List ℕ)) → AreDistinct ks → Differ ks
differ [] h = tt
differ (k ∷ ks) h = (
  not_true (stands k ks) (λ there.
      let g = key_at k ks there in h 0 (suc g.0) [] (omega arith) (omega (arith, g.1)) (sym (g.2 []))),
  differ ks (λ i j d less within e. h (suc i) (suc j) d (omega (arith, less)) (omega (arith, within)) e),
)
