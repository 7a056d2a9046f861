-- What calls of a closure make of all values, where each leaves a function of the key and of what the value was.
use Rattle.std.proofs.Common.{◌≡◌, ℕ, List, [], ◌∷◌, map, refl}
use Rattle.std.specs.Prelude.{String}
use Rattle.std.specs.Borrow.{Bor, MutBor}
use Rattle.std.specs.Fn.{Mut}
use Rattle.std.specs.declared.alloc.Global.{Global}
use Rattle.bson.specs.declared.bson.Bson.{Bson}
use Rattle.bson.specs.ChangedValues.{ChangesValue, ChangesEach}

module _ {F : Type 0}
    (g : Mut F (Bor (String Global) × (MutBor Bson × Unit {0})) (Unit {0} × (MutBor Bson × Unit {0})))
    (left : List ℕ → Bson → Bson)
    (one : (f : F) (k : List ℕ) (v : Bson) (f' : F) (w : Bson) → ChangesValue g f k v f' w → w ≡ left k v) where
  pub each_is : (f : F) (ps : List (List ℕ × Bson)) (last : F) (qs : List (List ℕ × Bson)) → ChangesEach g f ps last qs
      → qs ≡ map (λ p. (p.0, left p.0 p.1)) ps
  each_is f [] last qs c = c.1
  each_is f (p ∷ ps) last qs c = rw (c.5, one f p.0 p.1 c.1 c.0 c.3, each_is c.1 ps last c.2 c.4) refl
