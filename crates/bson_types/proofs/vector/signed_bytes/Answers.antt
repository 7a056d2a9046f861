use Rattle.std.proofs.Common.{◌≡◌, ℕ, suc, List, [], ◌∷◌, get_or, map, refl, ap, Fits, w8}
use Rattle.std.specs.Int.{cast_signed, cast_unsigned}
use Rattle.std.specs.List.{AllByRecursion}
use Rattle.std.proofs.Common.{FitsSigned}
use Rattle.std.proofs.Math.Facts.{sfits_to_z}
use Rattle.std.proofs.lemmas.Int.{of_z-to_z}
use Rattle.bson_types.proofs.vector.signed_bytes.Goals as goal

-- bytes come back from their signed forms
back : (xs : List ℕ) → ((i : ℕ) → Fits w8 (get_or xs i 0)) → map (cast_unsigned w8) (map (cast_signed w8) xs) ≡ xs
back [] h = refl
back (x ∷ xs) h =
    let first : cast_unsigned w8 (cast_signed w8 x) ≡ x = of_z-to_z w8 x (h 0).fits in
    rw first (ap (λ ys. x ∷ ys) (back xs (λ i. h (suc i))))

pub returns-in-Ok-clause-ok : goal.returns-in-Ok-clause-ok
returns-in-Ok-clause-ok c = rw c.in-Ok.ensures (back c.args.data.now c.type_inv.data)

-- a signed form is in range
signed : (xs : List ℕ) → ((i : ℕ) → Fits w8 (get_or xs i 0)) → AllByRecursion (FitsSigned w8) (map (cast_signed w8) xs)
signed [] h = tt
signed (x ∷ xs) h = (sfits_to_z (h 0), signed xs (λ i. h (suc i)))

pub returns-in-Ok-clause-range : goal.returns-in-Ok-clause-range
returns-in-Ok-clause-range c = rw c.in-Ok.ensures (signed c.args.data.now c.type_inv.data)
