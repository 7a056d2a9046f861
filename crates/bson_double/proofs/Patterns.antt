-- Patterns and values.
use Rattle.std.proofs.Common.{◌≡◌, ℕ, ◌<◌, ◌^◌, true, not, T, refl, sym, ap, ◌∙◌, subst, arith, to_bits, from_bits}
use Rattle.std.specs.Prelude.{is_nan}
use Rattle.std.specs.Float.{binary64, float_is_finite}
use Rattle.std.proofs.lemmas.Bool.{ltb-true}
use Rattle.std.proofs.lemmas.Float.{not_nan_f64_bits}
use Rattle.std.specs.Prelude.{Some}
use Rattle.ryu.proofs.Signs.{parts}
use Rattle.bson_double.specs.FiniteDoubles.{is_finite, finite_bits}
use lib.Ieee.{nan_bits}
use lib.Ieee.Bits.{to_bits-of_bits, nan_bits_is}

-- finite bits are not those of a NaN
pub not_nan_bits : (p : ℕ) → is_finite p ≡ true → T (not (nan_bits binary64 p))
not_nan_bits p h = not_nan_f64_bits p (let l = ltb-true _ _ h in omega (arith, l))

pub not_nan : (p : ℕ) → is_finite p ≡ true → T (not (is_nan (from_bits binary64 p)))
not_nan p h = subst (λ b. T (not b)) (nan_bits_is binary64 p) (not_nan_bits p h)

-- the value of some bits has the same bits
pub bits_back : (p : ℕ) → p < 2 ^ 64 → is_finite p ≡ true → to_bits binary64 (from_bits binary64 p) ≡ p
bits_back p l h = to_bits-of_bits binary64 p l (not_nan p h)

pub same_value : (p q : ℕ) → p < 2 ^ 64 → q < 2 ^ 64 → is_finite p ≡ true → is_finite q ≡ true
    → from_bits binary64 p ≡ from_bits binary64 q → p ≡ q
same_value p q l m h i e = sym (bits_back p l h) ∙ (ap (to_bits binary64) e ∙ bits_back q m i)

-- finite bits are those of a finite float
pub finite_value : (p : ℕ) → p < 2 ^ 64 → is_finite p ≡ true → float_is_finite (from_bits binary64 p) ≡ true
finite_value p l h = (parts binary64 (from_bits binary64 p) p refl l (not_nan p h)).finite.1 (ltb-true _ _ h)

-- its bits are found again
pub bits_of_finite : (p : ℕ) → p < 2 ^ 64 → is_finite p ≡ true → finite_bits (from_bits binary64 p) ≡ Some p
bits_of_finite p l h = rw (finite_value p l h, bits_back p l h) refl
