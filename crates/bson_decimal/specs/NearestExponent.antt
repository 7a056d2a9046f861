-- Which pairs of a coefficient and an exponent have the value text_coefficient * 10 ^ text_exponent, and which pair is nearest to the way it was
-- written. IEEE 754-2008, section 5.12.2, asks for the member of the cohort whose exponent is nearest to the one
-- that the text denotes.
use Rattle.std.specs.Prelude.{◌≡◌, ℕ, ◌*◌, ◌^◌, ◌<◌, ◌≤◌, ℤ, ◌-ℤ◌, ◌≤ℤ◌}
use Rattle.std.specs.Int.{int_min}
use lib.IntN.{nat_abs}
use Rattle.bson_decimal.specs.Exponents.{least_exponent, greatest_exponent}

-- coeff * 10 ^ exponent = text_coefficient * 10 ^ text_exponent, with both sides divided by 10 ^ lower, so that each power is a natural number; lower is the
-- lesser of exponent and text_exponent
abbrev pub HaveSameValue : (coeff : ℕ) → (exponent : ℤ) → (text_coefficient : ℕ) → (text_exponent : ℤ) → Type 0
HaveSameValue coeff exponent text_coefficient text_exponent =
    let lower = int_min exponent text_exponent in coeff * 10 ^ nat_abs (exponent -ℤ lower)
    ≡ text_coefficient * 10 ^ nat_abs (text_exponent -ℤ lower)

-- a decimal128 has the value: 34 digits, with an exponent in range
pub record IsDecimalRepresentation (text_coefficient : ℕ) (text_exponent : ℤ) (coeff : ℕ) (exponent : ℤ) : Type 0 where
  pub equal : HaveSameValue coeff exponent text_coefficient text_exponent
  pub coefficient : coeff < 10 ^ 34
  pub low : least_exponent ≤ℤ exponent
  pub high : exponent ≤ℤ greatest_exponent

abbrev pub exponent_distance : (text_exponent exponent : ℤ) → ℕ
exponent_distance text_exponent exponent = nat_abs (exponent -ℤ text_exponent)

-- the pair fits, and no pair that fits has a nearer exponent
pub record HasNearestExponent (text_coefficient : ℕ) (text_exponent : ℤ) (coeff : ℕ) (exponent : ℤ) : Type 0 where
  pub fits : IsDecimalRepresentation text_coefficient text_exponent coeff exponent
  pub least : (other_coeff : ℕ) (other_exponent : ℤ)
      → IsDecimalRepresentation text_coefficient text_exponent other_coeff other_exponent
      → exponent_distance text_exponent exponent ≤ exponent_distance text_exponent other_exponent
