-- The pattern of a text is canonical, or a NaN.
use Rattle.std.proofs.Common.{◌≡◌, ℕ, ◌+◌, ◌*◌, ◌^◌, ◌<◌, ◌⊎◌, inl, inr, Bool, true, false, List, ap, arith}
use Rattle.std.specs.Int.{w128, to_le_bytes}
use Rattle.bson_decimal.specs.DecimalBits.{decoded_decimal_bits, decoded_decimal, encoded_finite, sign_bit, is_decimal_nan, canonical_decimal}
use Rattle.bson_decimal.specs.DecimalBits.{canonical_decimal_bits}
use Rattle.bson_decimal.specs.NumeralGrammar.{is_minus}
use Rattle.bson_decimal.specs.DecimalStrings.{IsNanOrInfinityWord, nan, snan, infinity, inf, DenotesDecimal, special, finite}
use Rattle.bson_decimal.proofs.Bytes.{from_le_bytes-to_le_bytes_16}
use Rattle.bson_decimal.proofs.PatternLaws.{bytes_meaning-first_form}
use Rattle.bson_decimal.proofs.Shifted.{nearest-shifted}

abbrev IsCanonicalOrNan : List ℕ → Type 0
IsCanonicalOrNan b = (canonical_decimal b ≡ b) ⊎ (is_decimal_nan (decoded_decimal b) ≡ true)

meaning-is : (n : ℕ) → n < 2 ^ 128 → decoded_decimal (to_le_bytes w128 n) ≡ decoded_decimal_bits n
meaning-is n fits = ap decoded_decimal_bits (from_le_bytes-to_le_bytes_16 n fits)

nan-form : (negative : Bool) → IsCanonicalOrNan (to_le_bytes w128 (sign_bit negative + 124 * 2 ^ 120))
nan-form true = inr (ap is_decimal_nan (meaning-is (2 ^ 127 + 124 * 2 ^ 120) (omega arith)))
nan-form false = inr (ap is_decimal_nan (meaning-is (124 * 2 ^ 120) (omega arith)))

snan-form : (negative : Bool) → IsCanonicalOrNan (to_le_bytes w128 (sign_bit negative + 126 * 2 ^ 120))
snan-form true = inr (ap is_decimal_nan (meaning-is (2 ^ 127 + 126 * 2 ^ 120) (omega arith)))
snan-form false = inr (ap is_decimal_nan (meaning-is (126 * 2 ^ 120) (omega arith)))

infinity-form : (negative : Bool) → IsCanonicalOrNan (to_le_bytes w128 (sign_bit negative + 120 * 2 ^ 120))
unfolding canonical_decimal
infinity-form true =
    inl (ap (λ d. to_le_bytes w128 (canonical_decimal_bits d)) (meaning-is (2 ^ 127 + 120 * 2 ^ 120) (omega arith)))
infinity-form false = inl (ap (λ d. to_le_bytes w128 (canonical_decimal_bits d)) (meaning-is (120 * 2 ^ 120) (omega arith)))

word-form : (negative : Bool) (word : List ℕ) (n : ℕ) → IsNanOrInfinityWord word n
    → IsCanonicalOrNan (to_le_bytes w128 (sign_bit negative + n))
word-form negative word n (nan e) = nan-form negative
word-form negative word n (snan e) = snan-form negative
word-form negative word n (infinity e) = infinity-form negative
word-form negative word n (inf e) = infinity-form negative

finite-form : (negative : Bool) (c e : ℕ) → c < 10 ^ 34 → e < 12288
    → IsCanonicalOrNan (to_le_bytes w128 (encoded_finite negative c e))
unfolding canonical_decimal
finite-form negative c e small within =
    inl (ap (λ d. to_le_bytes w128 (canonical_decimal_bits d)) (bytes_meaning-first_form negative c e small within))

-- the pattern of a text is canonical, or a NaN
pub parses-form : (text b : List ℕ) → DenotesDecimal text b → (canonical_decimal b ≡ b) ⊎ (is_decimal_nan (decoded_decimal b) ≡ true)
parses-form text b (special s word n is w at) = rw at (word-form (is_minus s) word n w)
parses-form text b (finite n c e t l near at) =
    let f = (nearest-shifted n c e near).fits in
    rw at (finite-form (is_minus n.sign) c e f.coefficient f.exponent)
