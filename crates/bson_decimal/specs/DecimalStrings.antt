-- The strings that denote a decimal.
use Rattle.std.specs.Prelude.{◌≡◌, ℕ, ◌+◌, ◌-◌, ◌*◌, ◌^◌, ◌≤◌, pos, neg_ℤ, ◌+ℤ◌, ◌≤ℤ◌, List, ◌++◌, length, map, codes}
use Rattle.std.specs.Char.{to_ascii_lowercase}
use Rattle.std.specs.Int.{w128, to_le_bytes}
use Rattle.bson_decimal.specs.Exponents.{unbiased_exponent}
use Rattle.bson_decimal.specs.DecimalBits.{encoded_finite, sign_bit}
use Rattle.bson_decimal.specs.NumeralGrammar.{Sign, sign_bytes, is_minus, Numeral, fraction_digits, digits_of, IsFiniteDecimalText}
use Rattle.bson_decimal.specs.NumeralGrammar.{number, written_exponent, exponent, without_leading_zeros}
use Rattle.bson_decimal.specs.NearestExponent.{HasNearestExponent}

-- the number of digits after the 34th, without leading zeros
abbrev pub digits_past_34 : Numeral → ℕ
digits_past_34 numeral = length (without_leading_zeros (digits_of numeral)) - 34

-- The limits of 16 bits of a string: for the exponent that is written, the digits after the point, the exponent that is
-- denoted, and the digits past the 34th, also if they move the exponent.
pub record IsWithinI16Limits (numeral : Numeral) : Type 0 where
  pub low : (neg_ℤ (pos 32768)) ≤ℤ written_exponent numeral.exponent
  pub high : written_exponent numeral.exponent ≤ℤ pos 32767
  pub fraction : length (fraction_digits numeral.fraction) ≤ 32767
  pub least : (neg_ℤ (pos 32768)) ≤ℤ exponent numeral
  pub cut : digits_past_34 numeral ≤ 32767
  pub greatest : (exponent numeral +ℤ pos (digits_past_34 numeral)) ≤ℤ pos 32767

abbrev pub lowercase : (text_bytes : List ℕ) → List ℕ
lowercase text_bytes = map to_ascii_lowercase text_bytes

-- a NaN or an infinity in any case, and its bit pattern as a number, without the sign
pub data IsNanOrInfinityWord (word : List ℕ) : ℕ → Type 0 where
  nan : lowercase word ≡ codes "nan" → IsNanOrInfinityWord word (124 * 2 ^ 120)
  snan : lowercase word ≡ codes "snan" → IsNanOrInfinityWord word (126 * 2 ^ 120)
  infinity : lowercase word ≡ codes "infinity" → IsNanOrInfinityWord word (120 * 2 ^ 120)
  inf : lowercase word ≡ codes "inf" → IsNanOrInfinityWord word (120 * 2 ^ 120)

-- The string denotes the decimal of the bit pattern: a special word with its sign, or a finite decimal within the
-- limits, whose bit pattern has the nearest pair. A string without a pair denotes nothing: no value is rounded.
pub data DenotesDecimal (text decimal_bytes : List ℕ) : Type 0 where
  special : (number_sign : Sign) (word : List ℕ) (special_bits : ℕ) → text ≡ sign_bytes number_sign ++ word
      → IsNanOrInfinityWord word special_bits
      → decimal_bytes ≡ to_le_bytes w128 (sign_bit (is_minus number_sign) + special_bits)
      → DenotesDecimal text decimal_bytes
  finite : (numeral : Numeral) (coefficient stored_exponent : ℕ) → IsFiniteDecimalText text numeral
      → IsWithinI16Limits numeral
      → HasNearestExponent (number numeral) (exponent numeral) coefficient (unbiased_exponent stored_exponent)
      → decimal_bytes ≡ to_le_bytes w128 (encoded_finite (is_minus numeral.sign) coefficient stored_exponent)
      → DenotesDecimal text decimal_bytes
