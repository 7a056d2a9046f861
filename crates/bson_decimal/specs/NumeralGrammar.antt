-- The grammar of finite decimals as strings, and the number that each denotes.
use Rattle.std.specs.Prelude.{◌≡◌, ℕ, ◌<◌, ℤ, pos, neg_ℤ, ◌-ℤ◌, Bool, true, false, ◌⊎◌, List, [], ◌∷◌, ◌++◌, length}
use Rattle.std.specs.Prelude.{Option, Some, None, if◌then◌else◌, ⊤, drop, ◌==◌, codes}
use Rattle.std.specs.List.{prefix_len}
use Rattle.std.specs.Str.Parse.{AllDigits, digits_value}

-- no sign, `+` or `-`
pub data Sign : Type 0 where
  none : Sign
  plus : Sign
  minus : Sign

abbrev pub sign_bytes : Sign → List ℕ
sign_bytes none = []
sign_bytes plus = codes "+"
sign_bytes minus = codes "-"

abbrev pub is_minus : Sign → Bool
is_minus none = false
is_minus plus = false
is_minus minus = true

-- an exponent: the byte `e` or `E`, a sign, and digits; or nothing
pub data Exponent : Type 0 where
  unwritten : Exponent
  written : (mark : ℕ) → Sign → (digits : List ℕ) → Exponent

-- digits, perhaps a point and more digits, and an exponent
pub record Numeral : Type 0 where
  pub sign : Sign
  pub integer_digits : List ℕ
  pub fraction : Option (List ℕ)
  pub exponent : Exponent

abbrev pub fraction_digits : Option (List ℕ) → List ℕ
fraction_digits None = []
fraction_digits (Some digits) = digits

abbrev pub fraction_bytes : Option (List ℕ) → List ℕ
fraction_bytes None = []
fraction_bytes (Some digits) = codes "." ++ digits

abbrev pub exponent_bytes : Exponent → List ℕ
exponent_bytes unwritten = []
exponent_bytes (written mark sign digits) = mark ∷ (sign_bytes sign ++ digits)

abbrev pub numeral_bytes : Numeral → List ℕ
numeral_bytes numeral =
    sign_bytes numeral.sign
    ++ (numeral.integer_digits ++ (fraction_bytes numeral.fraction ++ exponent_bytes numeral.exponent))

-- all digits before the exponent
abbrev pub digits_of : Numeral → List ℕ
digits_of numeral = numeral.integer_digits ++ fraction_digits numeral.fraction

abbrev pub IsExponent : Exponent → Type 0
IsExponent unwritten = ⊤
IsExponent (written mark sign digits) = ((mark ≡ 101) ⊎ (mark ≡ 69)) × (0 < length digits) × AllDigits 10 digits

-- the string is a finite decimal, and these are its parts
pub record IsFiniteDecimalText (text : List ℕ) (numeral : Numeral) : Type 0 where
  pub is : text ≡ numeral_bytes numeral
  pub digits : AllDigits 10 (digits_of numeral)
  pub some : 0 < length (digits_of numeral)
  pub exponent : IsExponent numeral.exponent

-- The string denotes this number times ten to the power of its exponent, with its sign.
abbrev pub number : Numeral → ℕ
number numeral = digits_value 10 (digits_of numeral)

abbrev pub written_exponent : Exponent → ℤ
written_exponent unwritten = pos 0
written_exponent (written mark sign digits) =
    if is_minus sign then neg_ℤ (pos (digits_value 10 digits)) else pos (digits_value 10 digits)

abbrev pub exponent : Numeral → ℤ
exponent numeral = written_exponent numeral.exponent -ℤ pos (length (fraction_digits numeral.fraction))

abbrev pub is_zero : (digit_byte : ℕ) → Bool
is_zero digit_byte = digit_byte == 48

abbrev pub without_leading_zeros : (digits : List ℕ) → List ℕ
without_leading_zeros digits = drop (prefix_len is_zero digits) digits
