-- Strings of hexadecimal digits, of either case (RFC 4648 section 8).
use Rattle.std.specs.Prelude.{◌≡◌, ◌⊎◌, ◌<◌, ◌≤◌, ℕ, ◌+◌, ◌-◌, ◌*◌, List, [], ◌∷◌, codes, slice_index, Option}
use Rattle.std.specs.Prelude.{Some, None, nat_lt, if◌then◌else◌}

-- the number of the only character of a string
abbrev pub char_code : (text : List ℕ) → ℕ
char_code text = slice_index text 0

-- the character is a digit of the value: `0` to `9`, and then `a` to `f` or `A` to `F`
abbrev pub IsHexDigitOf : (digit_value digit_char : ℕ) → Type 0
IsHexDigitOf digit_value digit_char =
    ((digit_value < 10) × (digit_char ≡ char_code (codes "0") + digit_value))
    ⊎ ((10 ≤ digit_value) × (digit_value < 16)
    × ((digit_char ≡ char_code (codes "a") + (digit_value - 10))
    ⊎ (digit_char ≡ char_code (codes "A") + (digit_value - 10))))

-- a value below 16, as that of a digit
abbrev pub below_16 : ℕ → Option ℕ
below_16 digit_value = if nat_lt digit_value 16 then Some digit_value else None

-- the byte of the values of two digits
abbrev pub byte_of_hex_digits : (high low : Option ℕ) → Option ℕ
byte_of_hex_digits (Some high) (Some low) = Some (high * 16 + low)
byte_of_hex_digits (Some high) None = None
byte_of_hex_digits None low = None

-- the string has two digits for each byte, the higher one first
pub data IsHexText : (text bytes : List ℕ) → Type 0 where
  nothing : IsHexText [] []
  digit_pair : (high low high_char low_char : ℕ) (text bytes : List ℕ) → IsHexDigitOf high high_char
      → IsHexDigitOf low low_char → IsHexText text bytes
      → IsHexText (high_char ∷ low_char ∷ text) ((high * 16 + low) ∷ bytes)
