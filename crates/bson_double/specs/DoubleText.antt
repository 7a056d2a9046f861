-- A finite double as a string: its sign, and the digits of its shortest decimal with a point or an exponent.
use Rattle.std.specs.Prelude.{◌≡◌, ◌+◌, ◌-◌, ◌%◌, ◌^◌, ◌⊎◌, ◌&&◌, ◌==◌, nat_lt, nat_le, ℕ, List, [], ◌++◌}
use Rattle.std.specs.Prelude.{length, take, drop, replicate, codes, if◌then◌else◌}
use Rattle.std.specs.Fmt.{decimal, sign_text}
use Rattle.bson_double.specs.ShortestDecimal.{IsShortest}

-- Digits 123 denote the number 0.123 * 10 ^ (point_position - 1100).

-- the digits with a point at its position, with zeros up to it and a digit on each side
abbrev pub positional_notation : (characters : List ℕ) → (point_position : ℕ) → List ℕ
positional_notation characters point_position =
    if nat_le point_position 1100 then codes "0." ++ (replicate (1100 - point_position) 48 ++ characters)
    else if nat_le (length characters) (point_position - 1100)
    then characters ++ (replicate (point_position - 1100 - length characters) 48 ++ codes ".0")
    else take (point_position - 1100) characters ++ (codes "." ++ drop (point_position - 1100) characters)

-- the exponent: the power of ten of the first digit
abbrev pub double_exponent_text : (point_position : ℕ) → List ℕ
double_exponent_text point_position =
    if nat_lt point_position 1101 then codes "e-" ++ decimal (1101 - point_position) else codes "e" ++ decimal
    (point_position - 1101)

-- the digits with a point after the first one, if there are others, and the exponent
abbrev pub scientific_notation : (characters : List ℕ) → (point_position : ℕ) → List ℕ
scientific_notation characters point_position =
    take 1 characters
    ++ ((if length characters == 1 then [] else codes "." ++ drop 1 characters) ++ double_exponent_text point_position)

-- with a point if at most 16 digits are before it, and at most 4 zeros between it and the first digit
abbrev pub decimal_notation : (characters : List ℕ) → (point_position : ℕ) → List ℕ
decimal_notation characters point_position =
    if (nat_lt 1095 point_position && nat_le point_position 1116) then positional_notation characters point_position
    else scientific_notation characters point_position

-- the string of the decimal with these digits times 10 ^ (power - 1100)
abbrev pub decimal_text : (digits power : ℕ) → List ℕ
decimal_text digits power = decimal_notation (decimal digits) (length (decimal digits) + power)

-- the string of a finite double without its sign, and with it
abbrev pub IsUnsignedText : (bits : ℕ) → (characters : List ℕ) → Type 0
IsUnsignedText bits characters = ((bits ≡ 0) × (characters ≡ codes "0.0"))
    ⊎ ((digits : ℕ) × (power : ℕ) × IsShortest bits digits power × (characters ≡ decimal_text digits power))

abbrev pub IsDoubleText : (bits : ℕ) → (characters : List ℕ) → Type 0
IsDoubleText bits characters = (unsigned_chars : List ℕ) × IsUnsignedText (bits % 2 ^ 63) unsigned_chars
    × (characters ≡ sign_text (nat_le (2 ^ 63) bits) ++ unsigned_chars)
