-- How a decimal is printed: the scientific form of IEEE 754-2008, section 5.12, in the form of the BSON specification
-- of decimal128.
use Rattle.std.specs.Prelude.{ℕ, ◌-◌, ◌&&◌, ℤ, pos, neg_ℤ, ◌+ℤ◌, ◌-ℤ◌, int_lt, int_le, unsigned_abs, List, [], ◌++◌}
use Rattle.std.specs.Prelude.{length, take, drop, replicate, codes, nat_lt, ◌==◌, if◌then◌else◌}
use Rattle.std.specs.Fmt.{decimal, signed_decimal, sign_text}
use Rattle.bson_decimal.specs.declared.bits.Decoded.{Decoded}
use Rattle.bson_decimal.specs.declared.bits.Decoded.TheVariants.{Nan, Infinity, Finite}
use Rattle.bson_decimal.specs.Exponents.{unbiased_exponent}
use Rattle.bson_decimal.specs.DecimalBits.{decoded_decimal}

-- the digits with a point before the last `decimal_places` of them, or after `0.` and zeros if there are no more
abbrev pub plain_text : (digits : List ℕ) → (decimal_places : ℕ) → List ℕ
plain_text digits decimal_places =
    if decimal_places == 0 then digits
    else (if nat_lt decimal_places (length digits)
    then take (length digits - decimal_places) digits ++ (codes "." ++ drop (length digits - decimal_places) digits)
    else codes "0." ++ (replicate (decimal_places - length digits) 48 ++ digits))

-- an exponent with its sign, `+` if it is above 0
abbrev pub signed_exponent_text : (exponent : ℤ) → List ℕ
signed_exponent_text exponent =
    if int_lt (pos 0) exponent then codes "+" ++ signed_decimal exponent else signed_decimal exponent

-- the exponent of the first digit, from that of the last
abbrev pub scientific_exponent : (digits : List ℕ) → (exponent : ℤ) → ℤ
scientific_exponent digits exponent = exponent +ℤ pos (length digits) -ℤ pos 1

-- the first digit, a point and the other digits if there are any, and the exponent of the first digit
abbrev pub scientific_text : (digits : List ℕ) → (first_digit_exponent : ℤ) → List ℕ
scientific_text digits first_digit_exponent =
    take 1 digits
    ++ ((if length digits == 1 then [] else codes "." ++ drop 1 digits)
    ++ (codes "E" ++ signed_exponent_text first_digit_exponent))

-- plain if the exponent is at most 0 and the exponent of the first digit at least -6
abbrev pub finite_text : (digits : List ℕ) → (exponent : ℤ) → List ℕ
finite_text digits exponent =
    if int_le exponent (pos 0) && int_le (neg_ℤ (pos 6)) (scientific_exponent digits exponent)
    then plain_text digits (unsigned_abs exponent)
    else scientific_text digits (scientific_exponent digits exponent)

-- a NaN has neither a sign nor a mark that it signals
abbrev pub decoded_decimal_text : Decoded → List ℕ
decoded_decimal_text (Nan negative signalling) = codes "NaN"
decoded_decimal_text (Infinity negative) = sign_text negative ++ codes "Infinity"
decoded_decimal_text (Finite negative coefficient stored_exponent) =
    sign_text negative ++ finite_text (decimal coefficient) (unbiased_exponent stored_exponent)

-- the string of the decimal of 16 bytes
unfoldable pub decimal128_text : (bytes : List ℕ) → List ℕ
decimal128_text bytes = decoded_decimal_text (decoded_decimal bytes)
