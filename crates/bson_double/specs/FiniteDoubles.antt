-- Finite doubles and the numbers that strings denote. A double is given as its 64 bits (IEEE 754-2008 binary64).
use Rattle.std.specs.Prelude.{◌%◌, ◌^◌, nat_lt, ℕ, List, Bool, Option, Some, None, option_and_then, to_bits}
use Rattle.std.specs.Prelude.{if◌then◌else◌}
use Rattle.std.specs.Float.{Float, binary64, float_is_finite}
use Rattle.fast_float.specs.Parse.{parse_float, completes_number, without_sign}
use Rattle.bson_double.specs.declared.parse.DoubleError.{DoubleError}
use Rattle.bson_double.specs.declared.parse.DoubleError.TheVariants.{NotANumber, OutOfRange}

-- neither an infinity nor a NaN: the exponent, 11 bits below the sign, is not all ones (IEEE 754-2008 section 3.4)
abbrev pub is_finite : (bits : ℕ) → Bool
is_finite bits = nat_lt (bits % 2 ^ 63) 0x7FF0000000000000

-- a sign or none, digits with at most one point and at least one digit, and perhaps `e` or `E`, a sign or none, digits
abbrev pub is_number : (text : List ℕ) → Bool
is_number text = completes_number 0 (without_sign text)

-- the bits of a float that is finite
abbrev pub finite_bits : Float → Option ℕ
finite_bits float = if float_is_finite float then Some (to_bits binary64 float) else None

-- the bits of the double nearest to the number that the string denotes, of two as near the even one (IEEE 754-2008
-- section 4.3.1); none if the string is not a number, or the double is an infinity
abbrev pub parsed_finite_bits : (text : List ℕ) → Option ℕ
parsed_finite_bits text = if is_number text then option_and_then finite_bits (parse_float binary64 text) else None

-- why a string does not denote a finite double
abbrev pub double_parse_error : (text : List ℕ) → DoubleError
double_parse_error text = if is_number text then OutOfRange else NotANumber
