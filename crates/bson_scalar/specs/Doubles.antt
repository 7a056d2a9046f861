-- `$numberDouble` (MongoDB Extended JSON v2; `-NaN` is our own): six texts of zeros, infinities and NaNs, and in the
-- mode `Finite` decimal numbers.
-- A double is its pattern of 64 bits (IEEE 754-2008 binary64). Read and written: {"$numberDouble": "-0.0"}.
use Rattle.std.specs.Prelude.{◌≡◌, ◌⊎◌, ◌&&◌, ◌||◌, ◌==◌, ◌/◌, ◌^◌, nat_lt, ℕ, List, Bool, true, codes}
use Rattle.std.specs.Prelude.{if◌then◌else◌, Option, Some, None}
use Rattle.std.specs.Float.{Float, binary64}
use Rattle.std.specs.Str.{bytes_eq}
use lib.Ieee.{fits}
use Rattle.bson_double.specs.FiniteDoubles.{is_finite, finite_bits, parsed_finite_bits}
use Rattle.bson_double.specs.DoubleText.{IsDoubleText}
use Rattle.serde_json.specs.Data.{Data, Num}
use Rattle.serde_json.specs.Data as tree
use Rattle.serde_json.specs.Find.{to_float}
use Rattle.bson_scalar.specs.TreeParts.{one_key_object}
use Rattle.bson_scalar.specs.Shortest.{finite_double_text}
use Rattle.bson_scalar.specs.Table.{key_of}
use Rattle.bson_scalar.specs.declared.form.Doubles.{Doubles}
use Rattle.bson_scalar.specs.declared.form.Doubles.TheVariants.{Special, Finite}
use Rattle.bson_scalar.specs.declared.wrapper.Wrapper.TheVariants.{NumberDouble}

-- a zero, an infinity or a NaN: all bits but the sign are 0; or the exponent, 11 bits below the sign, is all ones
-- (IEEE 754-2008 section 3.4)
abbrev pub is_special : (bit_pattern : ℕ) → Bool
is_special bit_pattern =
    (bit_pattern == 0 || bit_pattern == 2 ^ 63) || (bit_pattern / 2 ^ 52 == 0x7FF || bit_pattern / 2 ^ 52 == 0xFFF)

-- the pattern that a text means
abbrev pub special_double_pattern : (text_bytes : List ℕ) → Option ℕ
special_double_pattern text_bytes =
    if bytes_eq text_bytes (codes "0.0") then Some 0
    else if bytes_eq text_bytes (codes "-0.0") then Some 0x8000000000000000
    else if bytes_eq text_bytes (codes "Infinity") then Some 0x7FF0000000000000
    else if bytes_eq text_bytes (codes "-Infinity") then Some 0xFFF0000000000000
    else if bytes_eq text_bytes (codes "NaN") then Some 0x7FF8000000000000
    else if bytes_eq text_bytes (codes "-NaN") then Some 0xFFF8000000000000
    else None

-- all bits of the exponent set, and one of the significand: with sign bit 0, and with sign bit 1
abbrev pub is_nan : (bit_pattern : ℕ) → Bool
is_nan bit_pattern = nat_lt 0x7FF0000000000000 bit_pattern && nat_lt bit_pattern 0x8000000000000000

abbrev pub is_minus_nan : (bit_pattern : ℕ) → Bool
is_minus_nan bit_pattern = nat_lt 0xFFF0000000000000 bit_pattern && nat_lt bit_pattern 0x10000000000000000

-- a NaN as the pattern that its text means
abbrev pub normal_double : (bit_pattern : ℕ) → ℕ
normal_double bit_pattern =
    if is_nan bit_pattern then 0x7FF8000000000000 else if is_minus_nan bit_pattern then 0xFFF8000000000000
    else bit_pattern

-- the text of a pattern, if it has one
abbrev pub double_text : (bit_pattern : ℕ) → Option (List ℕ)
double_text bit_pattern =
    if bit_pattern == 0 then Some (codes "0.0")
    else if bit_pattern == 0x8000000000000000 then Some (codes "-0.0")
    else if bit_pattern == 0x7FF0000000000000 then Some (codes "Infinity")
    else if bit_pattern == 0xFFF0000000000000 then Some (codes "-Infinity")
    else if is_nan bit_pattern then Some (codes "NaN")
    else if is_minus_nan bit_pattern then Some (codes "-NaN")
    else None

abbrev pub double_tree : (text_bytes : List ℕ) → Data
double_tree text_bytes = one_key_object (key_of NumberDouble) (tree.string text_bytes)

-- ---- in each of the two modes

abbrev pub or_parsed_finite_bits : (special_bits : Option ℕ) → (text_bytes : List ℕ) → Option ℕ
or_parsed_finite_bits (Some bit_pattern) text_bytes = Some bit_pattern
or_parsed_finite_bits None text_bytes = parsed_finite_bits text_bytes

-- the pattern that a text means: in the mode `Finite` also that of the double nearest to a decimal number
abbrev pub double_bits_of_text : Doubles → (text_bytes : List ℕ) → Option ℕ
double_bits_of_text Special text_bytes = special_double_pattern text_bytes
double_bits_of_text Finite text_bytes = or_parsed_finite_bits (special_double_pattern text_bytes) text_bytes

-- the pattern of the double nearest to a JSON number, where it is finite
abbrev pub finite_float_bits : Float → Option ℕ
finite_float_bits float_value = if fits binary64 float_value then finite_bits float_value else None

abbrev pub finite_number : Num → Option ℕ
finite_number json_number = finite_float_bits (to_float json_number)

-- whether the pattern has a text
abbrev pub is_writable : Doubles → (bit_pattern : ℕ) → Bool
is_writable Special bit_pattern = is_special bit_pattern
is_writable Finite bit_pattern = is_special bit_pattern || is_finite bit_pattern

-- the pattern has this text: in the mode `Finite` also its shortest decimal
abbrev pub IsDoubleTextIn : Doubles → (bit_pattern : ℕ) (text_bytes : List ℕ) → Type 0
IsDoubleTextIn Special bit_pattern text_bytes = double_text bit_pattern ≡ Some text_bytes
IsDoubleTextIn Finite bit_pattern text_bytes = (double_text bit_pattern ≡ Some text_bytes)
    ⊎ ((is_finite bit_pattern ≡ true) × IsDoubleText bit_pattern text_bytes)

-- the same as functions, for the proofs
abbrev pub or_finite_text : (special_text : Option (List ℕ)) → (bit_pattern : ℕ) → Option (List ℕ)
or_finite_text (Some text_bytes) bit_pattern = Some text_bytes
or_finite_text None bit_pattern = finite_double_text bit_pattern

abbrev pub double_text_in : Doubles → (bit_pattern : ℕ) → Option (List ℕ)
double_text_in Special bit_pattern = double_text bit_pattern
double_text_in Finite bit_pattern = or_finite_text (double_text bit_pattern) bit_pattern
