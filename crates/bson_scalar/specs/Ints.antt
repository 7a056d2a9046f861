-- `$numberInt` and `$numberLong` (MongoDB Extended JSON v2): the text of an integer.
-- Read: {"$numberInt": "+007"}. Written: {"$numberInt": "7"}; relaxed: 7.
use Rattle.std.specs.Prelude.{◌≡◌, ◌^◌, nat_lt, ℕ, ℤ, pos, negsuc, List, Bool, if◌then◌else◌, FitsSigned}
use Rattle.std.specs.Fmt.{signed_decimal}
use Rattle.std.specs.Str.Parse.{IsNumeral, without_leading_sign, signed_digits_value}
use mir.Syntax.{Width}
use Rattle.serde_json.specs.Data.{Data}
use Rattle.serde_json.specs.Data as tree
use Rattle.bson_scalar.specs.Scalar.{Scalar, int32, int64}
use Rattle.bson_scalar.specs.TreeParts.{one_key_object}
use Rattle.bson_scalar.specs.Table.{key_of}
use Rattle.bson_scalar.specs.declared.wrapper.Wrapper.TheVariants.{NumberInt, NumberLong}

-- a sign or none, and digits, whose number fits
abbrev pub IsIntText : Width → (text_bytes : List ℕ) → (integer_value : ℤ) → Type 0
IsIntText bit_width text_bytes integer_value = IsNumeral 10 (without_leading_sign text_bytes)
    × (integer_value ≡ signed_digits_value 10 text_bytes) × FitsSigned bit_width integer_value

-- the written text is the plain decimal number
abbrev pub int32_tree : (integer_value : ℤ) → Data
int32_tree integer_value = one_key_object (key_of NumberInt) (tree.string (signed_decimal integer_value))

abbrev pub int64_tree : (integer_value : ℤ) → Data
int64_tree integer_value = one_key_object (key_of NumberLong) (tree.string (signed_decimal integer_value))

-- whether the number fits a signed type, this many bits of which are not the sign
abbrev pub fits_bits : (magnitude_bits : ℕ) → ℤ → Bool
fits_bits magnitude_bits (pos magnitude) = nat_lt magnitude (2 ^ magnitude_bits)
fits_bits magnitude_bits (negsuc magnitude) = nat_lt magnitude (2 ^ magnitude_bits)

-- an Int32 where the number fits one, else an Int64
abbrev pub narrowest_int : (integer_value : ℤ) → Scalar
narrowest_int integer_value = if fits_bits 31 integer_value then int32 integer_value else int64 integer_value
