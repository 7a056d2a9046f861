-- The text of a scalar, one kind per line. Strings are written as they are, with nothing escaped.
use Rattle.std.specs.Prelude.{ℕ, ◌-◌, ◌++◌, List, Bool, true, false, length, replicate, codes}
use Rattle.std.specs.Fmt.{decimal, signed_decimal, digits}
use Rattle.hex.specs.Hex.{encode_lower}
use Rattle.bson_datetime.specs.DateTimeText.{date_time_text as date_text}
use Rattle.bson_decimal.specs.DecimalText.{decimal128_text as decimal_text}
use Rattle.bson_types.specs.Base64.{padded_base64}
use Rattle.bson_types.specs.BinarySubtypes.{subtype_byte}
use Rattle.bson_scalar.specs.Scalar.{Scalar, null, undefined, min_key, max_key, boolean, double, int32, int64, text}
use Rattle.bson_scalar.specs.Scalar.{symbol, code, regex, timestamp, binary, object_id, date, decimal as decimal128}
use Rattle.bson_scalar.specs.Scalar.{db_pointer}

-- a pattern of 64 bits in 16 hexadecimal digits
abbrev pub sixteen_hex_digits : (pattern : ℕ) → List ℕ
sixteen_hex_digits pattern = replicate (16 - length (digits 16 false pattern)) 48 ++ digits 16 false pattern

abbrev pub boolean_text : Bool → List ℕ
boolean_text true = codes "true"
boolean_text false = codes "false"

abbrev pub scalar_text : Scalar → List ℕ
scalar_text null = codes "null"
scalar_text undefined = codes "undefined"
scalar_text min_key = codes "MinKey"
scalar_text max_key = codes "MaxKey"
scalar_text (boolean truth_value) = boolean_text truth_value
scalar_text (double pattern) = codes "Double(0x" ++ sixteen_hex_digits pattern ++ codes ")"
scalar_text (int32 integer) = signed_decimal integer
scalar_text (int64 integer) = signed_decimal integer
scalar_text (text text_bytes) = codes "\"" ++ text_bytes ++ codes "\""
scalar_text (symbol text_bytes) = codes "Symbol(\"" ++ text_bytes ++ codes "\")"
scalar_text (code text_bytes) = text_bytes
scalar_text (regex pattern options) = codes "/" ++ pattern ++ codes "/" ++ options
scalar_text (timestamp seconds increment) =
    codes "Timestamp(" ++ decimal seconds ++ codes ", " ++ decimal increment ++ codes ")"
scalar_text (binary subtype bytes) =
    codes "Binary(0x" ++ digits 16 false (subtype_byte subtype) ++ codes ", " ++ padded_base64 bytes ++ codes ")"
scalar_text (object_id id) = codes "ObjectId(\"" ++ encode_lower id ++ codes "\")"
scalar_text (date millis) = codes "DateTime(\"" ++ date_text millis ++ codes "\")"
scalar_text (decimal128 decimal_bytes) = decimal_text decimal_bytes
scalar_text (db_pointer namespace id) =
    codes "DbPointer(" ++ (namespace ++ (codes ", " ++ (encode_lower id ++ codes ")")))
