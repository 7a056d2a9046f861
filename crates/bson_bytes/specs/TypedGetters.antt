-- What a value of one kind is, and what a typed getter returns.
use Rattle.std.specs.Prelude.{ℕ, ℤ, Bool, List, Option, None, Some, Result, Ok, Err}
use Rattle.bson_scalar.specs.Scalar as kind
use Rattle.bson_model.specs.Value.{Value, Values, Pairs, value_at_key, scalar, array, document}
use Rattle.bson_types.specs.declared.spec.BinarySubtype.{BinarySubtype}
use Rattle.bson_types.specs.declared.timestamp.Timestamp.{Timestamp}
use Rattle.bson_bytes.specs.RawContents.{raw_contents}
use Rattle.bson_bytes.specs.declared.typed_getters.ValueAccessError.{ValueAccessError}
use Rattle.bson_bytes.specs.declared.typed_getters.ValueAccessError.TheVariants.{NotPresent, UnexpectedType}
use Rattle.bson_bytes.specs.declared.raw_document.RawDocument.{RawDocument}
use Rattle.bson_bytes.specs.declared.raw_value.RawBinaryRef.{RawBinaryRef}
use Rattle.bson_bytes.specs.declared.raw_value.RawRegexRef.{RawRegexRef}

-- the bit pattern of a double
abbrev pub double_value : Value → Option ℕ
double_value (scalar (kind.double bit_pattern)) = Some bit_pattern
double_value _ = None

abbrev pub string_value : Value → Option (List ℕ)
string_value (scalar (kind.text text)) = Some text
string_value _ = None

abbrev pub array_value : Value → Option Values
array_value (array values) = Some values
array_value _ = None

abbrev pub document_value : Value → Option Pairs
document_value (document pairs) = Some pairs
document_value _ = None

abbrev pub boolean_value : Value → Option Bool
boolean_value (scalar (kind.boolean truth_value)) = Some truth_value
boolean_value _ = None

abbrev pub int32_value : Value → Option ℤ
int32_value (scalar (kind.int32 number)) = Some number
int32_value _ = None

abbrev pub int64_value : Value → Option ℤ
int64_value (scalar (kind.int64 number)) = Some number
int64_value _ = None

-- the time, and the increment
abbrev pub timestamp_value : Value → Option (ℕ × ℕ)
timestamp_value (scalar (kind.timestamp time increment)) = Some (time, increment)
timestamp_value _ = None

abbrev pub timestamp_parts : Timestamp → ℕ × ℕ
timestamp_parts timestamp = (timestamp.time, timestamp.increment)

-- the subtype, and the bytes
abbrev pub binary_value : Value → Option (BinarySubtype × List ℕ)
binary_value (scalar (kind.binary subtype bytes)) = Some (subtype, bytes)
binary_value _ = None

abbrev pub binary_parts : RawBinaryRef → BinarySubtype × List ℕ
binary_parts binary = (binary.subtype, binary.bytes.now)

-- the pattern, and the options
abbrev pub regex_value : Value → Option (List ℕ × List ℕ)
regex_value (scalar (kind.regex pattern options)) = Some (pattern, options)
regex_value _ = None

abbrev pub regex_parts : RawRegexRef → List ℕ × List ℕ
regex_parts regex = (regex.pattern.now, regex.options.now)

-- the twelve bytes of an object id
abbrev pub object_id_value : Value → Option (List ℕ)
object_id_value (scalar (kind.object_id id)) = Some id
object_id_value _ = None

-- the milliseconds of a date-time
abbrev pub date_value : Value → Option ℤ
date_value (scalar (kind.date millis)) = Some millis
date_value _ = None

-- the sixteen bytes of a decimal
abbrev pub decimal_value : Value → Option (List ℕ)
decimal_value (scalar (kind.decimal bytes)) = Some bytes
decimal_value _ = None

-- what a getter returns for the value of the key
abbrev pub raw_type_result : {T : Type 0} → Option T → Result T ValueAccessError
raw_type_result None = Err UnexpectedType
raw_type_result (Some value_found) = Ok value_found

-- the same for a key that may be absent
abbrev pub raw_access_result : {T : Type 0} → (getter : Value → Option T) → Option Value → Result T ValueAccessError
raw_access_result getter None = Err NotPresent
raw_access_result getter (Some value_found) = raw_type_result (getter value_found)

-- what a getter returns at a key of a document
abbrev pub raw_value_at : {T : Type 0} → (getter : Value → Option T) → (key : List ℕ) → RawDocument
    → Result T ValueAccessError
raw_value_at getter key raw_document = raw_access_result getter (value_at_key key (raw_contents raw_document))

-- a result with what its value represents
abbrev pub ok_view : {A B : Type 0} → (view : A → B) → Result A ValueAccessError → Result B ValueAccessError
ok_view view (Ok returned) = Ok (view returned)
ok_view view (Err error) = Err error
