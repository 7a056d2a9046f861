-- What the tree of a scalar is read as, as functions: for the order of faults, and for the proofs. `Means` is the
-- grammar.
use Rattle.std.specs.Prelude.{◌+◌, ◌*◌, ◌^◌, ◌==◌, ◌&&◌, nat_lt, ℕ, ℤ, pos, List, [], ◌∷◌, length, codes, Bool, false}
use Rattle.std.specs.Prelude.{if◌then◌else◌, Option, Some, None, option_map, Result, Ok, Err}
use Rattle.std.specs.Int.{w128, to_le_bytes}
use Rattle.std.specs.Result.{result_ok}
use Rattle.std.specs.Str.{bytes_eq, all_ascii_digits}
use Rattle.std.specs.Str.Parse.{without_leading_sign, signed_digits_value, starts_with_minus}
use Rattle.base64.specs.GeneralPurpose.{decode_of}
use Rattle.base64.specs.Engines.{standard}
use Rattle.hex.specs.Hex.{decode_sized}
use Rattle.hex.specs.declared.error.FromHexError.{FromHexError}
use Rattle.bson_datetime.specs.Rfc3339Parser.{parsed_rfc3339_millis}
use Rattle.bson_decimal.specs.DecimalBits.{encoded_finite, sign_bit}
use Rattle.bson_decimal.specs.ParseSteps.{finite}
use Rattle.bson_decimal.specs.DecimalStrings.{lowercase}
use Rattle.bson_types.specs.Base64.{padded_base64}
use Rattle.bson_types.specs.UuidByteOrder.{parsed_hyphenated}
use Rattle.bson_types.specs.Regex.{sorted_regex_options}
use Rattle.bson_types.specs.BinarySubtypes.{subtype_of}
use Rattle.bson_types.specs.declared.spec.BinarySubtype.TheVariants as subtype
use Rattle.serde_json.specs.Data.{Data, Num, Members, no_members, member}
use Rattle.serde_json.specs.Data as tree
use Rattle.serde_json.specs.Find.{as_i64, as_str}
use Rattle.bson_scalar.specs.Doubles.{double_bits_of_text, finite_number}
use Rattle.bson_scalar.specs.Faults.{Fault, wrong_shape, wrong_id, ◌>>=◌, or_wrong_shape}
use Rattle.bson_scalar.specs.Ints.{fits_bits, narrowest_int}
use Rattle.bson_scalar.specs.Scalar.{Scalar, null, undefined, min_key, max_key, boolean, double, int32, int64, text}
use Rattle.bson_scalar.specs.Scalar.{symbol, code, regex, timestamp, binary, object_id, date, decimal, db_pointer}
use Rattle.bson_scalar.specs.TreeParts.{i64_at, u32_at}
use Rattle.bson_scalar.specs.Table.{wrapper_of, Wrapper, Oid, Symbol, RegularExpression, NumberInt, NumberLong}
use Rattle.bson_scalar.specs.Table.{NumberDouble, NumberDecimal, Binary, Uuid, Code, Timestamp, Date, MinKey, MaxKey}
use Rattle.bson_scalar.specs.Table.{DbPointer, Undefined}
use Rattle.bson_scalar.specs.declared.form.Doubles.{Doubles}
use Rattle.bson_scalar.specs.declared.form.Doubles.TheVariants.{Special, Finite}

-- ---- shapes

-- the value of a map that has this key alone
abbrev pub single_key_member : (key : List ℕ) → Data → Option Data
single_key_member key (tree.object (member key_text content no_members)) =
    if bytes_eq key_text key then Some content else None
single_key_member key _ = None

-- the values of a map that has just these two keys, of which the first is the lesser
abbrev pub two_members : (first_key second_key : List ℕ) → Data → Option (Data × Data)
two_members first_key second_key (tree.object (member key_text content (member other_key other_content no_members))) =
    if bytes_eq key_text first_key && bytes_eq other_key second_key then Some (content, other_content)
    else None
two_members first_key second_key _ = None

-- what a text, the value of a lone key and those of two keys are read as; anything else is wrong
abbrev pub on_text : {X : Type 0} → Data → (List ℕ → Result X Fault) → Result X Fault
on_text content read_content = or_wrong_shape (as_str content) >>= read_content

abbrev pub on_single_key : {X : Type 0} → (key : List ℕ) → Data → (Data → Result X Fault) → Result X Fault
on_single_key key content read_content = or_wrong_shape (single_key_member key content) >>= read_content

abbrev pub on_two_keys : {X : Type 0} → (first_key second_key : List ℕ) → Data → (Data → Data → Result X Fault)
    → Result X Fault
on_two_keys first_key second_key content read_content =
    or_wrong_shape (two_members first_key second_key content) >>= λ two_values. read_content two_values.0 two_values.1

-- ---- numbers

abbrev pub is_numeral : (digit_text : List ℕ) → Bool
is_numeral digit_text = nat_lt 0 (length digit_text) && all_ascii_digits digit_text

-- the number of an int text
unfoldable pub parsed_int : (magnitude_bits : ℕ) (numeral_text : List ℕ) → Option ℤ
parsed_int magnitude_bits numeral_text =
    if is_numeral (without_leading_sign numeral_text) && fits_bits magnitude_bits (signed_digits_value 10 numeral_text)
    then Some (signed_digits_value 10 numeral_text) else None

abbrev pub number_read : Num → Result Scalar Fault
number_read json_number = or_wrong_shape (as_i64 json_number) >>= λ integer. Ok (narrowest_int integer)

abbrev pub integer_or_double_read : Option ℤ → Num → Result Scalar Fault
integer_or_double_read (Some integer) json_number = Ok (narrowest_int integer)
integer_or_double_read None json_number =
    or_wrong_shape (finite_number json_number) >>= λ bit_pattern. Ok (double bit_pattern)

abbrev pub number_read_in : Doubles → Num → Result Scalar Fault
number_read_in Special json_number = number_read json_number
number_read_in Finite json_number = integer_or_double_read (as_i64 json_number) json_number

abbrev pub int32_read : Data → Result Scalar Fault
int32_read content =
    on_text content (λ text_bytes. or_wrong_shape (parsed_int 31 text_bytes) >>= λ integer. Ok (int32 integer))

abbrev pub int64_read : Data → Result Scalar Fault
int64_read content =
    on_text content (λ text_bytes. or_wrong_shape (parsed_int 63 text_bytes) >>= λ integer. Ok (int64 integer))

abbrev pub double_read_in : Doubles → Data → Result Scalar Fault
double_read_in doubles content =
    on_text content
    (λ text_bytes. or_wrong_shape (double_bits_of_text doubles text_bytes) >>= λ bit_pattern. Ok (double bit_pattern))

-- the number of the pattern of a NaN or an infinity
abbrev pub nan_or_infinity_bits : (unsigned_text : List ℕ) → Option ℕ
nan_or_infinity_bits unsigned_text =
    if bytes_eq (lowercase unsigned_text) (codes "nan") then Some (124 * 2 ^ 120)
    else if bytes_eq (lowercase unsigned_text) (codes "snan") then Some (126 * 2 ^ 120)
    else if bytes_eq (lowercase unsigned_text) (codes "infinity") then Some (120 * 2 ^ 120)
    else if bytes_eq (lowercase unsigned_text) (codes "inf") then Some (120 * 2 ^ 120)
    else None

abbrev pub finite_decimal : (text_bytes : List ℕ) → Option (List ℕ)
finite_decimal text_bytes =
    option_map (λ number_parts. to_le_bytes w128
    (encoded_finite (starts_with_minus text_bytes) number_parts.0 number_parts.1))
    (result_ok (finite (without_leading_sign text_bytes)))

abbrev pub special_or_finite_decimal : (text_bytes : List ℕ) → (special_bits : Option ℕ) → Option (List ℕ)
special_or_finite_decimal text_bytes (Some special_bits) =
    Some (to_le_bytes w128 (sign_bit (starts_with_minus text_bytes) + special_bits))
special_or_finite_decimal text_bytes None = finite_decimal text_bytes

-- the pattern of a decimal text
unfoldable pub decimal_pattern : (text_bytes : List ℕ) → Option (List ℕ)
decimal_pattern text_bytes =
    special_or_finite_decimal text_bytes (nan_or_infinity_bits (without_leading_sign text_bytes))

abbrev pub decimal_read : Data → Result Scalar Fault
decimal_read content =
    on_text content
    (λ text_bytes. or_wrong_shape (decimal_pattern text_bytes) >>= λ decimal_bytes. Ok (decimal decimal_bytes))

-- ---- texts

abbrev pub symbol_read : Data → Result Scalar Fault
symbol_read content = on_text content (λ text_bytes. Ok (symbol text_bytes))

abbrev pub code_read : Data → Result Scalar Fault
code_read content = on_text content (λ text_bytes. Ok (code text_bytes))

abbrev pub regex_read : Data → Result Scalar Fault
regex_read content =
    on_two_keys (codes "options") (codes "pattern") content (λ options_member pattern_member.
    on_text options_member
    (λ options. on_text pattern_member (λ pattern. Ok (regex pattern (sorted_regex_options options)))))

-- ---- object ids

abbrev pub id_or_fault : (text_bytes : List ℕ) → Result (List ℕ) FromHexError → Result (List ℕ) Fault
id_or_fault text_bytes (Ok id) = Ok id
id_or_fault text_bytes (Err hex_error) = Err (wrong_id text_bytes)

-- the object id of a text, or that it is none
abbrev pub parsed_object_id : (text_bytes : List ℕ) → Result (List ℕ) Fault
parsed_object_id text_bytes = id_or_fault text_bytes (decode_sized text_bytes 12)

abbrev pub oid_read : Data → Result Scalar Fault
oid_read content = on_text content (λ text_bytes. parsed_object_id text_bytes >>= λ id. Ok (object_id id))

-- the shape first, so that the text of an object id is at fault only where it alone is wrong
abbrev pub pointer_read : Data → Result Scalar Fault
pointer_read content =
    on_two_keys (codes "$id") (codes "$ref") content (λ id_member namespace_member.
    on_text namespace_member
    (λ namespace. on_single_key (codes "$oid") id_member
    (λ oid_member. on_text oid_member
    (λ text_bytes. parsed_object_id text_bytes >>= λ id. Ok (db_pointer namespace id)))))

-- ---- moments

abbrev pub timestamp_read : Data → Result Scalar Fault
timestamp_read content =
    on_two_keys (codes "i") (codes "t") content
    (λ increment_member time_member. or_wrong_shape (u32_at increment_member)
    >>= λ increment. or_wrong_shape (u32_at time_member) >>= λ time.
    Ok (timestamp time increment))

abbrev pub date_millis_of : Data → Result ℤ Fault
date_millis_of (tree.string text_bytes) = or_wrong_shape (parsed_rfc3339_millis text_bytes)
date_millis_of (tree.number json_number) = or_wrong_shape (as_i64 json_number)
date_millis_of content =
    on_single_key (codes "$numberLong") content
    (λ long_member. on_text long_member (λ text_bytes. or_wrong_shape (parsed_int 63 text_bytes)))

abbrev pub date_read : Data → Result Scalar Fault
date_read content = date_millis_of content >>= λ integer. Ok (date integer)

-- ---- bytes

abbrev pub single_byte : Result (List ℕ) FromHexError → Option ℕ
single_byte (Ok (byte ∷ [])) = Some byte
single_byte _ = None

abbrev pub byte_of_hex : (text_bytes : List ℕ) → Option ℕ
byte_of_hex text_bytes = single_byte (decode_sized text_bytes 1)

-- the bytes, where the text is theirs
abbrev pub bytes_if_encoded : (text_bytes : List ℕ) → (decoded_bytes : Option (List ℕ)) → Option (List ℕ)
bytes_if_encoded text_bytes (Some bytes) = if bytes_eq text_bytes (padded_base64 bytes) then Some bytes else None
bytes_if_encoded text_bytes None = None

-- the decoder reads a number above 255 as the digit of 0, so its result is compared with the text
abbrev pub decoded_base64 : (text_bytes : List ℕ) → Option (List ℕ)
decoded_base64 text_bytes = bytes_if_encoded text_bytes (result_ok (decode_of standard text_bytes))

abbrev pub binary_read : Data → Result Scalar Fault
binary_read content =
    on_two_keys (codes "base64") (codes "subType") content (λ base64_member subtype_member.
    on_text base64_member
    (λ text_bytes. on_text subtype_member
    (λ subtype_text. or_wrong_shape (decoded_base64 text_bytes) >>= λ bytes. or_wrong_shape (byte_of_hex subtype_text)
    >>= λ subtype_number.
    Ok (binary (subtype_of subtype_number) bytes))))

abbrev pub uuid_read : Data → Result Scalar Fault
uuid_read content =
    on_text content (λ text_bytes. or_wrong_shape (parsed_hyphenated text_bytes) >>= λ id. Ok (binary subtype.Uuid id))

-- ---- the kinds of one tree

abbrev pub is_number_one : Option ℤ → Bool
is_number_one (Some (pos magnitude)) = magnitude == 1
is_number_one _ = false

abbrev pub number_one_read : Scalar → Data → Result Scalar Fault
number_one_read constant_scalar content = if is_number_one (i64_at content) then Ok constant_scalar else Err wrong_shape

abbrev pub undefined_read : Data → Result Scalar Fault
undefined_read (tree.boolean truth_value) = if truth_value then Ok undefined else Err wrong_shape
undefined_read _ = Err wrong_shape

-- ---- all wrappers of one key

abbrev pub wrapper_read_in : Doubles → Wrapper → Data → Result Scalar Fault
wrapper_read_in doubles Oid = oid_read
wrapper_read_in doubles Symbol = symbol_read
wrapper_read_in doubles RegularExpression = regex_read
wrapper_read_in doubles NumberInt = int32_read
wrapper_read_in doubles NumberLong = int64_read
wrapper_read_in doubles NumberDouble = double_read_in doubles
wrapper_read_in doubles NumberDecimal = decimal_read
wrapper_read_in doubles Binary = binary_read
wrapper_read_in doubles Uuid = uuid_read
wrapper_read_in doubles Code = code_read
wrapper_read_in doubles Timestamp = timestamp_read
wrapper_read_in doubles Date = date_read
wrapper_read_in doubles MinKey = number_one_read min_key
wrapper_read_in doubles MaxKey = number_one_read max_key
wrapper_read_in doubles DbPointer = pointer_read
wrapper_read_in doubles Undefined = undefined_read

abbrev pub wrapper_read : Wrapper → Data → Result Scalar Fault
wrapper_read = wrapper_read_in Special

abbrev pub optional_wrapper_read_in : Doubles → Option Wrapper → Data → Result Scalar Fault
optional_wrapper_read_in doubles (Some wrapper) content = wrapper_read_in doubles wrapper content
optional_wrapper_read_in doubles None content = Err wrong_shape

abbrev pub optional_wrapper_read : Option Wrapper → Data → Result Scalar Fault
optional_wrapper_read = optional_wrapper_read_in Special

-- code with the scope null
abbrev pub code_if_scope_is_null : (scope : Data) → (code_member : Data) → Result Scalar Fault
code_if_scope_is_null tree.null code_member = code_read code_member
code_if_scope_is_null scope code_member = Err wrong_shape

abbrev pub scalar_read_in : Doubles → Data → Result Scalar Fault
scalar_read_in doubles tree.null = Ok null
scalar_read_in doubles (tree.boolean truth_value) = Ok (boolean truth_value)
scalar_read_in doubles (tree.number json_number) = number_read_in doubles json_number
scalar_read_in doubles (tree.string text_bytes) = Ok (text text_bytes)
scalar_read_in doubles (tree.object (member key_text content no_members)) =
    optional_wrapper_read_in doubles (wrapper_of key_text) content
scalar_read_in doubles (tree.object (member key_text content (member other_key other_content no_members))) =
    if bytes_eq key_text (codes "$code") && bytes_eq other_key (codes "$scope")
    then code_if_scope_is_null other_content content else Err wrong_shape
scalar_read_in doubles _ = Err wrong_shape
