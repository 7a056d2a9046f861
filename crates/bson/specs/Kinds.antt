-- The content of a value of one kind, and the result of a typed getter.
use Rattle.std.specs.Prelude.{ℕ, ℤ, Bool, List, string_bytes, option_map, Option, None, Some, Result, Ok, Err}
use Rattle.std.specs.Prelude.{if◌then◌else◌, nat_lt, pos, ◌^◌}
use Rattle.std.specs.Prelude.{String as Text, Vec}
use Rattle.std.specs.Borrow.{Bor, MutBor}
use Rattle.std.specs.Result.{result_map_both}
use Rattle.std.specs.declared.alloc.Global.{Global}
use Rattle.bson_types.specs.declared.binary.Binary.{Binary}
use Rattle.bson_types.specs.declared.db_pointer.DbPointer.{DbPointer as Pointer}
use Rattle.bson_types.specs.declared.spec.BinarySubtype.{BinarySubtype}
use Rattle.bson_types.specs.declared.spec.BinarySubtype.TheVariants.{Generic}
use Rattle.bson_types.specs.declared.timestamp.Timestamp.{Timestamp as Stamp}
use Rattle.bson_store.specs.Pairs.{get}
use Rattle.bson.specs.View.{contents}
use Rattle.bson.specs.declared.bson.Bson.{Bson, Bson-F, out-Bson}
use Rattle.bson.specs.declared.bson.Bson.TheVariants as bson
use Rattle.bson.specs.declared.bson.JavaScriptCodeWithScope.{JavaScriptCodeWithScope}
use Rattle.bson.specs.declared.document.Document.{Document}
use Rattle.bson.specs.declared.document.getters.ValueAccessError.{ValueAccessError}
use Rattle.bson.specs.declared.document.getters.ValueAccessError.TheVariants.{NotPresent, UnexpectedType}

-- the pattern of a double
abbrev pub double_of : Bson → Option ℕ
double_of (bson.Double pattern) = Some pattern
double_of _ = None

abbrev pub string_of : Bson → Option (Text Global)
string_of (bson.String text_value) = Some text_value
string_of _ = None

-- one level, with the values inside as they are
abbrev pub array_step : Bson-F Bson JavaScriptCodeWithScope Document → Option (Vec Bson Global)
array_step (Bson-F.Array items) = Some items
array_step _ = None

abbrev pub array_of : Bson → Option (Vec Bson Global)
array_of value = array_step (out-Bson value)

abbrev pub document_step : Bson-F Bson JavaScriptCodeWithScope Document → Option Document
document_step (Bson-F.Document document) = Some document
document_step _ = None

abbrev pub document_of : Bson → Option Document
document_of value = document_step (out-Bson value)

abbrev pub boolean_of : Bson → Option Bool
boolean_of (bson.Boolean boolean) = Some boolean
boolean_of _ = None

abbrev pub int32_of : Bson → Option ℤ
int32_of (bson.Int32 number) = Some number
int32_of _ = None

abbrev pub int64_of : Bson → Option ℤ
int64_of (bson.Int64 number) = Some number
int64_of _ = None

abbrev pub timestamp_of : Bson → Option Stamp
timestamp_of (bson.Timestamp timestamp) = Some timestamp
timestamp_of _ = None

-- the bytes of a binary of the subtype Generic, and of no other
abbrev pub generic_bytes : (subtype : BinarySubtype) → (bytes : Vec ℕ Global) → Option (Vec ℕ Global)
generic_bytes Generic bytes = Some bytes
generic_bytes _ bytes = None

abbrev pub generic_binary_bytes_of : Bson → Option (Vec ℕ Global)
generic_binary_bytes_of (bson.Binary binary) = generic_bytes binary.subtype binary.bytes
generic_binary_bytes_of _ = None

-- the binary of the subtype Generic with these bytes
abbrev pub generic_binary : (bytes : Vec ℕ Global) → Binary
generic_binary bytes = record { subtype = Generic; bytes = bytes }

-- the same as a value
abbrev pub generic_binary_value : (bytes : Vec ℕ Global) → Bson
generic_binary_value bytes = bson.Binary (generic_binary bytes)

-- the twelve bytes of an object id
abbrev pub object_id_of : Bson → Option (List ℕ)
object_id_of (bson.ObjectId id) = Some id
object_id_of _ = None

-- the milliseconds of a moment
abbrev pub date_of : Bson → Option ℤ
date_of (bson.DateTime number) = Some number
date_of _ = None

abbrev pub symbol_of : Bson → Option (Text Global)
symbol_of (bson.Symbol text_value) = Some text_value
symbol_of _ = None

-- the bytes of the text that a kind holds
abbrev pub text_bytes_of : (content_of : Bson → Option (Text Global)) → (value : Bson) → Option (List ℕ)
text_bytes_of content_of value = option_map string_bytes (content_of value)

-- the sixteen bytes of a decimal
abbrev pub decimal_of : Bson → Option (List ℕ)
decimal_of (bson.Decimal128 bytes) = Some bytes
decimal_of _ = None

abbrev pub db_pointer_of : Bson → Option Pointer
db_pointer_of (bson.DbPointer pointer) = Some pointer
db_pointer_of _ = None

-- what a getter answers of the value that is there
abbrev pub type_result : {T : Type 0} → (optional_content : Option T) → Result T ValueAccessError
type_result None = Err UnexpectedType
type_result (Some content) = Ok content

-- the same of the value that a key has, if any
abbrev pub access_result : {T : Type 0} → (content_of : Bson → Option T) → (found_value : Option Bson)
    → Result T ValueAccessError
access_result content_of None = Err NotPresent
access_result content_of (Some value) = type_result (content_of value)

-- what a getter answers at a key of a document
abbrev pub typed_get : {T : Type 0} → (content_of : Bson → Option T) → (key : List ℕ) → (document : Document)
    → Result T ValueAccessError
typed_get content_of key document = access_result content_of (get key (contents document))

-- an answer with the value that its reference points to
abbrev pub dereferenced_result : {T E : Type 0} → (getter_result : Result (Bor T) E) → Result T E
dereferenced_result getter_result = result_map_both (λ reference. reference.now) (λ error. error) getter_result

abbrev pub dereferenced_mut_result : {T E : Type 0} → (getter_result : Result (MutBor T) E) → Result T E
dereferenced_mut_result getter_result = result_map_both (λ reference. reference.now) (λ error. error) getter_result

-- an integer as the smaller of the two kinds that it fits
abbrev pub smallest_integer : (unsigned_number : ℕ) → Bson
smallest_integer unsigned_number =
    if nat_lt unsigned_number (2 ^ 31) then bson.Int32 (pos unsigned_number) else bson.Int64 (pos unsigned_number)
