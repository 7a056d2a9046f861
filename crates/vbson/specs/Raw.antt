-- Values of documents that remain bytes. The depth says how deep documents, arrays and scopes may nest in a value.
use Rattle.std.specs.Prelude.{◌≡◌, ◌≤◌, ℕ, Bool, true, false, List, Option, None, Some, Ok, length, drop}
use Rattle.bson_bytes.specs.Reading.{read_value_in, read_document_in}
use Rattle.bson_model.specs.declared.options.DuplicateKeys.TheVariants.{LastWins}
use Rattle.bson_model.specs.Value.{Value, Pairs, no_pairs, pair}
use Rattle.bson_bytes.specs.RawElements.{value_length}
use Rattle.bson_bytes.specs.ReadElements.{BeginsWithElements}
use Rattle.bson_bytes.specs.declared.raw_element.RawElement.{RawElement}
use Rattle.bson_types.specs.BinarySubtypes.{subtype_byte}
use Rattle.bson_types.specs.ElementTags.{tag_of}
use Rattle.bson_types.specs.declared.spec.BinarySubtype.{BinarySubtype}
use Rattle.bson_types.specs.declared.spec.ElementType.{ElementType}
use Rattle.vbson.specs.declared.raw.RawValue.{RawValue}
use Rattle.vbson.specs.declared.raw.Slice.{Slice}

-- the tag is that of a type, and so many bytes are read as this value of the type
pub record IsRawValueOf (depth : ℕ) (denoted_value : Value) (raw_value : RawValue) : Type 0 where
  pub type : ElementType
  pub tag : raw_value.kind ≡ tag_of type
  pub read : read_value_in LastWins (read_document_in LastWins depth) type raw_value.bytes.now
      ≡ Ok (denoted_value, drop raw_value.len raw_value.bytes.now)
  pub within : raw_value.len ≤ length raw_value.bytes.now

-- the status of a lookup: the document has no such key, or the output is the value of the key
abbrev pub IsLookupResult : (depth : ℕ) → Option Value → (status : ℕ) → (raw_value : RawValue) → Type 0
IsLookupResult depth None status raw_value = status ≡ 14
IsLookupResult depth (Some denoted_value) status raw_value = (status ≡ 0) × IsRawValueOf depth denoted_value raw_value

-- no element is left; or the outputs are the key and the value of the first, and the others are left
abbrev pub IsNextElement : (depth : ℕ) → Pairs → (status : ℕ) → (cursor key : Slice) → (value : RawValue) → Type 0
IsNextElement depth no_pairs status cursor key value = status ≡ 14
IsNextElement depth (pair first_key first_value later_pairs) status cursor key value =
    (status ≡ 0) × (key.bytes.now ≡ first_key) × IsRawValueOf depth first_value value
    × BeginsWithElements depth cursor.bytes.now later_pairs

-- the value has another type, or this is what it contains
abbrev pub IsTypedResult : {Content : Type 0} → Option Content → (status : ℕ) → (output : Content) → Type 0
IsTypedResult None status output = status ≡ 15
IsTypedResult (Some content) status output = (status ≡ 0) × (output ≡ content)

abbrev pub boolean_number : Bool → ℕ
boolean_number true = 1
boolean_number false = 0

-- the number of a subtype, and the bytes
abbrev pub subtype_and_bytes : BinarySubtype × List ℕ → ℕ × List ℕ
subtype_and_bytes binary = (subtype_byte binary.0, binary.1)

-- ---- for private clauses

-- the value of the element
pub record IsRawValueOfElement (element : RawElement) (raw_value : RawValue) : Type 0 where
  pub bytes : raw_value.bytes.now ≡ element.value.now
  pub len : raw_value.len ≡ value_length element
  pub tag : raw_value.kind ≡ tag_of element.kind
