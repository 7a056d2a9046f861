-- The bytes that a document is written as, and why it has none. The keys of arrays are 0, 1, 2 and so on. A subtype is
-- written as its byte.
use Rattle.std.specs.Prelude.{◌≡◌, ◌⊎◌, ℕ, suc, ◌+◌, ◌^◌, ◌<◌, ◌≤◌, FitsSigned, List, [], ◌∷◌, ◌++◌, length, Bool}
use Rattle.std.specs.Prelude.{true, false}
use Rattle.std.specs.Prelude.{decimal, cond, nat_eq}
use Rattle.std.specs.Int.{w32, w64, cast_unsigned}
use Rattle.std.specs.Str.{is_utf8}
use Rattle.bson_types.specs.declared.spec.ElementType.{ElementType}
use Rattle.bson_types.specs.declared.spec.ElementType.TheVariants as tag
use Rattle.bson_types.specs.BinarySubtypes.{subtype_byte, subtype_of}
use Rattle.bson_types.specs.ElementTags.{tag_of}
use Rattle.bson_scalar.specs.Scalar.{Scalar, null, undefined, min_key, max_key, boolean, double, int32, int64, text}
use Rattle.bson_scalar.specs.Scalar.{symbol, code, regex, timestamp, binary, object_id, date, decimal as decimal128}
use Rattle.bson_scalar.specs.Scalar.{db_pointer}
use Rattle.bson_scalar.specs.ElementType.{scalar_type}
use Rattle.bson_model.specs.Normal.{map_scalars_of_pairs}
use Rattle.bson_model.specs.Value.{Value, Values, no_values, value, Pairs, no_pairs, pair, scalar, code_scope, array}
use Rattle.bson_model.specs.Value.{document}
use Rattle.bson_bytes.specs.Grammar.{little_endian, HasNoNulByte, IsLength, text_bytes, binary_bytes, old_binary_bytes, code_with_scope_size}
use Rattle.bson_bytes.specs.Grammar.{code_with_scope_bytes, document_of_elements, deduplicated}

-- ---- bytes

abbrev pub bool_byte : (truth_value : Bool) → ℕ
bool_byte true = 1
bool_byte false = 0

-- the bytes of a binary whose subtype has the byte
abbrev pub subtyped_bytes : (subtype : ℕ) → (bytes : List ℕ) → List ℕ
subtyped_bytes subtype bytes = cond (nat_eq subtype 2) (old_binary_bytes bytes) (binary_bytes subtype bytes)

abbrev pub regex_bytes : (pattern options : List ℕ) → List ℕ
regex_bytes pattern options = pattern ++ 0 ∷ (options ++ 0 ∷ [])

abbrev pub scalar_bytes : Scalar → List ℕ
scalar_bytes null = []
scalar_bytes undefined = []
scalar_bytes min_key = []
scalar_bytes max_key = []
scalar_bytes (boolean truth_value) = bool_byte truth_value ∷ []
scalar_bytes (double bit_pattern) = little_endian w64 bit_pattern
scalar_bytes (int32 number) = little_endian w32 (cast_unsigned w32 number)
scalar_bytes (int64 number) = little_endian w64 (cast_unsigned w64 number)
scalar_bytes (text content) = text_bytes content
scalar_bytes (symbol content) = text_bytes content
scalar_bytes (code content) = text_bytes content
scalar_bytes (regex pattern options) = regex_bytes pattern options
scalar_bytes (timestamp time increment) = little_endian w32 increment ++ little_endian w32 time
scalar_bytes (binary subtype bytes) = subtyped_bytes (subtype_byte subtype) bytes
scalar_bytes (object_id id) = id
scalar_bytes (date millis) = little_endian w64 (cast_unsigned w64 millis)
scalar_bytes (decimal128 bytes) = bytes
scalar_bytes (db_pointer namespace id) = text_bytes namespace ++ id

-- the element type of a value
abbrev pub type_of : Value → ElementType
type_of (scalar scalar_value) = scalar_type scalar_value
type_of (code_scope code_text scope) = tag.JavaScriptCodeWithScope
type_of (array value_list) = tag.Array
type_of (document pairs) = tag.EmbeddedDocument

-- the tag and the name of an element
abbrev pub name_bytes : ElementType → (name : List ℕ) → List ℕ
name_bytes element_type name = tag_of element_type ∷ (name ++ 0 ∷ [])

abbrev mutual
  pub value_bytes : Value → List ℕ
  value_bytes (scalar scalar_value) = scalar_bytes scalar_value
  value_bytes (code_scope code_text scope) =
      code_with_scope_bytes code_text (document_of_elements (elements_bytes scope))
  value_bytes (array values) = document_of_elements (array_elements_bytes 0 values)
  value_bytes (document pairs) = document_of_elements (elements_bytes pairs)

  -- the elements of an array from this index on
  pub array_elements_bytes : (index : ℕ) → Values → List ℕ
  array_elements_bytes index no_values = []
  array_elements_bytes index (value first_value other_values) =
      name_bytes (type_of first_value) (decimal index)
      ++ (value_bytes first_value ++ array_elements_bytes (index + 1) other_values)

  pub elements_bytes : Pairs → List ℕ
  elements_bytes no_pairs = []
  elements_bytes (pair key first_value other_pairs) =
      name_bytes (type_of first_value) key ++ (value_bytes first_value ++ elements_bytes other_pairs)

abbrev pub document_bytes : Pairs → List ℕ
document_bytes pairs = document_of_elements (elements_bytes pairs)

-- ---- what has bytes: no key, pattern or options contain a 0, and no length is too great

-- the length of a binary whose subtype has the byte
abbrev pub subtyped_size : (subtype : ℕ) → (bytes : List ℕ) → ℕ
subtyped_size subtype bytes = cond (nat_eq subtype 2) (length bytes + 4) (length bytes)

abbrev pub FitsScalar : Scalar → Type 0
FitsScalar (text content) = IsLength (length content + 1)
FitsScalar (symbol content) = IsLength (length content + 1)
FitsScalar (code content) = IsLength (length content + 1)
FitsScalar (regex pattern options) = HasNoNulByte pattern × HasNoNulByte options
FitsScalar (binary subtype bytes) = IsLength (subtyped_size (subtype_byte subtype) bytes)
FitsScalar (db_pointer namespace id) = IsLength (length namespace + 1)
FitsScalar other_scalar = Unit {0}

abbrev mutual
  pub FitsValue : Value → Type 0
  FitsValue (scalar scalar_value) = FitsScalar scalar_value
  FitsValue (code_scope code_text scope) =
      (IsLength (length code_text + 1) × (FitsElements scope × IsLength (length (elements_bytes scope) + 5)))
      × IsLength (code_with_scope_size code_text (document_of_elements (elements_bytes scope)))
  FitsValue (array values) = FitsItems values × IsLength (length (array_elements_bytes 0 values) + 5)
  FitsValue (document pairs) = FitsElements pairs × IsLength (length (elements_bytes pairs) + 5)

  pub FitsItems : Values → Type 0
  FitsItems no_values = Unit {0}
  FitsItems (value first_value other_values) = FitsValue first_value × FitsItems other_values

  pub FitsElements : Pairs → Type 0
  FitsElements no_pairs = Unit {0}
  FitsElements (pair key first_value other_pairs) =
      HasNoNulByte key × (FitsValue first_value × FitsElements other_pairs)

abbrev pub FitsDocument : Pairs → Type 0
FitsDocument pairs = FitsElements pairs × IsLength (length (elements_bytes pairs) + 5)

-- ---- why a value has none

pub data NoBytesCause : Type 0 where
  -- a key has a 0 in it
  nul_in_key : NoBytesCause
  -- a pattern or options have a 0 in them
  nul_in_regex : NoBytesCause
  -- a text, a binary, a document, an array, or code with its scope is too long
  too_long : NoBytesCause

-- the length is too great for BSON, which is this cause
abbrev pub IsLengthTooGreat : NoBytesCause → (size : ℕ) → Type 0
IsLengthTooGreat too_long size = 2 ^ 31 ≤ size
IsLengthTooGreat cause size = ⊥

abbrev pub KeyHasNulByte : NoBytesCause → (key : List ℕ) → Type 0
KeyHasNulByte nul_in_key key = HasNoNulByte key → ⊥
KeyHasNulByte cause key = ⊥

abbrev pub RegexHasNulByte : NoBytesCause → (pattern options : List ℕ) → Type 0
RegexHasNulByte nul_in_regex pattern options = HasNoNulByte pattern × HasNoNulByte options → ⊥
RegexHasNulByte cause pattern options = ⊥

abbrev pub ScalarDoesNotFit : NoBytesCause → Scalar → Type 0
ScalarDoesNotFit cause (text content) = IsLengthTooGreat cause (length content + 1)
ScalarDoesNotFit cause (symbol content) = IsLengthTooGreat cause (length content + 1)
ScalarDoesNotFit cause (code content) = IsLengthTooGreat cause (length content + 1)
ScalarDoesNotFit cause (regex pattern options) = RegexHasNulByte cause pattern options
ScalarDoesNotFit cause (binary subtype bytes) = IsLengthTooGreat cause (subtyped_size (subtype_byte subtype) bytes)
ScalarDoesNotFit cause (db_pointer namespace id) = IsLengthTooGreat cause (length namespace + 1)
ScalarDoesNotFit cause other_scalar = ⊥

abbrev mutual
  -- the first part of the value that has no bytes has none for this cause; parts have the order of the bytes, and a
  -- whole comes after its parts
  pub ValueDoesNotFit : NoBytesCause → Value → Type 0
  ValueDoesNotFit cause (scalar scalar_value) = ScalarDoesNotFit cause scalar_value
  ValueDoesNotFit cause (code_scope code_text scope) =
      (IsLengthTooGreat cause (length code_text + 1)
      ⊎ (IsLength (length code_text + 1)
      × (ElementsDoNotFit cause scope
      ⊎ (FitsElements scope × IsLengthTooGreat cause (length (elements_bytes scope) + 5)))))
      ⊎ ((IsLength (length code_text + 1) × (FitsElements scope × IsLength (length (elements_bytes scope) + 5)))
      × IsLengthTooGreat cause (code_with_scope_size code_text (document_of_elements (elements_bytes scope))))
  ValueDoesNotFit cause (array values) = ItemsDoNotFit cause values
      ⊎ (FitsItems values × IsLengthTooGreat cause (length (array_elements_bytes 0 values) + 5))
  ValueDoesNotFit cause (document pairs) = ElementsDoNotFit cause pairs
      ⊎ (FitsElements pairs × IsLengthTooGreat cause (length (elements_bytes pairs) + 5))

  pub ItemsDoNotFit : NoBytesCause → Values → Type 0
  ItemsDoNotFit cause no_values = ⊥
  ItemsDoNotFit cause (value first_value other_values) = ValueDoesNotFit cause first_value
      ⊎ (FitsValue first_value × ItemsDoNotFit cause other_values)

  pub ElementsDoNotFit : NoBytesCause → Pairs → Type 0
  ElementsDoNotFit cause no_pairs = ⊥
  ElementsDoNotFit cause (pair key first_value other_pairs) = KeyHasNulByte cause key
      ⊎ (HasNoNulByte key
      × (ValueDoesNotFit cause first_value ⊎ (FitsValue first_value × ElementsDoNotFit cause other_pairs)))

abbrev pub DocumentDoesNotFit : NoBytesCause → Pairs → Type 0
DocumentDoesNotFit cause pairs = ElementsDoNotFit cause pairs
    ⊎ (FitsElements pairs × IsLengthTooGreat cause (length (elements_bytes pairs) + 5))

-- ---- what is read back

-- the scalar with the subtype that its byte names
abbrev pub with_written_subtype : Scalar → Scalar
with_written_subtype (binary subtype bytes) = binary (subtype_of (subtype_byte subtype)) bytes
with_written_subtype other_scalar = other_scalar

-- the pairs as they are read back from their bytes
abbrev pub pairs_read_back : Pairs → Pairs
pairs_read_back pairs = map_scalars_of_pairs with_written_subtype pairs

-- what each value of the Rust types is: its numbers are in range, and its texts are UTF-8
abbrev pub IsWellTypedScalar : Scalar → Type 0
IsWellTypedScalar (double bit_pattern) = bit_pattern < 2 ^ 64
IsWellTypedScalar (int32 number) = FitsSigned w32 number
IsWellTypedScalar (int64 number) = FitsSigned w64 number
IsWellTypedScalar (text content) = is_utf8 content ≡ true
IsWellTypedScalar (symbol content) = is_utf8 content ≡ true
IsWellTypedScalar (code content) = is_utf8 content ≡ true
IsWellTypedScalar (regex pattern options) = (is_utf8 pattern ≡ true) × (is_utf8 options ≡ true)
IsWellTypedScalar (timestamp time increment) = (time < 2 ^ 32) × (increment < 2 ^ 32)
IsWellTypedScalar (binary subtype bytes) = subtype_byte subtype < 256
IsWellTypedScalar (object_id id) = length id ≡ 12
IsWellTypedScalar (date millis) = FitsSigned w64 millis
IsWellTypedScalar (decimal128 bytes) = length bytes ≡ 16
IsWellTypedScalar (db_pointer namespace id) = (is_utf8 namespace ≡ true) × (length id ≡ 12)
IsWellTypedScalar other_scalar = Unit {0}

abbrev mutual
  -- and no document has a duplicate key
  pub IsWellTyped : Value → Type 0
  IsWellTyped (scalar scalar_value) = IsWellTypedScalar scalar_value
  IsWellTyped (code_scope code_text scope) = (is_utf8 code_text ≡ true) × PairsAreWellTyped scope
      × (deduplicated scope ≡ scope)
  IsWellTyped (array values) = AreWellTyped values
  IsWellTyped (document pairs) = PairsAreWellTyped pairs × (deduplicated pairs ≡ pairs)

  pub AreWellTyped : Values → Type 0
  AreWellTyped no_values = Unit {0}
  AreWellTyped (value first_value other_values) = IsWellTyped first_value × AreWellTyped other_values

  pub PairsAreWellTyped : Pairs → Type 0
  PairsAreWellTyped no_pairs = Unit {0}
  PairsAreWellTyped (pair key first_value other_pairs) = (is_utf8 key ≡ true) × IsWellTyped first_value
      × PairsAreWellTyped other_pairs

abbrev pub IsWellTypedDocument : Pairs → Type 0
IsWellTypedDocument pairs = PairsAreWellTyped pairs × (deduplicated pairs ≡ pairs)

abbrev mutual
  -- documents, arrays and scopes nest at most so deep in the value
  pub NestsUpTo : Value → (depth : ℕ) → Type 0
  NestsUpTo (scalar scalar_value) depth = Unit {0}
  NestsUpTo (code_scope code_text scope) depth = (inner_depth : ℕ) × (depth ≡ suc inner_depth)
      × PairsNestUpTo scope inner_depth
  NestsUpTo (array values) depth = (inner_depth : ℕ) × (depth ≡ suc inner_depth) × ItemsNestUpTo values inner_depth
  NestsUpTo (document pairs) depth = (inner_depth : ℕ) × (depth ≡ suc inner_depth) × PairsNestUpTo pairs inner_depth

  pub ItemsNestUpTo : Values → (depth : ℕ) → Type 0
  ItemsNestUpTo no_values depth = Unit {0}
  ItemsNestUpTo (value first_value other_values) depth = NestsUpTo first_value depth × ItemsNestUpTo other_values depth

  pub PairsNestUpTo : Pairs → (depth : ℕ) → Type 0
  PairsNestUpTo no_pairs depth = Unit {0}
  PairsNestUpTo (pair key first_value other_pairs) depth = NestsUpTo first_value depth × PairsNestUpTo other_pairs depth
