-- Which bytes are which document: BSON 1.1 (bsonspec.org), one production per line. The number is the greatest depth to
-- which documents, arrays and scopes nest. The keys of an array's elements are free, and dropped. If a key of
-- a document is duplicated, its last value wins, at its first position; or the caller rejects duplicate keys.
use Rattle.std.specs.Prelude.{◌≡◌, ◌≢◌, ℕ, suc, ◌+◌, ◌^◌, ◌<◌, List, [], ◌∷◌, ◌++◌, length, cond, true, false}
use Rattle.std.specs.Int.{Width, w32, w64, to_le_bytes, cast_signed}
use Rattle.std.specs.List.{AllByRecursion}
use Rattle.std.specs.Str.{bytes_eq, is_utf8}
use Rattle.bson_types.specs.declared.spec.ElementType.{ElementType}
use Rattle.bson_types.specs.declared.spec.ElementType.TheVariants as tag
use Rattle.bson_types.specs.BinarySubtypes.{subtype_of}
use Rattle.bson_types.specs.ElementTags.{tag_of}
use Rattle.bson_scalar.specs.Scalar as kind
use Rattle.bson_model.specs.Value.{Value, Values, no_values, value, Pairs, no_pairs, pair, scalar, code_scope, array}
use Rattle.bson_model.specs.Value.{document}
use Rattle.bson_model.specs.declared.options.DuplicateKeys.{DuplicateKeys}
use Rattle.bson_model.specs.declared.options.DuplicateKeys.TheVariants.{LastWins, Reject}

-- ---- numbers, names and texts

-- an integer, its low byte first
unfoldable pub little_endian : Width → (number : ℕ) → List ℕ
little_endian width number = to_le_bytes width number

-- no byte is 0
abbrev pub HasNoNulByte : (bytes : List ℕ) → Type 0
HasNoNulByte bytes = AllByRecursion (λ byte. byte ≢ 0) bytes

-- cstring ::= (byte*) 0x00, without its 0: UTF-8 with no 0 in it
pub record IsName (name : List ℕ) : Type 0 where
  pub utf8 : is_utf8 name ≡ true
  pub no_zero : HasNoNulByte name

-- a length of BSON: an int32 that is not negative
abbrev pub IsLength : (number : ℕ) → Type 0
IsLength number = number < 2 ^ 31

-- string ::= int32 (byte*) 0x00: the number counts the bytes and the 0
abbrev pub text_bytes : (text : List ℕ) → List ℕ
text_bytes text = little_endian w32 (length text + 1) ++ (text ++ 0 ∷ [])

-- what is a string: UTF-8 of a length that fits
abbrev pub IsText : (text : List ℕ) → Type 0
IsText text = (is_utf8 text ≡ true) × IsLength (length text + 1)

-- document ::= int32 e_list 0x00, around the bytes of a list of elements: the number counts itself and the 0 too
abbrev pub document_of_elements : (element_list : List ℕ) → List ℕ
document_of_elements element_list = little_endian w32 (length element_list + 5) ++ (element_list ++ 0 ∷ [])

-- code_w_s ::= int32 string document: the number counts itself too
abbrev pub code_with_scope_size : (code scope_document : List ℕ) → ℕ
code_with_scope_size code scope_document = 4 + (length (text_bytes code) + length scope_document)

abbrev pub code_with_scope_bytes : (code scope_document : List ℕ) → List ℕ
code_with_scope_bytes code scope_document =
    little_endian w32 (code_with_scope_size code scope_document) ++ (text_bytes code ++ scope_document)

-- binary ::= int32 subtype (byte*)
abbrev pub binary_bytes : (subtype : ℕ) → (bytes : List ℕ) → List ℕ
binary_bytes subtype bytes = little_endian w32 (length bytes) ++ subtype ∷ bytes

-- a binary of the subtype 2, which has a length of its own before its bytes
abbrev pub old_binary_bytes : (bytes : List ℕ) → List ℕ
old_binary_bytes bytes = little_endian w32 (length bytes + 4) ++ 2 ∷ (little_endian w32 (length bytes) ++ bytes)

-- ---- elements as pairs

-- a present key keeps its position and gets the value; a new key goes last
abbrev pub insert_value : (key : List ℕ) → (new_value : Value) → Pairs → Pairs
insert_value key new_value no_pairs = pair key new_value no_pairs
insert_value key new_value (pair first_key first_value other_pairs) =
    cond (bytes_eq key first_key) (pair first_key new_value other_pairs)
    (pair first_key first_value (insert_value key new_value other_pairs))

-- the first pairs, with each of the others inserted
abbrev pub deduplicated_onto : (first_pairs added_pairs : Pairs) → Pairs
deduplicated_onto first_pairs no_pairs = first_pairs
deduplicated_onto first_pairs (pair key next_value other_pairs) =
    deduplicated_onto (insert_value key next_value first_pairs) other_pairs

-- one pair for each key: its last value, at its first position
abbrev pub deduplicated : Pairs → Pairs
deduplicated pairs = deduplicated_onto no_pairs pairs

-- the values of the elements, without their keys
abbrev pub pair_values : Pairs → Values
pair_values no_pairs = no_values
pair_values (pair key first_value other_pairs) = value first_value (pair_values other_pairs)

-- ---- duplicate keys
--
-- The grammar of bsonspec.org allows duplicate keys in a document and gives them no meaning. MongoDB's manual
-- ("Documents", on field names) leaves it to each driver. So the caller chooses.

-- the key is not one of these
abbrev pub IsNewKey : (earlier_keys : List (List ℕ)) → (key : List ℕ) → Type 0
IsNewKey earlier_keys key = AllByRecursion (λ earlier_key. key ≢ earlier_key) earlier_keys

-- no key is one of these, and none is duplicated
abbrev pub KeysOccurOnce : (earlier_keys : List (List ℕ)) → Pairs → Type 0
KeysOccurOnce earlier_keys no_pairs = Unit {0}
KeysOccurOnce earlier_keys (pair key first_value other_pairs) = IsNewKey earlier_keys key
    × KeysOccurOnce (key ∷ earlier_keys) other_pairs

-- the keys are allowed in a document: any keys, or each key once
abbrev pub AreAllowedKeys : DuplicateKeys → Pairs → Type 0
AreAllowedKeys LastWins pairs = Unit {0}
AreAllowedKeys Reject pairs = KeysOccurOnce [] pairs

-- ---- the productions

mutual
  -- document ::= int32 e_list 0x00
  pub data IsDocument (keys : DuplicateKeys) : (depth : ℕ) → (bytes : List ℕ) → Pairs → Type 0 where
    is_document : (depth : ℕ) (element_list : List ℕ) (pairs : Pairs) → IsElementList keys depth element_list pairs
        → IsLength (length element_list + 5)
        → IsDocument keys (suc depth) (document_of_elements element_list) pairs

  -- e_list ::= "" | element e_list; element ::= tag e_name value
  pub data IsElementList (keys : DuplicateKeys) : (depth : ℕ) → (bytes : List ℕ) → Pairs → Type 0 where
    is_empty : (depth : ℕ) → IsElementList keys depth [] no_pairs
    is_element : (depth : ℕ) (element_type : ElementType) (key value_bytes element_list : List ℕ) (first_value : Value)
        (other_pairs : Pairs) → IsName key
        → IsValue keys depth element_type value_bytes first_value → IsElementList keys depth element_list other_pairs
        → IsElementList keys depth (tag_of element_type ∷ (key ++ 0 ∷ (value_bytes ++ element_list)))
        (pair key first_value other_pairs)

  -- the bytes after the tag and the name of an element
  pub data IsValue (keys : DuplicateKeys) : (depth : ℕ) → ElementType → (bytes : List ℕ) → Value → Type 0 where
    -- 0x01 e_name double
    is_double : (depth bit_pattern : ℕ) → bit_pattern < 2 ^ 64
        → IsValue keys depth tag.Double (little_endian w64 bit_pattern) (scalar (kind.double bit_pattern))
    -- 0x02 e_name string
    is_text : (depth : ℕ) (text : List ℕ) → IsText text
        → IsValue keys depth tag.String (text_bytes text) (scalar (kind.text text))
    -- 0x03 e_name document
    is_embedded_document : (depth : ℕ) (bytes : List ℕ) (pairs : Pairs) → IsDocument keys depth bytes pairs
        → AreAllowedKeys keys pairs
        → IsValue keys depth tag.EmbeddedDocument bytes (document (deduplicated pairs))
    -- 0x04 e_name document
    is_array : (depth : ℕ) (bytes : List ℕ) (pairs : Pairs) → IsDocument keys depth bytes pairs
        → IsValue keys depth tag.Array bytes (array (pair_values pairs))
    -- 0x05 e_name binary
    is_binary : (depth subtype : ℕ) (bytes : List ℕ) → subtype < 256 → subtype ≢ 2 → IsLength (length bytes)
        → IsValue keys depth tag.Binary (binary_bytes subtype bytes) (scalar (kind.binary (subtype_of subtype) bytes))
    is_old_binary : (depth : ℕ) (bytes : List ℕ) → IsLength (length bytes + 4)
        → IsValue keys depth tag.Binary (old_binary_bytes bytes) (scalar (kind.binary (subtype_of 2) bytes))
    -- 0x06 e_name
    is_undefined : (depth : ℕ) → IsValue keys depth tag.Undefined [] (scalar kind.undefined)
    -- 0x07 e_name (byte*12)
    is_object_id : (depth : ℕ) (id : List ℕ) → length id ≡ 12
        → IsValue keys depth tag.ObjectId id (scalar (kind.object_id id))
    -- 0x08 e_name 0x00, 0x08 e_name 0x01
    is_false : (depth : ℕ) → IsValue keys depth tag.Boolean (0 ∷ []) (scalar (kind.boolean false))
    is_true : (depth : ℕ) → IsValue keys depth tag.Boolean (1 ∷ []) (scalar (kind.boolean true))
    -- 0x09 e_name int64
    is_date : (depth number : ℕ) → number < 2 ^ 64
        → IsValue keys depth tag.DateTime (little_endian w64 number) (scalar (kind.date (cast_signed w64 number)))
    -- 0x0A e_name
    is_null : (depth : ℕ) → IsValue keys depth tag.Null [] (scalar kind.null)
    -- 0x0B e_name cstring cstring: the pattern and the options
    is_regex : (depth : ℕ) (pattern options : List ℕ) → IsName pattern → IsName options
        → IsValue keys depth tag.RegularExpression (pattern ++ 0 ∷ (options ++ 0 ∷ []))
        (scalar (kind.regex pattern options))
    -- 0x0C e_name string (byte*12)
    is_pointer : (depth : ℕ) (namespace id : List ℕ) → IsText namespace → length id ≡ 12
        → IsValue keys depth tag.DbPointer (text_bytes namespace ++ id) (scalar (kind.db_pointer namespace id))
    -- 0x0D e_name string
    is_code : (depth : ℕ) (code : List ℕ) → IsText code
        → IsValue keys depth tag.JavaScriptCode (text_bytes code) (scalar (kind.code code))
    -- 0x0E e_name string
    is_symbol : (depth : ℕ) (symbol : List ℕ) → IsText symbol
        → IsValue keys depth tag.Symbol (text_bytes symbol) (scalar (kind.symbol symbol))
    -- 0x0F e_name code_w_s
    is_scope : (depth : ℕ) (code scope_document : List ℕ) (pairs : Pairs) → IsText code
        → IsDocument keys depth scope_document pairs
        → AreAllowedKeys keys pairs → IsLength (code_with_scope_size code scope_document)
        → IsValue keys depth tag.JavaScriptCodeWithScope (code_with_scope_bytes code scope_document)
        (code_scope code (deduplicated pairs))
    -- 0x10 e_name int32
    is_int32 : (depth number : ℕ) → number < 2 ^ 32
        → IsValue keys depth tag.Int32 (little_endian w32 number) (scalar (kind.int32 (cast_signed w32 number)))
    -- 0x11 e_name uint64: the increment in its low half, the time in its high one
    is_timestamp : (depth increment time : ℕ) → increment < 2 ^ 32 → time < 2 ^ 32
        → IsValue keys depth tag.Timestamp (little_endian w32 increment ++ little_endian w32 time)
        (scalar (kind.timestamp time increment))
    -- 0x12 e_name int64
    is_int64 : (depth number : ℕ) → number < 2 ^ 64
        → IsValue keys depth tag.Int64 (little_endian w64 number) (scalar (kind.int64 (cast_signed w64 number)))
    -- 0x13 e_name decimal128
    is_decimal : (depth : ℕ) (bytes : List ℕ) → length bytes ≡ 16
        → IsValue keys depth tag.Decimal128 bytes (scalar (kind.decimal bytes))
    -- 0xFF e_name
    is_min_key : (depth : ℕ) → IsValue keys depth tag.MinKey [] (scalar kind.min_key)
    -- 0x7F e_name
    is_max_key : (depth : ℕ) → IsValue keys depth tag.MaxKey [] (scalar kind.max_key)
