-- How bytes are read, as a function: for the order of errors, and for the proofs. `IsDocument` is the grammar. Each
-- part is a value and the bytes after it. The first error from the left is returned, and of errors at one position the
-- first that is tested here. A length is compared with its part after the part is read. If duplicate keys are rejected,
-- a key is compared with those before it after it is read.
use Rattle.std.specs.Prelude.{ℕ, zero, suc, ◌+◌, ◌-◌, ◌^◌, List, [], ◌∷◌, length, take, drop, Result, Ok, Err, true}
use Rattle.std.specs.Prelude.{false}
use Rattle.std.specs.Prelude.{Option, Some, None, option_map, nat_lt, ◌==◌, if◌then◌else◌, Bool, cond}
use Rattle.std.specs.Int.{Width, w32, w64, byte_len, from_le_bytes, cast_signed}
use Rattle.std.specs.Str.{bytes_eq, is_utf8}
use Rattle.bson_types.specs.declared.spec.ElementType.{ElementType}
use Rattle.bson_types.specs.declared.spec.ElementType.TheVariants as tag
use Rattle.bson_types.specs.BinarySubtypes.{subtype_of}
use Rattle.bson_scalar.specs.Scalar as kind
use Rattle.bson_model.specs.Value.{Value, Pairs, no_pairs, pair, scalar, code_scope, array, document}
use Rattle.bson_bytes.specs.declared.fault.FaultKind.TheVariants.{Short, Length, Tag, Utf8, Boolean, End, Depth}
use Rattle.bson_bytes.specs.declared.fault.FaultKind.TheVariants.{Trailing, DuplicateKey}
use Rattle.bson_bytes.specs.declared.fault.Fault.{Fault}
use Rattle.bson_model.specs.declared.options.DuplicateKeys.{DuplicateKeys}
use Rattle.bson_model.specs.declared.options.DuplicateKeys.TheVariants.{LastWins, Reject}
use Rattle.bson_bytes.specs.Fault.{fault_at, ◌>>=◌, some_or_fault}
use Rattle.bson_bytes.specs.Grammar.{deduplicated_onto, pair_values}
use Rattle.bson_bytes.specs.TypeTags.{type_of_tag}

abbrev pub read_byte : (bytes : List ℕ) → Result (ℕ × List ℕ) Fault
read_byte [] = Err (fault_at Short [])
read_byte (byte ∷ bytes) = Ok (byte, bytes)

abbrev pub read_bytes : (count : ℕ) → (bytes : List ℕ) → Result (List ℕ × List ℕ) Fault
read_bytes count bytes =
    if nat_lt (length bytes) count then Err (fault_at Short bytes) else Ok (take count bytes, drop count bytes)

abbrev pub read_integer : Width → (bytes : List ℕ) → Result (ℕ × List ℕ) Fault
read_integer width bytes = if nat_lt (length bytes) (byte_len width) then Err (fault_at Short bytes)
    else Ok (from_le_bytes width (take (byte_len width) bytes), drop (byte_len width) bytes)

-- an int32 that is not negative
unfoldable pub read_length : (bytes : List ℕ) → Result (ℕ × List ℕ) Fault
read_length bytes = do
  size ← read_integer w32 bytes
  if nat_lt size.0 (2 ^ 31) then Ok size else Err (fault_at Length bytes)

-- the byte 0
abbrev pub read_nul : (bytes : List ℕ) → Result (List ℕ) Fault
read_nul [] = Err (fault_at Short [])
read_nul (byte ∷ bytes) = if byte == 0 then Ok bytes else Err (fault_at End (byte ∷ bytes))

-- the byte before the first of the two
abbrev pub prepend_byte : (byte : ℕ) → (split : List ℕ × List ℕ) → List ℕ × List ℕ
prepend_byte byte split = (byte ∷ split.0, split.1)

-- the bytes before the first 0, and those after it
abbrev pub split_at_nul : (bytes : List ℕ) → Option (List ℕ × List ℕ)
split_at_nul [] = None
split_at_nul (byte ∷ bytes) =
    if byte == 0 then Some ([], bytes) else option_map (prepend_byte byte) (split_at_nul bytes)

-- the bytes if they are UTF-8, or the error at this position
abbrev pub check_utf8 : (text bytes : List ℕ) → Result (List ℕ) Fault
check_utf8 text bytes = if is_utf8 text then Ok text else Err (fault_at Utf8 bytes)

unfoldable pub read_name : (bytes : List ℕ) → Result (List ℕ × List ℕ) Fault
read_name bytes = do
  split ← some_or_fault (split_at_nul bytes) Short bytes
  name ← check_utf8 split.0 bytes
  Ok (name, split.1)

-- the earlier keys of a document, if duplicate keys are rejected; None if they are allowed
abbrev pub EarlierKeys : Type 0
EarlierKeys = Option (List (List ℕ))

abbrev pub no_earlier_keys : DuplicateKeys → EarlierKeys
no_earlier_keys LastWins = None
no_earlier_keys Reject = Some []

abbrev pub add_earlier_key : (key : List ℕ) → EarlierKeys → EarlierKeys
add_earlier_key key None = None
add_earlier_key key (Some keys) = Some (key ∷ keys)

-- whether the key is not one of these
abbrev pub is_new_key : (key : List ℕ) → (earlier_keys : List (List ℕ)) → Bool
is_new_key key [] = true
is_new_key key (earlier_key ∷ earlier_keys) = cond (bytes_eq key earlier_key) false (is_new_key key earlier_keys)

-- a name that is allowed after these
abbrev pub read_key : EarlierKeys → (bytes : List ℕ) → Result (List ℕ × List ℕ) Fault
read_key None bytes = read_name bytes
read_key (Some earlier_keys) bytes =
    read_name bytes >>= λ key. if is_new_key key.0 earlier_keys then Ok key else Err (fault_at DuplicateKey bytes)

unfoldable pub read_string : (bytes : List ℕ) → Result (List ℕ × List ℕ) Fault
read_string bytes = do
  size ← read_length bytes
  if size.0 == 0 then Err (fault_at Length bytes) else do
    content ← read_bytes (size.0 - 1) size.1
    rest ← read_nul content.1
    text ← check_utf8 content.0 size.1
    Ok (text, rest)

-- bytes under a subtype; those of the subtype 2 have a length of their own before them
abbrev pub read_old_binary : (size : ℕ) → (bytes : List ℕ) → Result (Value × List ℕ) Fault
read_old_binary size bytes = read_length bytes >>= λ inner_size.
    if inner_size.0 + 4 == size
    then (read_bytes inner_size.0 inner_size.1
    >>= λ content. Ok (scalar (kind.binary (subtype_of 2) content.0), content.1))
    else Err (fault_at Length bytes)

abbrev pub read_plain_binary : (subtype size : ℕ) → (bytes : List ℕ) → Result (Value × List ℕ) Fault
read_plain_binary subtype size bytes =
    read_bytes size bytes >>= λ content. Ok (scalar (kind.binary (subtype_of subtype) content.0), content.1)

unfoldable pub read_binary : (bytes : List ℕ) → Result (Value × List ℕ) Fault
read_binary bytes = do
  size ← read_length bytes
  subtype ← read_byte size.1
  if subtype.0 == 2 then read_old_binary size.0 subtype.1 else read_plain_binary subtype.0 size.0 subtype.1

unfoldable pub read_boolean : (bytes : List ℕ) → Result (Value × List ℕ) Fault
read_boolean bytes = do
  byte ← read_byte bytes
  if byte.0 == 0 then Ok (scalar (kind.boolean false), byte.1)
      else if byte.0 == 1 then Ok (scalar (kind.boolean true), byte.1)
      else Err (fault_at Boolean bytes)

unfoldable pub read_regex : (bytes : List ℕ) → Result (Value × List ℕ) Fault
read_regex bytes = do
  pattern ← read_name bytes
  options ← read_name pattern.1
  Ok (scalar (kind.regex pattern.0 options.0), options.1)

unfoldable pub read_pointer : (bytes : List ℕ) → Result (Value × List ℕ) Fault
read_pointer bytes = do
  namespace ← read_string bytes
  id ← read_bytes 12 namespace.1
  Ok (scalar (kind.db_pointer namespace.0 id.0), id.1)

unfoldable pub read_timestamp : (bytes : List ℕ) → Result (Value × List ℕ) Fault
read_timestamp bytes = do
  increment ← read_integer w32 bytes
  time ← read_integer w32 increment.1
  Ok (scalar (kind.timestamp time.0 increment.0), time.1)

-- what was read, converted
abbrev pub map_pairs_read : {A : Type 0} → (convert : Pairs → A) → Result (Pairs × List ℕ) Fault
    → Result (A × List ℕ) Fault
map_pairs_read convert read_result = read_result >>= λ pairs. Ok (convert pairs.0, pairs.1)

-- the bytes after what was read
abbrev pub bytes_after : {A : Type 0} → (read_result : Result (A × List ℕ) Fault) → Result (List ℕ) Fault
bytes_after read_result = read_result >>= λ value_and_rest. Ok value_and_rest.1

-- the first pairs, with the pairs that were read inserted
abbrev pub insert_pairs_read : (first_pairs : Pairs) → Result (Pairs × List ℕ) Fault → Result (Pairs × List ℕ) Fault
insert_pairs_read first_pairs read_result = map_pairs_read (deduplicated_onto first_pairs) read_result

-- code and a document, whose length together is the number before them
unfoldable pub read_code_with_scope : (read_scope : List ℕ → Result (Pairs × List ℕ) Fault) → (bytes : List ℕ)
    → Result (Value × List ℕ) Fault
read_code_with_scope read_scope bytes = do
  size ← read_length bytes
  code ← read_string size.1
  scope ← insert_pairs_read no_pairs (read_scope code.1)
  if size.0 + length scope.1 == length bytes then Ok (code_scope code.0 scope.0, scope.1)
      else Err (fault_at Length bytes)

-- a value, whose inner documents are read by this function
unfoldable pub read_value_in : DuplicateKeys → (read_inner : EarlierKeys → List ℕ → Result (Pairs × List ℕ) Fault)
    → ElementType → (bytes : List ℕ)
    → Result (Value × List ℕ) Fault
read_value_in keys read_inner tag.Double bytes = do
  number ← read_integer w64 bytes
  Ok (scalar (kind.double number.0), number.1)
read_value_in keys read_inner tag.String bytes = do
  text ← read_string bytes
  Ok (scalar (kind.text text.0), text.1)
read_value_in keys read_inner tag.EmbeddedDocument bytes = do
  pairs ← insert_pairs_read no_pairs (read_inner (no_earlier_keys keys) bytes)
  Ok (document pairs.0, pairs.1)
read_value_in keys read_inner tag.Array bytes = do
  values ← map_pairs_read pair_values (read_inner None bytes)
  Ok (array values.0, values.1)
read_value_in keys read_inner tag.Binary bytes = read_binary bytes
read_value_in keys read_inner tag.Undefined bytes = Ok (scalar kind.undefined, bytes)
read_value_in keys read_inner tag.ObjectId bytes = do
  id ← read_bytes 12 bytes
  Ok (scalar (kind.object_id id.0), id.1)
read_value_in keys read_inner tag.Boolean bytes = read_boolean bytes
read_value_in keys read_inner tag.DateTime bytes = do
  number ← read_integer w64 bytes
  Ok (scalar (kind.date (cast_signed w64 number.0)), number.1)
read_value_in keys read_inner tag.Null bytes = Ok (scalar kind.null, bytes)
read_value_in keys read_inner tag.RegularExpression bytes = read_regex bytes
read_value_in keys read_inner tag.DbPointer bytes = read_pointer bytes
read_value_in keys read_inner tag.JavaScriptCode bytes = do
  code ← read_string bytes
  Ok (scalar (kind.code code.0), code.1)
read_value_in keys read_inner tag.Symbol bytes = do
  symbol ← read_string bytes
  Ok (scalar (kind.symbol symbol.0), symbol.1)
read_value_in keys read_inner tag.JavaScriptCodeWithScope bytes =
    read_code_with_scope (read_inner (no_earlier_keys keys)) bytes
read_value_in keys read_inner tag.Int32 bytes = do
  number ← read_integer w32 bytes
  Ok (scalar (kind.int32 (cast_signed w32 number.0)), number.1)
read_value_in keys read_inner tag.Timestamp bytes = read_timestamp bytes
read_value_in keys read_inner tag.Int64 bytes = do
  number ← read_integer w64 bytes
  Ok (scalar (kind.int64 (cast_signed w64 number.0)), number.1)
read_value_in keys read_inner tag.Decimal128 bytes = do
  bit_pattern ← read_bytes 16 bytes
  Ok (scalar (kind.decimal bit_pattern.0), bit_pattern.1)
read_value_in keys read_inner tag.MaxKey bytes = Ok (scalar kind.max_key, bytes)
read_value_in keys read_inner tag.MinKey bytes = Ok (scalar kind.min_key, bytes)

-- The elements to the byte 0. The number bounds the recursion: the count of the bytes is always enough.
unfoldable pub read_elements : (read_value : ElementType → List ℕ → Result (Value × List ℕ) Fault) → EarlierKeys
    → (bound : ℕ) → (bytes : List ℕ)
    → Result (Pairs × List ℕ) Fault
read_elements read_value earlier_keys zero bytes = Err (fault_at Short bytes)
read_elements read_value earlier_keys (suc bound) bytes = do
  tag_byte ← read_byte bytes
  if tag_byte.0 == 0 then Ok (no_pairs, tag_byte.1) else do
    element_type ← some_or_fault (type_of_tag tag_byte.0) Tag bytes
    key ← read_key earlier_keys tag_byte.1
    first_value ← read_value element_type key.1
    other_pairs ← read_elements read_value (add_earlier_key key.0 earlier_keys) bound first_value.1
    Ok (pair key.0 first_value.0 other_pairs.0, other_pairs.1)

-- the pairs, if the document that begins with these bytes has this length
abbrev pub check_length : (size : ℕ) → (bytes : List ℕ) → (pairs_and_rest : Pairs × List ℕ)
    → Result (Pairs × List ℕ) Fault
check_length size bytes pairs_and_rest =
    if size + length pairs_and_rest.1 == length bytes then Ok pairs_and_rest else Err (fault_at Length bytes)

-- one document, and in it documents nested no deeper than the number
unfoldable pub read_document_in : DuplicateKeys → (depth : ℕ) → EarlierKeys → (bytes : List ℕ)
    → Result (Pairs × List ℕ) Fault
read_document_in keys zero earlier_keys bytes = Err (fault_at Depth bytes)
read_document_in keys (suc depth) earlier_keys bytes = do
  size ← read_length bytes
  elements ← read_elements (read_value_in keys (read_document_in keys depth)) earlier_keys (length size.1) size.1
  check_length size.0 bytes elements

-- all of the bytes
unfoldable pub reads_bytes_in : DuplicateKeys → (depth : ℕ) → (bytes : List ℕ) → Result Pairs Fault
reads_bytes_in keys depth bytes = do
  pairs ← insert_pairs_read no_pairs (read_document_in keys depth (no_earlier_keys keys) bytes)
  if length pairs.1 == 0 then Ok pairs.0 else Err (fault_at Trailing pairs.1)

-- the same, if duplicate keys are allowed
abbrev pub read_first_document : (depth : ℕ) → (bytes : List ℕ) → Result (Pairs × List ℕ) Fault
read_first_document depth = read_document_in LastWins depth None

abbrev pub reads_bytes : (depth : ℕ) → (bytes : List ℕ) → Result Pairs Fault
reads_bytes depth = reads_bytes_in LastWins depth
