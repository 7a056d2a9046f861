-- Documents that a builder writes in the caller's memory.
use Rattle.std.specs.Prelude.{◌≡◌, ◌≢◌, ◌≤◌, ◌<◌, ◌+◌, ◌-◌, ◌^◌, ◌++◌, ℕ, Bool, List, [], ◌∷◌, length, take, drop, min, nat_lt}
use Rattle.bson_bytes.specs.Grammar.{IsName, IsLength, HasNoNulByte, document_of_elements}
use Rattle.bson_bytes.specs.Writing.{name_bytes, array_elements_bytes, elements_bytes, scalar_bytes}
use Rattle.bson_model.specs.Value.{Value, Values, no_values, value, Pairs, no_pairs, pair}
use Rattle.bson_scalar.specs.ElementType.{scalar_type}
use Rattle.bson_scalar.specs.Scalar.{Scalar}
use Rattle.bson_types.specs.declared.spec.ElementType.{ElementType}
use Rattle.vbson.specs.declared.builder.Builder.{Builder}
use Rattle.vbson.specs.declared.builder.Element.{Element}

-- the bytes that the builder has written
abbrev pub written_bytes : Builder → List ℕ
written_bytes builder = take builder.len builder.bytes.now

-- the builder has the same memory, and as many bytes of it are written
pub record HasSameBytes (builder_before builder_after : Builder) : Type 0 where
  pub bytes : builder_after.bytes.now ≡ builder_before.bytes.now
  pub len : builder_after.len ≡ builder_before.len

-- the bytes are appended to those of the builder, and the rest of its memory is unchanged
pub record IsAppended (bytes : List ℕ) (builder_before builder_after : Builder) : Type 0 where
  pub fits : builder_before.len + length bytes ≤ length builder_before.bytes.now
  pub written_bytes : written_bytes builder_after ≡ written_bytes builder_before ++ bytes
  pub len : builder_after.len ≡ builder_before.len + length bytes
  pub rest_unchanged : drop builder_after.len builder_after.bytes.now ≡ drop builder_after.len builder_before.bytes.now
  pub size : length builder_after.bytes.now ≡ length builder_before.bytes.now

-- the memory is too small for so many bytes more, and this is the size that they need
pub record IsBuilderTooSmall (byte_count : ℕ) (builder_before builder_after : Builder) : Type 0 where
  pub too_short : length builder_before.bytes.now < builder_before.len + byte_count
  pub needed : builder_after.needed ≡ min (builder_before.len + byte_count) (2 ^ 64 - 1)

-- an element of the type is appended, with the key and the bytes of the value; or this status says why not
pub record Appends (type : ElementType) (key bytes : List ℕ) (status : ℕ)
    (builder_before builder_after : Builder) : Type 0 where
  pub success : status ≡ 0 → IsName key × IsAppended (name_bytes type key ++ bytes) builder_before builder_after
  pub too_small : status ≡ 8
      → IsName key × IsBuilderTooSmall (length (name_bytes type key ++ bytes)) builder_before builder_after
  pub nul_in_key : status ≡ 11 → HasNoNulByte key → ⊥
  pub unchanged : 0 < status → HasSameBytes builder_before builder_after
  pub needed : status ≢ 8 → builder_after.needed ≡ builder_before.needed
  pub memory : builder_after.bytes.ghost_name ≡ builder_before.bytes.ghost_name

-- an element with this scalar is appended
abbrev pub AppendsScalar : (key : List ℕ) → Scalar → (status : ℕ) → (builder_before builder_after : Builder) → Type 0
AppendsScalar key scalar status builder_before builder_after =
    Appends (scalar_type scalar) key (scalar_bytes scalar) status builder_before builder_after

-- a number as a boolean
abbrev pub is_true : (number : ℕ) → Bool
is_true number = nat_lt 0 number

-- the four bytes that are reserved for a length
abbrev pub length_placeholder : List ℕ
length_placeholder = 0 ∷ 0 ∷ 0 ∷ 0 ∷ []

-- the bytes from the start on become a document: its length is set, and its last byte is appended
pub record IsDocumentEnded (start_offset : ℕ) (builder_before builder_after : Builder) : Type 0 where
  pub starts : start_offset + 4 ≤ builder_before.len
  pub fits : builder_before.len + 1 ≤ length builder_before.bytes.now
  pub counts : IsLength (builder_before.len - start_offset + 1)
  pub written_bytes : written_bytes builder_after
      ≡ take start_offset (written_bytes builder_before)
      ++ document_of_elements (drop (start_offset + 4) (written_bytes builder_before))
  pub len : builder_after.len ≡ builder_before.len + 1
  pub rest_unchanged : drop builder_after.len builder_after.bytes.now ≡ drop builder_after.len builder_before.bytes.now
  pub size : length builder_after.bytes.now ≡ length builder_before.bytes.now

-- ---- the elements between the beginning of a document and its end

-- after these first bytes a document begins, and these are its pairs so far
abbrev pub IsUnfinishedDocument : (prefix : List ℕ) → Pairs → Builder → Type 0
IsUnfinishedDocument prefix pairs builder =
    written_bytes builder ≡ prefix ++ (length_placeholder ++ elements_bytes pairs)

-- after these first bytes an array begins, and these are its values so far
abbrev pub IsUnfinishedArray : (prefix : List ℕ) → Values → Builder → Type 0
IsUnfinishedArray prefix values builder =
    written_bytes builder ≡ prefix ++ (length_placeholder ++ array_elements_bytes 0 values)

-- the pairs, and one more
abbrev pub append_pair : Pairs → (new_key : List ℕ) → (new_value : Value) → Pairs
append_pair no_pairs new_key new_value = pair new_key new_value no_pairs
append_pair (pair key old_value pairs) new_key new_value = pair key old_value (append_pair pairs new_key new_value)

-- the values, and one more
abbrev pub append_value : Values → (new_value : Value) → Values
append_value no_values new_value = value new_value no_values
append_value (value old_value values) new_value = value old_value (append_value values new_value)

-- the builder has these bytes after those from before
abbrev pub AppendsBytes : (bytes : List ℕ) → (builder_before builder_after : Builder) → Type 0
AppendsBytes bytes builder_before builder_after = written_bytes builder_after ≡ written_bytes builder_before ++ bytes

-- ---- for private clauses

-- the bytes of the element's value
abbrev pub element_value : Element → List ℕ
element_value element = element.value_head.now ++ (element.value_body.now ++ element.value_tail.now)
