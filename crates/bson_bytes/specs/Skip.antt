-- The bytes after a value, by its length alone: right if the value is valid.
use Rattle.std.specs.Prelude.{◌≡◌, ℕ, ◌+◌, List, [], ◌∷◌, length, take, drop, nat_lt, if◌then◌else◌}
use Rattle.std.specs.Prelude.{Option, None, Some, option_map, option_and_then}
use Rattle.std.specs.Int.{w32, from_le_bytes}
use Rattle.bson_types.specs.declared.spec.ElementType.{ElementType}
use Rattle.bson_types.specs.declared.spec.ElementType.TheVariants as tag
use Rattle.bson_model.specs.Value.{Pairs, no_pairs}
use Rattle.bson_bytes.specs.Reading.{split_at_nul}
use Rattle.bson_bytes.specs.TypeTags.{type_of_tag}
use Rattle.bson_bytes.specs.declared.skip_value.ValueSize.{ValueSize}
use Rattle.bson_bytes.specs.declared.skip_value.ValueSize.TheVariants.{Fixed, LengthPrefixed, TwoCStrings}

abbrev pub skip_bytes : (count : ℕ) → (bytes : List ℕ) → Option (List ℕ)
skip_bytes count bytes = if nat_lt (length bytes) count then None else Some (drop count bytes)

-- the number of 32 bits at the front
abbrev pub length_prefix : (bytes : List ℕ) → Option ℕ
length_prefix bytes = if nat_lt (length bytes) 4 then None else Some (from_le_bytes w32 (take 4 bytes))

-- as many bytes as the number at their front says, and so many more
abbrev pub skip_length_prefixed : (extra : ℕ) → (bytes : List ℕ) → Option (List ℕ)
skip_length_prefixed extra bytes = option_and_then (λ size. skip_bytes (size + extra) bytes) (length_prefix bytes)

abbrev pub skip_name : (bytes : List ℕ) → Option (List ℕ)
skip_name bytes = option_map (λ name_and_rest. name_and_rest.1) (split_at_nul bytes)

abbrev pub skip_regex : (bytes : List ℕ) → Option (List ℕ)
skip_regex bytes = option_and_then skip_name (skip_name bytes)

-- how many bytes a value of each type has
abbrev pub value_size : ElementType → ValueSize
value_size tag.Double = Fixed 8
value_size tag.String = LengthPrefixed 4
value_size tag.EmbeddedDocument = LengthPrefixed 0
value_size tag.Array = LengthPrefixed 0
value_size tag.Binary = LengthPrefixed 5
value_size tag.Undefined = Fixed 0
value_size tag.ObjectId = Fixed 12
value_size tag.Boolean = Fixed 1
value_size tag.DateTime = Fixed 8
value_size tag.Null = Fixed 0
value_size tag.RegularExpression = TwoCStrings
value_size tag.DbPointer = LengthPrefixed 16
value_size tag.JavaScriptCode = LengthPrefixed 4
value_size tag.Symbol = LengthPrefixed 4
value_size tag.JavaScriptCodeWithScope = LengthPrefixed 0
value_size tag.Int32 = Fixed 4
value_size tag.Timestamp = Fixed 8
value_size tag.Int64 = Fixed 8
value_size tag.Decimal128 = Fixed 16
value_size tag.MaxKey = Fixed 0
value_size tag.MinKey = Fixed 0

-- the bytes after so many
abbrev pub skip_value_of_size : ValueSize → (bytes : List ℕ) → Option (List ℕ)
skip_value_of_size (Fixed count) bytes = skip_bytes count bytes
skip_value_of_size (LengthPrefixed extra) bytes = skip_length_prefixed extra bytes
skip_value_of_size TwoCStrings bytes = skip_regex bytes

abbrev pub skip_value : ElementType → (bytes : List ℕ) → Option (List ℕ)
skip_value element_type bytes = skip_value_of_size (value_size element_type) bytes

-- the element at the front: its type, its name, and the bytes that begin with its value; None if there is no element
abbrev pub first_element_of : (bytes : List ℕ) → Option (ElementType × List ℕ × List ℕ)
first_element_of [] = None
first_element_of (tag_byte ∷ bytes) =
    option_and_then
    (λ element_type. option_map (λ name_and_rest. (element_type, name_and_rest.0, name_and_rest.1))
    (split_at_nul bytes)) (type_of_tag tag_byte)

-- no element is left, or these are the name of the first and the bytes after its value
abbrev pub IsNameAndRest : Pairs → (bytes : List ℕ) → (name_and_rest : Option (List ℕ × List ℕ)) → Type 0
IsNameAndRest pairs bytes None = pairs ≡ no_pairs
IsNameAndRest pairs bytes (Some name_and_rest) =
    (element_type : ElementType) × (value_bytes : List ℕ)
    × (first_element_of bytes ≡ Some (element_type, name_and_rest.0, value_bytes))
    × (skip_value element_type value_bytes ≡ Some name_and_rest.1)
