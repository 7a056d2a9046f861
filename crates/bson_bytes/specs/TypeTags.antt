-- The type that a byte names (BSON 1.1).
use Rattle.std.specs.Prelude.{ℕ, ◌==◌, if◌then◌else◌, Option, Some, None, List, [], ◌∷◌}
use Rattle.bson_types.specs.declared.spec.ElementType.{ElementType}
use Rattle.bson_types.specs.declared.spec.ElementType.TheVariants as tag
use Rattle.bson_types.specs.ElementTags.{tag_of}

-- the first of these types whose tag the byte is
abbrev pub type_with_tag : (tag_byte : ℕ) → List ElementType → Option ElementType
type_with_tag tag_byte [] = None
type_with_tag tag_byte (first_type ∷ other_types) =
    if tag_byte == tag_of first_type then Some first_type else type_with_tag tag_byte other_types

abbrev pub all_types : List ElementType
all_types =
    tag.Double ∷ tag.String ∷ tag.EmbeddedDocument ∷ tag.Array ∷ tag.Binary ∷ tag.Undefined ∷ tag.ObjectId
    ∷ tag.Boolean ∷ tag.DateTime ∷ tag.Null ∷ tag.RegularExpression ∷ tag.DbPointer ∷ tag.JavaScriptCode ∷ tag.Symbol
    ∷ tag.JavaScriptCodeWithScope ∷ tag.Int32 ∷ tag.Timestamp ∷ tag.Int64 ∷ tag.Decimal128 ∷ tag.MaxKey ∷ tag.MinKey
    ∷ []

unfoldable pub type_of_tag : (tag_byte : ℕ) → Option ElementType
type_of_tag tag_byte = type_with_tag tag_byte all_types
