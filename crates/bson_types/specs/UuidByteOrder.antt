-- The four byte orders of a UUID.
use Rattle.std.specs.Prelude.{◌≡◌, ℕ, List, [], ◌∷◌, map, slice_index}
use Rattle.bson_types.specs.declared.uuid_value.UuidRepresentation.{UuidRepresentation}
use Rattle.bson_types.specs.declared.uuid_value.UuidRepresentation.TheVariants.{Standard, CSharpLegacy, JavaLegacy}
use Rattle.bson_types.specs.declared.spec.BinarySubtype.{BinarySubtype}
use Rattle.bson_types.specs.declared.spec.BinarySubtype.TheVariants.{UuidOld, Uuid}
use Rattle.bson_types.specs.declared.uuid_value.Error.{Error}
use Rattle.bson_types.specs.declared.uuid_value.Error.TheVariants.{InvalidUuidString, RepresentationMismatch}
use Rattle.bson_types.specs.declared.uuid_value.Error.TheVariants.{InvalidLength}
pub use Rattle.uuid.specs.Text.{parsed_hyphenated}

-- the index that each byte comes from: 0-3, 4-5 and 6-7 each reversed, or 0-7 and 8-15
abbrev pub byte_order_of : UuidRepresentation → List ℕ
byte_order_of CSharpLegacy = 3 ∷ 2 ∷ 1 ∷ 0 ∷ 5 ∷ 4 ∷ 7 ∷ 6 ∷ 8 ∷ 9 ∷ 10 ∷ 11 ∷ 12 ∷ 13 ∷ 14 ∷ 15 ∷ []
byte_order_of JavaLegacy = 7 ∷ 6 ∷ 5 ∷ 4 ∷ 3 ∷ 2 ∷ 1 ∷ 0 ∷ 15 ∷ 14 ∷ 13 ∷ 12 ∷ 11 ∷ 10 ∷ 9 ∷ 8 ∷ []
byte_order_of _ = 0 ∷ 1 ∷ 2 ∷ 3 ∷ 4 ∷ 5 ∷ 6 ∷ 7 ∷ 8 ∷ 9 ∷ 10 ∷ 11 ∷ 12 ∷ 13 ∷ 14 ∷ 15 ∷ []

-- the bytes in the order of a representation; reordering twice gives the same bytes
abbrev pub bytes_in_uuid_order : UuidRepresentation → (bytes : List ℕ) → List ℕ
bytes_in_uuid_order representation bytes = map (slice_index bytes) (byte_order_of representation)

-- the subtype that a representation is stored with
abbrev pub subtype_for : UuidRepresentation → BinarySubtype
subtype_for Standard = Uuid
subtype_for _ = UuidOld

-- the errors of UUIDs, with their fields
abbrev pub IsInvalidUuidString : Error → Type 0
IsInvalidUuidString (InvalidUuidString message) = Unit {0}
IsInvalidUuidString _ = ⊥

abbrev pub IsRepresentationMismatch : (expected actual : BinarySubtype) → (requested : UuidRepresentation) → Error
    → Type 0
IsRepresentationMismatch expected actual requested
    (RepresentationMismatch error_expected error_actual error_requested) = (error_expected ≡ expected)
    × (error_actual ≡ actual) × (error_requested ≡ requested)
IsRepresentationMismatch expected actual requested _ = ⊥

abbrev pub IsInvalidLength : (byte_count : ℕ) → Error → Type 0
IsInvalidLength byte_count (InvalidLength reported_length) = reported_length ≡ byte_count
IsInvalidLength byte_count _ = ⊥
