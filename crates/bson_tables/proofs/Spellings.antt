-- Rows of the texts of UUIDs (the example of RFC 9562 section 4) and of base64 (the vectors of RFC 4648 section 10).
use Rattle.std.proofs.Common.{◌≡◌, ℕ, List, [], ◌∷◌, Some, None, refl, sym, ◌∙◌}
use Rattle.std.specs.Prelude.{codes}
use Rattle.base64.specs.Decode.{groups_error, groups_bytes, scan_steps}
use Rattle.hex.specs.Hex.{decode_pairs}
use Rattle.uuid.specs.Text.{by_index, parsed}
use Rattle.bson_types.specs.Base64.{padded_base64}
use Rattle.bson_types.specs.Uuid.{IsUuidText}
use Rattle.bson_types.specs.declared.spec.BinarySubtype.TheVariants.{Generic, Uuid}
use Rattle.bson_types.proofs.Offered.{parsed_from, parsed_to}
use Rattle.serde_json.specs.Data.{Data}
use Rattle.serde_json.specs.Data as tree
use Rattle.bson_scalar.specs.Faults.{wrong_shape}
use Rattle.bson_scalar.specs.Scalar as kind
use Rattle.bson_scalar.specs.TreeParts.{one_key_object, two_key_object}
use Rattle.bson_model.specs.Fault.{fault_of, MeansNothing}
use Rattle.bson_model.specs.Means.{Means}
use Rattle.bson_model.specs.Value as model
use Rattle.bson_tables.proofs.Shapes.{row, none}

-- ---- UUIDs

example : List ℕ
example =
    0xf8 ∷ 0x1d ∷ 0x4f ∷ 0xae ∷ 0x7d ∷ 0xec ∷ 0x11 ∷ 0xd0 ∷ 0xa7 ∷ 0x65 ∷ 0x00 ∷ 0xa0 ∷ 0xc9 ∷ 0x1e ∷ 0x6b ∷ 0xf6 ∷ []

abbrev IsExample : List ℕ → Type 0
IsExample text = IsUuidText text example

-- digits alone, hyphenated, in capitals, in braces, after the prefix of the URN, and after that in capitals
spellings : IsExample (codes "f81d4fae7dec11d0a76500a0c91e6bf6")
    × IsExample (codes "f81d4fae-7dec-11d0-a765-00a0c91e6bf6")
    × IsExample (codes "F81D4FAE-7DEC-11D0-A765-00A0C91E6BF6")
    × IsExample (codes "{f81d4fae-7dec-11d0-a765-00a0c91e6bf6}")
    × IsExample (codes "urn:uuid:f81d4fae-7dec-11d0-a765-00a0c91e6bf6")
    × IsExample (codes "URN:UUID:f81d4fae-7dec-11d0-a765-00a0c91e6bf6")
unfolding example by_index
spellings = (
  parsed_from _ _ refl,
  parsed_from _ _ refl,
  parsed_from _ _ refl,
  parsed_from _ _ refl,
  parsed_from _ _ refl,
  parsed_from _ _ refl,
)

IsNoUuid : List ℕ → Type 0
IsNoUuid text = (id : List ℕ) → ¬ (IsUuidText text id)

no_uuid : (text : List ℕ) → parsed text ≡ None → IsNoUuid text
unfolding IsNoUuid
no_uuid text e id is = let both : None ≡ Some id = sym e ∙ parsed_to is in cc

-- a hyphen at 7, a letter that is no digit, braces round digits alone, and another prefix
no_spellings : IsNoUuid (codes "f81d4fa-e7dec-11d0-a765-00a0c91e6bf6")
    × IsNoUuid (codes "g81d4fae7dec11d0a76500a0c91e6bf6")
    × IsNoUuid (codes "{f81d4fae7dec11d0a76500a0c91e6bf6}")
    × IsNoUuid (codes "urn:guid:f81d4fae-7dec-11d0-a765-00a0c91e6bf6")
no_spellings = (no_uuid _ refl, no_uuid _ refl, no_uuid _ refl, no_uuid _ refl)

-- ---- `$uuid` accepts the hyphenated spelling alone

abbrev uuid_tree : List ℕ → Data
uuid_tree text = one_key_object (codes "$uuid") (tree.string text)

abbrev IsRejected : Data → Type 0
IsRejected t = MeansNothing t × (fault_of t ≡ wrong_shape)

wrapped_upper_case : Means (uuid_tree (codes "F81D4FAE-7DEC-11D0-A765-00A0C91E6BF6"))
    (model.scalar (kind.binary Uuid example))
unfolding example by_index
wrapped_upper_case = row _ _ refl

abbrev IsNoWrappedUuid : List ℕ → Type 0
IsNoWrappedUuid text = IsRejected (uuid_tree text)

-- digits alone, braces, the URN, and a hyphen at 7
not_wrapped : IsNoWrappedUuid (codes "f81d4fae7dec11d0a76500a0c91e6bf6")
    × IsNoWrappedUuid (codes "{f81d4fae-7dec-11d0-a765-00a0c91e6bf6}")
    × IsNoWrappedUuid (codes "urn:uuid:f81d4fae-7dec-11d0-a765-00a0c91e6bf6")
    × IsNoWrappedUuid (codes "f81d4fa-e7dec-11d0-a765-00a0c91e6bf6")
not_wrapped = (
  (none _ wrong_shape refl, refl),
  (none _ wrong_shape refl, refl),
  (none _ wrong_shape refl, refl),
  (none _ wrong_shape refl, refl),
)

-- ---- base64

vectors : (padded_base64 [] ≡ []) × (padded_base64 (codes "f") ≡ codes "Zg==") × (padded_base64 (codes "fo") ≡ codes "Zm8=")
    × (padded_base64 (codes "foo") ≡ codes "Zm9v") × (padded_base64 (codes "foob") ≡ codes "Zm9vYg==")
    × (padded_base64 (codes "fooba") ≡ codes "Zm9vYmE=") × (padded_base64 (codes "foobar") ≡ codes "Zm9vYmFy")
vectors = (refl, refl, refl, refl, refl, refl, refl)

-- the digits of 62 and 63
last_digits : padded_base64 (0xfb ∷ 0xff ∷ []) ≡ codes "+/8="
last_digits = refl

abbrev binary_tree : List ℕ → Data
binary_tree text =
    one_key_object (codes "$binary")
    (two_key_object (codes "base64") (tree.string text) (codes "subType") (tree.string (codes "00")))

padding_of_two : Means (binary_tree (codes "Zm9vYg==")) (model.scalar (kind.binary Generic (codes "foob")))
unfolding groups_error groups_bytes scan_steps decode_pairs
padding_of_two = row _ _ refl

no_padding_due : Means (binary_tree (codes "Zm9vYmFy")) (model.scalar (kind.binary Generic (codes "foobar")))
unfolding groups_error groups_bytes scan_steps decode_pairs
no_padding_due = row _ _ refl

abbrev IsNoBase64 : List ℕ → Type 0
IsNoBase64 text = IsRejected (binary_tree text)

-- no padding, half of it, bits left over in the digit before the padding, which must be zero, the alphabet of URLs,
-- a blank, and numbers that are no bytes
no_base64 : IsNoBase64 (codes "Zm9vYg")
    × IsNoBase64 (codes "Zm9vYg=")
    × IsNoBase64 (codes "Zh==")
    × IsNoBase64 (codes "-_8=")
    × IsNoBase64 (codes "Zm9v ")
    × IsNoBase64 (256 ∷ 256 ∷ 256 ∷ 256 ∷ [])
unfolding groups_error groups_bytes scan_steps decode_pairs
no_base64 = (
  (none _ wrong_shape refl, refl),
  (none _ wrong_shape refl, refl),
  (none _ wrong_shape refl, refl),
  (none _ wrong_shape refl, refl),
  (none _ wrong_shape refl, refl),
  (none _ wrong_shape refl, refl),
)
