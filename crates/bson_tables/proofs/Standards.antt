-- Rows of the texts whose meaning other standards say, computed: hexadecimal digits and base64 (RFC 4648), UUIDs
-- (RFC 9562), dates (RFC 3339) and decimals (IEEE 754-2008).
use Rattle.std.proofs.Common.{◌≡◌, ℕ, List, [], ◌∷◌, refl}
use Rattle.std.specs.Prelude.{codes}
use Rattle.std.specs.Fmt.{digits}
use Rattle.base64.specs.Decode.{groups_error, groups_bytes, scan_steps}
use Rattle.base64.specs.Rfc4648.{encode_symbols}
use Rattle.hex.specs.Hex.{encode_with, decode_pairs}
use Rattle.uuid.specs.Text.{by_index}
use Rattle.bson_decimal.specs.ParseSteps.{cut_to_34_digits, raise_to_min_exponent, zeros_to_add, exponent_value, written_exponent_plus_32768}
use Rattle.bson_decimal.specs.ParseSteps.{scaled_exponent, coefficient, coefficient_and_exponent, finite}
use Rattle.bson_decimal.specs.DecimalBits.{canonical_decimal}
use Rattle.bson_decimal.specs.DecimalText.{decimal128_text as decimal_text}
use Rattle.bson_scalar.specs.Reading.{decimal_pattern}
use Rattle.bson_scalar.specs.Scalar as kind
use Rattle.bson_scalar.specs.TreeParts.{one_key_object, two_key_object}
use Rattle.bson_scalar.specs.declared.form.Form.{Form}
use Rattle.bson_model.specs.Means.{Means}
use Rattle.bson_model.specs.Value as model
use Rattle.bson_model.specs.Normal.{normal_form}
use Rattle.bson_model.specs.Written.{Written}
use Rattle.bson_model.proofs.Offered.{canon_from}
use Rattle.bson_types.specs.declared.spec.BinarySubtype.TheVariants.{Generic, Function, BinaryOld, UuidOld, Uuid, Md5}
use Rattle.bson_types.specs.declared.spec.BinarySubtype.TheVariants.{Encrypted, Column, Sensitive, Vector, Reserved}
use Rattle.bson_types.specs.declared.spec.BinarySubtype.TheVariants.{UserDefined}
use Rattle.bson_types.specs.BinarySubtypes.{subtype_byte, subtype_of}
use Rattle.serde_json.specs.Data as tree
use Rattle.bson_tables.proofs.Shapes.{row}

-- the id of the texts below
id : List ℕ
id = 0x53 ∷ 0xe3 ∷ 0x7d ∷ 0x08 ∷ 0x77 ∷ 0x6f ∷ 0x72 ∷ 0x4e ∷ 0x42 ∷ 0 ∷ 0 ∷ 0 ∷ []

oid_read : Means (one_key_object (codes "$oid") (tree.string (codes "53e37d08776f724e42000000")))
    (model.scalar (kind.object_id id))
unfolding id decode_pairs
oid_read = row _ _ refl

upper_oid_read : Means (one_key_object (codes "$oid") (tree.string (codes "53E37D08776F724E42000000")))
    (model.scalar (kind.object_id id))
unfolding id decode_pairs
upper_oid_read = row _ _ refl

oid_written : (f : Form)
    → Written f (normal_form (model.scalar (kind.object_id id)))
    (one_key_object (codes "$oid") (tree.string (codes "53e37d08776f724e42000000")))
unfolding id encode_with
oid_written f = canon_from f (model.scalar (kind.object_id id)) _ refl

-- the bytes of the word hello, which need one padding symbol
hello_read : Means (one_key_object (codes "$binary")
    (two_key_object (codes "base64") (tree.string (codes "aGVsbG8=")) (codes "subType") (tree.string (codes "00"))))
    (model.scalar (kind.binary Generic (codes "hello")))
unfolding groups_error groups_bytes scan_steps decode_pairs
hello_read = row _ _ refl

hello_written : (f : Form)
    → Written f (normal_form (model.scalar (kind.binary Generic (codes "hello"))))
    (one_key_object (codes "$binary")
    (two_key_object (codes "base64") (tree.string (codes "aGVsbG8=")) (codes "subType") (tree.string (codes "00"))))
unfolding encode_symbols encode_with
hello_written f = canon_from f (model.scalar (kind.binary Generic (codes "hello"))) _ refl

-- the bytes of the subtypes (BSON 1.1), both ways
bytes_of_subtypes : (subtype_byte Generic ≡ 0x00) × (subtype_byte Function ≡ 0x01) × (subtype_byte BinaryOld ≡ 0x02)
    × (subtype_byte UuidOld ≡ 0x03) × (subtype_byte Uuid ≡ 0x04) × (subtype_byte Md5 ≡ 0x05)
    × (subtype_byte Encrypted ≡ 0x06) × (subtype_byte Column ≡ 0x07) × (subtype_byte Sensitive ≡ 0x08)
    × (subtype_byte Vector ≡ 0x09)
bytes_of_subtypes = (refl, refl, refl, refl, refl, refl, refl, refl, refl, refl)

subtypes_of_bytes : (subtype_of 0x00 ≡ Generic) × (subtype_of 0x01 ≡ Function) × (subtype_of 0x02 ≡ BinaryOld)
    × (subtype_of 0x03 ≡ UuidOld) × (subtype_of 0x04 ≡ Uuid) × (subtype_of 0x05 ≡ Md5) × (subtype_of 0x06 ≡ Encrypted)
    × (subtype_of 0x07 ≡ Column) × (subtype_of 0x08 ≡ Sensitive) × (subtype_of 0x09 ≡ Vector)
    × (subtype_of 0x0A ≡ Reserved 0x0A) × (subtype_of 0x7F ≡ Reserved 0x7F) × (subtype_of 0x80 ≡ UserDefined 0x80)
    × (subtype_of 0xFF ≡ UserDefined 0xFF)
subtypes_of_bytes = (refl, refl, refl, refl, refl, refl, refl, refl, refl, refl, refl, refl, refl, refl)

user_read : Means (one_key_object (codes "$binary")
    (two_key_object (codes "base64") (tree.string (codes "")) (codes "subType") (tree.string (codes "80"))))
    (model.scalar (kind.binary (UserDefined 0x80) []))
unfolding groups_error groups_bytes scan_steps decode_pairs
user_read = row _ _ refl

uuid_read : Means (one_key_object (codes "$uuid") (tree.string (codes "00112233-4455-6677-8899-aabbccddeeff")))
    (model.scalar (kind.binary Uuid
    (0x00 ∷ 0x11 ∷ 0x22 ∷ 0x33 ∷ 0x44 ∷ 0x55 ∷ 0x66 ∷ 0x77 ∷ 0x88 ∷ 0x99 ∷ 0xaa ∷ 0xbb ∷ 0xcc ∷ 0xdd ∷ 0xee ∷ 0xff
    ∷ [])))
unfolding by_index
uuid_read = row _ _ refl

-- 15 at the exponent -1, little-endian
decimal_read : Means (one_key_object (codes "$numberDecimal") (tree.string (codes "1.5")))
    (model.scalar (kind.decimal (0x0F ∷ 0 ∷ 0 ∷ 0 ∷ 0 ∷ 0 ∷ 0 ∷ 0 ∷ 0 ∷ 0 ∷ 0 ∷ 0 ∷ 0 ∷ 0 ∷ 0x3E ∷ 0x30 ∷ [])))
unfolding decimal_pattern cut_to_34_digits raise_to_min_exponent zeros_to_add exponent_value written_exponent_plus_32768 scaled_exponent coefficient
    coefficient_and_exponent finite
decimal_read = row _ _ refl

decimal_written : (f : Form)
    → Written f (normal_form
    (model.scalar (kind.decimal (0x0F ∷ 0 ∷ 0 ∷ 0 ∷ 0 ∷ 0 ∷ 0 ∷ 0 ∷ 0 ∷ 0 ∷ 0 ∷ 0 ∷ 0 ∷ 0 ∷ 0x3E ∷ 0x30 ∷ []))))
    (one_key_object (codes "$numberDecimal") (tree.string (codes "1.5")))
unfolding canonical_decimal decimal_text digits
decimal_written f = canon_from f
    (model.scalar (kind.decimal (0x0F ∷ 0 ∷ 0 ∷ 0 ∷ 0 ∷ 0 ∷ 0 ∷ 0 ∷ 0 ∷ 0 ∷ 0 ∷ 0 ∷ 0 ∷ 0 ∷ 0x3E ∷ 0x30 ∷ []))) _ refl

-- the greatest exponent and the least one
greatest_exponent_read : Means (one_key_object (codes "$numberDecimal") (tree.string (codes "1E+6111")))
    (model.scalar (kind.decimal (1 ∷ 0 ∷ 0 ∷ 0 ∷ 0 ∷ 0 ∷ 0 ∷ 0 ∷ 0 ∷ 0 ∷ 0 ∷ 0 ∷ 0 ∷ 0 ∷ 0xFE ∷ 0x5F ∷ [])))
unfolding decimal_pattern cut_to_34_digits raise_to_min_exponent zeros_to_add exponent_value written_exponent_plus_32768 scaled_exponent coefficient
    coefficient_and_exponent finite
greatest_exponent_read = row _ _ refl

least_exponent_read : Means (one_key_object (codes "$numberDecimal") (tree.string (codes "1E-6176")))
    (model.scalar (kind.decimal (1 ∷ 0 ∷ 0 ∷ 0 ∷ 0 ∷ 0 ∷ 0 ∷ 0 ∷ 0 ∷ 0 ∷ 0 ∷ 0 ∷ 0 ∷ 0 ∷ 0 ∷ 0 ∷ [])))
unfolding decimal_pattern cut_to_34_digits raise_to_min_exponent zeros_to_add exponent_value written_exponent_plus_32768 scaled_exponent coefficient
    coefficient_and_exponent finite
least_exponent_read = row _ _ refl

added_zero_read : Means (one_key_object (codes "$numberDecimal") (tree.string (codes "1E+6112")))
    (model.scalar (kind.decimal (10 ∷ 0 ∷ 0 ∷ 0 ∷ 0 ∷ 0 ∷ 0 ∷ 0 ∷ 0 ∷ 0 ∷ 0 ∷ 0 ∷ 0 ∷ 0 ∷ 0xFE ∷ 0x5F ∷ [])))
unfolding decimal_pattern cut_to_34_digits raise_to_min_exponent zeros_to_add exponent_value written_exponent_plus_32768 scaled_exponent coefficient
    coefficient_and_exponent finite
added_zero_read = row _ _ refl

-- the NaNs that no canonical pattern is: one with a sign, and one that signals; the normal form of both is NaN
minus_nan_read : Means (one_key_object (codes "$numberDecimal") (tree.string (codes "-NaN")))
    (model.scalar (kind.decimal (0 ∷ 0 ∷ 0 ∷ 0 ∷ 0 ∷ 0 ∷ 0 ∷ 0 ∷ 0 ∷ 0 ∷ 0 ∷ 0 ∷ 0 ∷ 0 ∷ 0 ∷ 0xFC ∷ [])))
unfolding decimal_pattern cut_to_34_digits raise_to_min_exponent zeros_to_add exponent_value written_exponent_plus_32768 scaled_exponent coefficient
    coefficient_and_exponent finite
minus_nan_read = row _ _ refl

minus_nan_normal : normal_form
    (model.scalar (kind.decimal (0 ∷ 0 ∷ 0 ∷ 0 ∷ 0 ∷ 0 ∷ 0 ∷ 0 ∷ 0 ∷ 0 ∷ 0 ∷ 0 ∷ 0 ∷ 0 ∷ 0 ∷ 0xFC ∷ [])))
    ≡ model.scalar (kind.decimal (0 ∷ 0 ∷ 0 ∷ 0 ∷ 0 ∷ 0 ∷ 0 ∷ 0 ∷ 0 ∷ 0 ∷ 0 ∷ 0 ∷ 0 ∷ 0 ∷ 0 ∷ 0x7C ∷ []))
unfolding canonical_decimal
minus_nan_normal = refl

signalling_nan_read : Means (one_key_object (codes "$numberDecimal") (tree.string (codes "sNaN")))
    (model.scalar (kind.decimal (0 ∷ 0 ∷ 0 ∷ 0 ∷ 0 ∷ 0 ∷ 0 ∷ 0 ∷ 0 ∷ 0 ∷ 0 ∷ 0 ∷ 0 ∷ 0 ∷ 0 ∷ 0x7E ∷ [])))
unfolding decimal_pattern cut_to_34_digits raise_to_min_exponent zeros_to_add exponent_value written_exponent_plus_32768 scaled_exponent coefficient
    coefficient_and_exponent finite
signalling_nan_read = row _ _ refl

signalling_nan_normal : normal_form
    (model.scalar (kind.decimal (0 ∷ 0 ∷ 0 ∷ 0 ∷ 0 ∷ 0 ∷ 0 ∷ 0 ∷ 0 ∷ 0 ∷ 0 ∷ 0 ∷ 0 ∷ 0 ∷ 0 ∷ 0x7E ∷ [])))
    ≡ model.scalar (kind.decimal (0 ∷ 0 ∷ 0 ∷ 0 ∷ 0 ∷ 0 ∷ 0 ∷ 0 ∷ 0 ∷ 0 ∷ 0 ∷ 0 ∷ 0 ∷ 0 ∷ 0 ∷ 0x7C ∷ []))
unfolding canonical_decimal
signalling_nan_normal = refl
