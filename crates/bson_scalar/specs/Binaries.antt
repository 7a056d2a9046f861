-- `$binary` (MongoDB Extended JSON v2): bytes as base64 (RFC 4648 section 4) and their subtype as two hexadecimal
-- digits. Read and written: {"$binary": {"base64": "aGVsbG8=", "subType": "00"}}. `$uuid`: the hyphenated text of a
-- UUID (RFC 9562 section 4), read alone: {"$uuid": "00112233-4455-6677-8899-aabbccddeeff"}.
use Rattle.std.specs.Prelude.{ℕ, List, [], ◌∷◌, codes}
use Rattle.hex.specs.Hex.{encode_lower}
use Rattle.bson_types.specs.HexText.{IsHexText}
use Rattle.bson_types.specs.Base64.{padded_base64}
use Rattle.bson_types.specs.BinarySubtypes.{subtype_byte}
use Rattle.bson_types.specs.declared.spec.BinarySubtype.{BinarySubtype}
use Rattle.serde_json.specs.Data.{Data}
use Rattle.serde_json.specs.Data as tree
use Rattle.bson_scalar.specs.TreeParts.{one_key_object, two_key_object}
use Rattle.bson_scalar.specs.Table.{key_of}
use Rattle.bson_scalar.specs.declared.wrapper.Wrapper.TheVariants.{Binary}

-- two hexadecimal digits of either case
abbrev pub IsByteText : (text_bytes : List ℕ) (byte_value : ℕ) → Type 0
IsByteText text_bytes byte_value = IsHexText text_bytes (byte_value ∷ [])

-- the digits are written in lower case
abbrev pub binary_tree : BinarySubtype → (bytes : List ℕ) → Data
binary_tree binary_subtype bytes =
    one_key_object (key_of Binary)
    (two_key_object (codes "base64") (tree.string (padded_base64 bytes)) (codes "subType")
    (tree.string (encode_lower (subtype_byte binary_subtype ∷ []))))
