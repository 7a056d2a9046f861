-- `$oid`, and `$dbPointer` with an object id inside (MongoDB Extended JSON v2).
-- Read, with digits of either case, and written, with lower-case ones: {"$oid": "53e37d08776f724e42000000"},
-- {"$dbPointer": {"$ref": "a.b", "$id": {"$oid": "53e37d08776f724e42000000"}}}.
use Rattle.std.specs.Prelude.{ℕ, List, codes}
use Rattle.bson_types.specs.ObjectIds.{encode_lower}
use Rattle.serde_json.specs.Data.{Data}
use Rattle.serde_json.specs.Data as tree
use Rattle.bson_scalar.specs.TreeParts.{one_key_object, two_key_object}
use Rattle.bson_scalar.specs.Table.{key_of}
use Rattle.bson_scalar.specs.declared.wrapper.Wrapper.TheVariants.{Oid, DbPointer}

abbrev pub oid_tree : (id : List ℕ) → Data
oid_tree id = one_key_object (key_of Oid) (tree.string (encode_lower id))

abbrev pub pointer_tree : (namespace id : List ℕ) → Data
pointer_tree namespace id =
    one_key_object (key_of DbPointer)
    (two_key_object (codes "$id") (oid_tree id) (codes "$ref") (tree.string namespace))
