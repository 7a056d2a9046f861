-- The tree of a scalar in a form, its keys in the order in which they are written. In the layout of libbson and PyMongo,
-- as in the tables of Extended JSON v2, two keys of three wrappers are the other way round.
use Rattle.std.specs.Prelude.{◌≡◌, ℕ, List, Bool, true, false, Result, Ok, codes}
use Rattle.bson_types.specs.Regex.{sorted_regex_options}
use Rattle.serde_json.specs.Data.{Data}
use Rattle.serde_json.specs.Data as tree
use Rattle.bson_scalar.specs.Forms.{is_mongodb}
use Rattle.bson_scalar.specs.Ids.{oid_tree}
use Rattle.bson_scalar.specs.Scalar.{Scalar, db_pointer, regex, timestamp}
use Rattle.bson_scalar.specs.Table.{key_of}
use Rattle.bson_scalar.specs.TreeParts.{natural, one_key_object, two_key_object}
use Rattle.bson_scalar.specs.Written.{WriteFault, WrittenScalarIn, writes_scalar_in}
use Rattle.bson_scalar.specs.declared.form.Doubles.{Doubles}
use Rattle.bson_scalar.specs.declared.form.Form.{Form}
use Rattle.bson_scalar.specs.declared.wrapper.Wrapper.TheVariants.{DbPointer, RegularExpression, Timestamp}

-- an object of two keys as they are given, or the other way round
abbrev pub pair_object : (is_swapped : Bool) → (first_key : List ℕ) → Data → (second_key : List ℕ) → Data → Data
pair_object false first_key first_tree second_key second_tree =
    two_key_object first_key first_tree second_key second_tree
pair_object true first_key first_tree second_key second_tree =
    two_key_object second_key second_tree first_key first_tree

abbrev pub timestamp_in_order : Form → (seconds increment : ℕ) → Data
timestamp_in_order form seconds increment =
    one_key_object (key_of Timestamp)
    (pair_object (is_mongodb form) (codes "i") (natural increment) (codes "t") (natural seconds))

abbrev pub regex_in_order : Form → (pattern options : List ℕ) → Data
regex_in_order form pattern options =
    one_key_object (key_of RegularExpression)
    (pair_object (is_mongodb form) (codes "options") (tree.string options) (codes "pattern") (tree.string pattern))

abbrev pub pointer_in_order : Form → (namespace id : List ℕ) → Data
pointer_in_order form namespace id =
    one_key_object (key_of DbPointer)
    (pair_object (is_mongodb form) (codes "$id") (oid_tree id) (codes "$ref") (tree.string namespace))

-- the scalar, in normal form, has this tree
abbrev pub WrittenScalarInOrder : Doubles → Form → Scalar → Data → Type 0
WrittenScalarInOrder doubles form (regex pattern regex_options) json_tree =
    json_tree ≡ regex_in_order form pattern regex_options
WrittenScalarInOrder doubles form (timestamp seconds increment) json_tree =
    json_tree ≡ timestamp_in_order form seconds increment
WrittenScalarInOrder doubles form (db_pointer namespace id) json_tree = json_tree ≡ pointer_in_order form namespace id
WrittenScalarInOrder doubles form scalar_value json_tree = WrittenScalarIn doubles form scalar_value json_tree

-- the same as a function of any scalar, for the proofs
abbrev pub writes_scalar_in_order : Doubles → Form → Scalar → Result Data WriteFault
writes_scalar_in_order doubles form (regex pattern regex_options) =
    Ok (regex_in_order form pattern (sorted_regex_options regex_options))
writes_scalar_in_order doubles form (timestamp seconds increment) = Ok (timestamp_in_order form seconds increment)
writes_scalar_in_order doubles form (db_pointer namespace id) = Ok (pointer_in_order form namespace id)
writes_scalar_in_order doubles form scalar_value = writes_scalar_in doubles form scalar_value
