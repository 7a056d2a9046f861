-- The tree of a scalar needs as much room in either order of the keys of its wrapper.
use Rattle.std.proofs.Common.{◌≡◌, ◌∙◌, ℕ, List, Bool, true, false, Ok, refl, ap, arith}
use Rattle.std.specs.Prelude.{codes}
use Rattle.serde_json.specs.Data.{Data}
use Rattle.serde_json.specs.Data as tree
use Rattle.bson_types.specs.Regex.{sorted_regex_options}
use Rattle.bson_scalar.specs.Forms.{is_mongodb}
use Rattle.bson_scalar.specs.Ids.{oid_tree, pointer_tree}
use Rattle.bson_scalar.specs.OrderedScalars.{pair_object, writes_scalar_in_order}
use Rattle.bson_scalar.specs.Regexes.{regex_tree}
use Rattle.bson_scalar.specs.Scalar.{Scalar, db_pointer, regex, timestamp}
use Rattle.bson_scalar.specs.Table.{key_of}
use Rattle.bson_scalar.specs.Timestamps.{timestamp_tree}
use Rattle.bson_scalar.specs.TreeParts.{natural, one_key_object}
use Rattle.bson_scalar.specs.Written.{writes_scalar_in}
use Rattle.bson_scalar.specs.declared.form.Doubles.{Doubles}
use Rattle.bson_scalar.specs.declared.form.Form.{Form}
use Rattle.bson_scalar.specs.declared.wrapper.Wrapper.TheVariants.{DbPointer, RegularExpression, Timestamp}
use Rattle.bson.specs.OutputCapacity.{tree_capacity, written_tree_capacity}

regex_room : (b : Bool) (p o : List ℕ) → tree_capacity (regex_tree p o) ≡ tree_capacity (one_key_object (key_of RegularExpression)
    (pair_object b (codes "options") (tree.string o) (codes "pattern") (tree.string p)))
regex_room true p o = omega arith
regex_room false p o = refl

timestamp_room : (b : Bool) (s i : ℕ) → tree_capacity (timestamp_tree s i) ≡ tree_capacity (one_key_object (key_of Timestamp)
    (pair_object b (codes "i") (natural i) (codes "t") (natural s)))
timestamp_room true s i = omega arith
timestamp_room false s i = refl

pointer_room : (b : Bool) (s id : List ℕ) → tree_capacity (pointer_tree s id) ≡ tree_capacity (one_key_object (key_of DbPointer)
    (pair_object b (codes "$id") (oid_tree id) (codes "$ref") (tree.string s)))
pointer_room true s id = omega arith
pointer_room false s id = refl

pub scalar_room_is : (D : Doubles) (f : Form) (x : Scalar) (t : Data) → writes_scalar_in_order D f x ≡ Ok t
    → written_tree_capacity (writes_scalar_in D f x) ≡ tree_capacity t
scalar_room_is D f (regex p o) t h = regex_room (is_mongodb f) p (sorted_regex_options o) ∙ ap written_tree_capacity h
scalar_room_is D f (timestamp s i) t h = timestamp_room (is_mongodb f) s i ∙ ap written_tree_capacity h
scalar_room_is D f (db_pointer s id) t h = pointer_room (is_mongodb f) s id ∙ ap written_tree_capacity h
scalar_room_is D f x t h = ap written_tree_capacity h
