-- Where the first fault of a tree is, a row each: a bad id and a wrong shape, by the productions of `FaultAt`.
use Rattle.std.proofs.Common.{[], ◌∷◌, pos, refl}
use Rattle.std.specs.Prelude.{codes}
use Rattle.serde_json.specs.Data.{Data}
use Rattle.serde_json.specs.Data as tree
use Rattle.bson_scalar.specs.Faults.{wrong_shape, wrong_id}
use Rattle.bson_scalar.specs.Scalar as kind
use Rattle.bson_scalar.specs.TreeParts.{one_key_object, two_key_object}
use Rattle.bson_scalar.specs.declared.form.Doubles.TheVariants.{Special}
use Rattle.bson_model.specs.Value as model
use Rattle.bson_tree.specs.Place.{FaultAt, key, element, array, document, at_this_element, after_valid_element, at_key}
use Rattle.bson_tree.proofs.Offered.{lone_fault, not_code}
use Rattle.bson_tables.proofs.Shapes.{whole, list_of_two, row}

-- an object id of two letters, which are no hexadecimal digits
abbrev bad_id : Data
bad_id = one_key_object (codes "$oid") (tree.string (codes "zz"))

oid_short : FaultAt (wrong_id (codes "zz")) bad_id (key (codes "$oid") ∷ [])
oid_short = lone_fault Special _ _ _ refl refl

oid_number : FaultAt wrong_shape (one_key_object (codes "$oid") (whole 1)) (key (codes "$oid") ∷ [])
oid_number = lone_fault Special _ _ _ refl refl

pointer_id : FaultAt (wrong_id (codes "zz"))
    (one_key_object (codes "$dbPointer") (two_key_object (codes "$id") bad_id (codes "$ref") (tree.string (codes "a.b"))))
    (key (codes "$dbPointer") ∷ [])
pointer_id = lone_fault Special _ _ _ refl refl

pointer_shape : FaultAt wrong_shape
    (one_key_object (codes "$dbPointer") (two_key_object (codes "$id") bad_id (codes "$ref") (whole 1)))
    (key (codes "$dbPointer") ∷ [])
pointer_shape = lone_fault Special _ _ _ refl refl

-- the text of another wrapper is never a bad id
long_text : FaultAt wrong_shape (one_key_object (codes "$numberLong") (tree.string (codes "zz")))
    (key (codes "$numberLong") ∷ [])
unfolding Rattle.bson_scalar.specs.Reading.parsed_int
long_text = lone_fault Special _ _ _ refl refl

-- a wrapper's key after a member at fault: the object itself has the wrong shape
wrapper_after : FaultAt wrong_shape (two_key_object (codes "$a") bad_id (codes "$oid") (whole 1)) []
wrapper_after = not_code Special _ _ _ _ refl refl

-- with no wrapper's key in the object, the fault is that of the value
ordinary_key : FaultAt (wrong_id (codes "zz")) (two_key_object (codes "$a") bad_id (codes "b") (whole 1))
    (key (codes "$oid") ∷ key (codes "$a") ∷ [])
ordinary_key = document _ refl (at_key _ _ _ oid_short)

first_of_list : FaultAt (wrong_id (codes "zz")) (list_of_two bad_id (one_key_object (codes "$oid") (whole 1)))
    (key (codes "$oid") ∷ element 0 ∷ [])
first_of_list = array _ (at_this_element 0 _ _ oid_short)

second_of_list : FaultAt (wrong_id (codes "zz")) (list_of_two (whole 1) bad_id) (key (codes "$oid") ∷ element 1 ∷ [])
second_of_list =
    array _ (after_valid_element 0 _ _ _ (row (whole 1) (model.scalar (kind.int32 (pos 1))) refl) (at_this_element 1 _ _ oid_short))
