-- Why a tree means nothing, a row each: an object id's text where that alone is wrong, and the first fault of several.
use Rattle.std.proofs.Common.{◌≡◌, false, refl}
use Rattle.std.specs.Prelude.{codes}
use Rattle.serde_json.specs.Data.{Data, negative}
use Rattle.serde_json.specs.Data as tree
use Rattle.bson_decimal.specs.ParseSteps.{cut_to_34_digits, raise_to_min_exponent, zeros_to_add, exponent_value, written_exponent_plus_32768}
use Rattle.bson_decimal.specs.ParseSteps.{scaled_exponent, coefficient, coefficient_and_exponent, finite}
use Rattle.bson_scalar.specs.Reading.{decimal_pattern}
use Rattle.bson_scalar.specs.TreeParts.{one_key_object, two_key_object}
use Rattle.bson_scalar.specs.Faults.{wrong_shape, wrong_id}
use Rattle.bson_model.specs.Fault.{fault_of, MeansNothing}
use Rattle.bson_tables.proofs.Shapes.{whole, list_of_two, none}

double_finite : MeansNothing (one_key_object (codes "$numberDouble") (tree.string (codes "1.5")))
    × (fault_of (one_key_object (codes "$numberDouble") (tree.string (codes "1.5"))) ≡ wrong_shape)
double_finite = (none _ wrong_shape refl, refl)

double_zero_text : MeansNothing (one_key_object (codes "$numberDouble") (tree.string (codes "0")))
    × (fault_of (one_key_object (codes "$numberDouble") (tree.string (codes "0"))) ≡ wrong_shape)
double_zero_text = (none _ wrong_shape refl, refl)

int_too_large : MeansNothing (one_key_object (codes "$numberInt") (tree.string (codes "2147483648")))
    × (fault_of (one_key_object (codes "$numberInt") (tree.string (codes "2147483648"))) ≡ wrong_shape)
unfolding Rattle.bson_scalar.specs.Reading.parsed_int
int_too_large = (none _ wrong_shape refl, refl)

int_too_small : MeansNothing (one_key_object (codes "$numberInt") (tree.string (codes "-2147483649")))
    × (fault_of (one_key_object (codes "$numberInt") (tree.string (codes "-2147483649"))) ≡ wrong_shape)
unfolding Rattle.bson_scalar.specs.Reading.parsed_int
int_too_small = (none _ wrong_shape refl, refl)

int_space : MeansNothing (one_key_object (codes "$numberInt") (tree.string (codes "7 ")))
    × (fault_of (one_key_object (codes "$numberInt") (tree.string (codes "7 "))) ≡ wrong_shape)
unfolding Rattle.bson_scalar.specs.Reading.parsed_int
int_space = (none _ wrong_shape refl, refl)

decimal_too_large : MeansNothing (one_key_object (codes "$numberDecimal") (tree.string (codes "1E+6145")))
    × (fault_of (one_key_object (codes "$numberDecimal") (tree.string (codes "1E+6145"))) ≡ wrong_shape)
unfolding decimal_pattern cut_to_34_digits raise_to_min_exponent zeros_to_add exponent_value written_exponent_plus_32768 scaled_exponent coefficient
    coefficient_and_exponent finite
decimal_too_large = (none _ wrong_shape refl, refl)

decimal_too_small : MeansNothing (one_key_object (codes "$numberDecimal") (tree.string (codes "1E-6177")))
    × (fault_of (one_key_object (codes "$numberDecimal") (tree.string (codes "1E-6177"))) ≡ wrong_shape)
unfolding decimal_pattern cut_to_34_digits raise_to_min_exponent zeros_to_add exponent_value written_exponent_plus_32768 scaled_exponent coefficient
    coefficient_and_exponent finite
decimal_too_small = (none _ wrong_shape refl, refl)

oid_short : MeansNothing (one_key_object (codes "$oid") (tree.string (codes "zz")))
    × (fault_of (one_key_object (codes "$oid") (tree.string (codes "zz"))) ≡ (wrong_id (codes "zz")))
oid_short = (none _ (wrong_id (codes "zz")) refl, refl)

oid_number : MeansNothing (one_key_object (codes "$oid") (whole 1))
    × (fault_of (one_key_object (codes "$oid") (whole 1)) ≡ wrong_shape)
oid_number = (none _ wrong_shape refl, refl)

pointer_id : MeansNothing
    (one_key_object (codes "$dbPointer")
    (two_key_object (codes "$id") (one_key_object (codes "$oid") (tree.string (codes "zz"))) (codes "$ref")
    (tree.string (codes "a.b"))))
    × (fault_of (one_key_object (codes "$dbPointer")
    (two_key_object (codes "$id") (one_key_object (codes "$oid") (tree.string (codes "zz"))) (codes "$ref")
    (tree.string (codes "a.b")))) ≡ (wrong_id (codes "zz")))
pointer_id = (none _ (wrong_id (codes "zz")) refl, refl)

pointer_shape : MeansNothing
    (one_key_object (codes "$dbPointer")
    (two_key_object (codes "$id") (one_key_object (codes "$oid") (tree.string (codes "zz"))) (codes "$ref") (whole 1)))
    × (fault_of (one_key_object (codes "$dbPointer")
    (two_key_object (codes "$id") (one_key_object (codes "$oid") (tree.string (codes "zz"))) (codes "$ref") (whole 1)))
    ≡ wrong_shape)
pointer_shape = (none _ wrong_shape refl, refl)

min_key_two : MeansNothing (one_key_object (codes "$minKey") (whole 2))
    × (fault_of (one_key_object (codes "$minKey") (whole 2)) ≡ wrong_shape)
min_key_two = (none _ wrong_shape refl, refl)

undefined_false : MeansNothing (one_key_object (codes "$undefined") (tree.boolean false))
    × (fault_of (one_key_object (codes "$undefined") (tree.boolean false)) ≡ wrong_shape)
undefined_false = (none _ wrong_shape refl, refl)

timestamp_large : MeansNothing
    (one_key_object (codes "$timestamp") (two_key_object (codes "i") (whole 4294967296) (codes "t") (whole 1)))
    × (fault_of (one_key_object (codes "$timestamp")
    (two_key_object (codes "i") (whole 4294967296) (codes "t") (whole 1))) ≡ wrong_shape)
timestamp_large = (none _ wrong_shape refl, refl)

wrapper_beside : MeansNothing (two_key_object (codes "$oid") (tree.string (codes "zz")) (codes "a") (whole 1))
    × (fault_of (two_key_object (codes "$oid") (tree.string (codes "zz")) (codes "a") (whole 1)) ≡ wrong_shape)
wrapper_beside = (none _ wrong_shape refl, refl)

scope_list : MeansNothing (two_key_object (codes "$code") (tree.string (codes "s")) (codes "$scope") (whole 1))
    × (fault_of (two_key_object (codes "$code") (tree.string (codes "s")) (codes "$scope") (whole 1)) ≡ wrong_shape)
scope_list = (none _ wrong_shape refl, refl)

first_of_list : MeansNothing
    (list_of_two (one_key_object (codes "$oid") (tree.string (codes "zz"))) (one_key_object (codes "$minKey") (whole 2)))
    × (fault_of (list_of_two (one_key_object (codes "$oid") (tree.string (codes "zz")))
    (one_key_object (codes "$minKey") (whole 2))) ≡ (wrong_id (codes "zz")))
first_of_list = (none _ (wrong_id (codes "zz")) refl, refl)

first_of_list_other : MeansNothing
    (list_of_two (one_key_object (codes "$minKey") (whole 2)) (one_key_object (codes "$oid") (tree.string (codes "zz"))))
    × (fault_of (list_of_two (one_key_object (codes "$minKey") (whole 2))
    (one_key_object (codes "$oid") (tree.string (codes "zz")))) ≡ wrong_shape)
first_of_list_other = (none _ wrong_shape refl, refl)

least_key : MeansNothing
    (two_key_object (codes "a") (one_key_object (codes "$oid") (tree.string (codes "zz"))) (codes "b")
    (one_key_object (codes "$oid") (tree.string (codes "yy"))))
    × (fault_of (two_key_object (codes "a") (one_key_object (codes "$oid") (tree.string (codes "zz"))) (codes "b")
    (one_key_object (codes "$oid") (tree.string (codes "yy")))) ≡ (wrong_id (codes "zz")))
least_key = (none _ (wrong_id (codes "zz")) refl, refl)

least_key_good : MeansNothing
    (two_key_object (codes "a") (whole 1) (codes "b") (one_key_object (codes "$oid") (tree.string (codes "yy"))))
    × (fault_of (two_key_object (codes "a") (whole 1) (codes "b")
    (one_key_object (codes "$oid") (tree.string (codes "yy")))) ≡ (wrong_id (codes "yy")))
least_key_good = (none _ (wrong_id (codes "yy")) refl, refl)
