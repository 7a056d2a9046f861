-- Which tree means which value, a row each (MongoDB Extended JSON v2).
use Rattle.std.proofs.Common.{ℕ, ℤ, pos, negsuc, List, true, refl}
use Rattle.std.specs.Prelude.{codes}
use Rattle.serde_json.specs.Data.{Data, negative}
use Rattle.serde_json.specs.Data as tree
use Rattle.bson_scalar.specs.Scalar as kind
use Rattle.bson_scalar.specs.TreeParts.{one_key_object, two_key_object}
use Rattle.bson_scalar.specs.Means as means
use Rattle.bson_scalar.specs.Means.{IsBase64, IsOidText, sorted_regex_options, subtype_of, IsHyphenatedText, Uuid, DenotesDateTime}
use Rattle.bson_scalar.specs.Means.{DenotesDecimal}
use Rattle.bson_scalar.specs.Means.{IsByteText}
use Rattle.bson_model.specs.Means.{Means, scalar}
use Rattle.bson_model.specs.Value as model
use Rattle.bson_tables.proofs.Shapes.{whole, list_of_two, row}

null_row : Means tree.null (model.scalar kind.null)
null_row = row _ _ refl

boolean_row : Means (tree.boolean true) (model.scalar (kind.boolean true))
boolean_row = row _ _ refl

string_row : Means (tree.string (codes "a")) (model.scalar (kind.text (codes "a")))
string_row = row _ _ refl

int32_row : Means (whole 2147483647) (model.scalar (kind.int32 (pos 2147483647)))
int32_row = row _ _ refl

int64_row : Means (whole 2147483648) (model.scalar (kind.int64 (pos 2147483648)))
int64_row = row _ _ refl

least_int32_row : Means (tree.number (negative (negsuc 2147483647))) (model.scalar (kind.int32 (negsuc 2147483647)))
least_int32_row = row _ _ refl

below_int32_row : Means (tree.number (negative (negsuc 2147483648))) (model.scalar (kind.int64 (negsuc 2147483648)))
below_int32_row = row _ _ refl

number_int_row : Means (one_key_object (codes "$numberInt") (tree.string (codes "+007")))
    (model.scalar (kind.int32 (pos 7)))
unfolding Rattle.bson_scalar.specs.Reading.parsed_int
number_int_row = row _ _ refl

number_int_minus_row : Means (one_key_object (codes "$numberInt") (tree.string (codes "-1")))
    (model.scalar (kind.int32 (negsuc 0)))
unfolding Rattle.bson_scalar.specs.Reading.parsed_int
number_int_minus_row = row _ _ refl

number_long_row : Means (one_key_object (codes "$numberLong") (tree.string (codes "7")))
    (model.scalar (kind.int64 (pos 7)))
unfolding Rattle.bson_scalar.specs.Reading.parsed_int
number_long_row = row _ _ refl

abbrev MeansDouble : List ℕ → ℕ → Type 0
MeansDouble text bits =
    Means (one_key_object (codes "$numberDouble") (tree.string text)) (model.scalar (kind.double bits))

-- the doubles that are written as texts: zeros, infinities and NaNs, with their bits (IEEE 754, binary64)
double_rows : MeansDouble (codes "0.0") 0
    × MeansDouble (codes "-0.0") 0x8000000000000000
    × MeansDouble (codes "Infinity") 0x7FF0000000000000
    × MeansDouble (codes "-Infinity") 0xFFF0000000000000
    × MeansDouble (codes "NaN") 0x7FF8000000000000
    × MeansDouble (codes "-NaN") 0xFFF8000000000000
double_rows = (row _ _ refl, row _ _ refl, row _ _ refl, row _ _ refl, row _ _ refl, row _ _ refl)

symbol_row : Means (one_key_object (codes "$symbol") (tree.string (codes "s"))) (model.scalar (kind.symbol (codes "s")))
symbol_row = row _ _ refl

code_row : Means (one_key_object (codes "$code") (tree.string (codes "s"))) (model.scalar (kind.code (codes "s")))
code_row = row _ _ refl

code_null_scope_row : Means (two_key_object (codes "$code") (tree.string (codes "s")) (codes "$scope") tree.null)
    (model.scalar (kind.code (codes "s")))
code_null_scope_row = row _ _ refl

code_scope_row : Means
    (two_key_object (codes "$code") (tree.string (codes "s")) (codes "$scope") (one_key_object (codes "$oid") (whole 1)))
    (model.code_scope (codes "s") (model.pair (codes "$oid") (model.scalar (kind.int32 (pos 1))) model.no_pairs))
code_scope_row = row _ _ refl

timestamp_row : Means (one_key_object (codes "$timestamp") (two_key_object (codes "i") (whole 2) (codes "t") (whole 1)))
    (model.scalar (kind.timestamp 1 2))
timestamp_row = row _ _ refl

date_millis_row : Means (one_key_object (codes "$date") (one_key_object (codes "$numberLong") (tree.string (codes "5"))))
    (model.scalar (kind.date (pos 5)))
unfolding Rattle.bson_scalar.specs.Reading.parsed_int
date_millis_row = row _ _ refl

date_number_row : Means (one_key_object (codes "$date") (whole 5)) (model.scalar (kind.date (pos 5)))
date_number_row = row _ _ refl

min_key_row : Means (one_key_object (codes "$minKey") (whole 1)) (model.scalar kind.min_key)
min_key_row = row _ _ refl

max_key_row : Means (one_key_object (codes "$maxKey") (whole 1)) (model.scalar kind.max_key)
max_key_row = row _ _ refl

undefined_row : Means (one_key_object (codes "$undefined") (tree.boolean true)) (model.scalar kind.undefined)
undefined_row = row _ _ refl

array_row : Means (list_of_two (whole 1) tree.null)
    (model.array
    (model.value (model.scalar (kind.int32 (pos 1))) (model.value (model.scalar kind.null) model.no_values)))
array_row = row _ _ refl

document_row : Means (two_key_object (codes "a") (whole 1) (codes "b") tree.null)
    (model.document
    (model.pair (codes "a") (model.scalar (kind.int32 (pos 1)))
    (model.pair (codes "b") (model.scalar kind.null) model.no_pairs)))
document_row = row _ _ refl

ordinary_key_row : Means (one_key_object (codes "$scope") (whole 1))
    (model.document (model.pair (codes "$scope") (model.scalar (kind.int32 (pos 1))) model.no_pairs))
ordinary_key_row = row _ _ refl

-- the rows of texts whose meaning other standards say

regex_row : (p o : List ℕ)
    → Means (one_key_object (codes "$regularExpression")
    (two_key_object (codes "options") (tree.string o) (codes "pattern") (tree.string p)))
    (model.scalar (kind.regex p (sorted_regex_options o)))
regex_row p o = scalar _ _ (means.regular_expression p o)

oid_row : (s id : List ℕ) → IsOidText s id
    → Means (one_key_object (codes "$oid") (tree.string s)) (model.scalar (kind.object_id id))
oid_row s id is = scalar _ _ (means.oid s id is)

db_pointer_row : (n s id : List ℕ) → IsOidText s id
    → Means (one_key_object (codes "$dbPointer")
    (two_key_object (codes "$id") (one_key_object (codes "$oid") (tree.string s)) (codes "$ref") (tree.string n)))
    (model.scalar (kind.db_pointer n id))
db_pointer_row n s id is = scalar _ _ (means.db_pointer n s id is)

binary_row : (s k bytes : List ℕ) (n : ℕ) → IsBase64 s bytes → IsByteText k n
    → Means (one_key_object (codes "$binary")
    (two_key_object (codes "base64") (tree.string s) (codes "subType") (tree.string k)))
    (model.scalar (kind.binary (subtype_of n) bytes))
binary_row s k bytes n is byte = scalar _ _ (means.binary s k bytes n is byte)

uuid_row : (s id : List ℕ) → IsHyphenatedText s id
    → Means (one_key_object (codes "$uuid") (tree.string s)) (model.scalar (kind.binary Uuid id))
uuid_row s id is = scalar _ _ (means.uuid s id is)

date_text_row : (s : List ℕ) (z : ℤ) → DenotesDateTime s z
    → Means (one_key_object (codes "$date") (tree.string s)) (model.scalar (kind.date z))
date_text_row s z is = scalar _ _ (means.date_of_text s z is)

decimal_row : (s b : List ℕ) → DenotesDecimal s b
    → Means (one_key_object (codes "$numberDecimal") (tree.string s)) (model.scalar (kind.decimal b))
decimal_row s b is = scalar _ _ (means.number_decimal s b is)
