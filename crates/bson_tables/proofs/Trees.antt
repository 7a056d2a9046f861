-- The tree of a value in each form, a row each (MongoDB Extended JSON v2). A row of any form is of both layouts.
use Rattle.std.proofs.Common.{◌≡◌, ℕ, ℤ, pos, negsuc, List, [], ◌∷◌, true, false, refl}
use Rattle.std.specs.Prelude.{codes}
use Rattle.serde_json.specs.Data.{Data, negative}
use Rattle.serde_json.specs.Data as tree
use Rattle.bson_scalar.specs.Scalar as kind
use Rattle.bson_scalar.specs.TreeParts.{one_key_object, two_key_object}
use Rattle.std.specs.Fmt.{signed_decimal}
use Rattle.hex.specs.Hex.{encode_lower}
use Rattle.bson_datetime.specs.DateTimeText.{rfc3339_millis_text, rfc3339_text}
use Rattle.bson_decimal.specs.DecimalText.{decimal128_text as decimal_text}
use Rattle.bson_types.specs.Base64.{padded_base64}
use Rattle.bson_types.specs.Regex.{sorted_regex_options}
use Rattle.bson_types.specs.declared.spec.BinarySubtype.TheVariants.{Generic}
use Rattle.bson_scalar.specs.Forms.{is_relaxed}
use Rattle.bson_scalar.specs.declared.form.Form.{Form}
use Rattle.bson_scalar.specs.declared.form.Form.TheVariants.{Canonical, MongoDbCanonical, MongoDbRelaxed, Relaxed}
use Rattle.bson_model.specs.Value as model
use Rattle.bson_model.specs.Normal.{normal_form}
use Rattle.bson_model.specs.Written.{Written}
use Rattle.bson_model.proofs.Offered.{canon_from}
use Rattle.bson_tables.proofs.Shapes.{whole, list_of_two}

null_tree : (f : Form) → Written f (normal_form (model.scalar kind.null)) tree.null
null_tree f = canon_from f (model.scalar kind.null) _ refl

boolean_tree : (f : Form) → Written f (normal_form (model.scalar (kind.boolean true))) (tree.boolean true)
boolean_tree f = canon_from f (model.scalar (kind.boolean true)) _ refl

string_tree : (f : Form) → Written f (normal_form (model.scalar (kind.text (codes "a")))) (tree.string (codes "a"))
string_tree f = canon_from f (model.scalar (kind.text (codes "a"))) _ refl

undefined_tree : (f : Form)
    → Written f (normal_form (model.scalar kind.undefined)) (one_key_object (codes "$undefined") (tree.boolean true))
undefined_tree f = canon_from f (model.scalar kind.undefined) _ refl

min_key_tree : (f : Form)
    → Written f (normal_form (model.scalar kind.min_key)) (one_key_object (codes "$minKey") (whole 1))
min_key_tree f = canon_from f (model.scalar kind.min_key) _ refl

max_key_tree : (f : Form)
    → Written f (normal_form (model.scalar kind.max_key)) (one_key_object (codes "$maxKey") (whole 1))
max_key_tree f = canon_from f (model.scalar kind.max_key) _ refl

int32_relaxed : (f : Form) → is_relaxed f ≡ true
    → Written f (normal_form (model.scalar (kind.int32 (pos 7)))) (whole 7)
int32_relaxed f is = canon_from f (model.scalar (kind.int32 (pos 7))) _ (rw is refl)

int64_relaxed : (f : Form) → is_relaxed f ≡ true
    → Written f (normal_form (model.scalar (kind.int64 (negsuc 6)))) (tree.number (negative (negsuc 6)))
int64_relaxed f is = canon_from f (model.scalar (kind.int64 (negsuc 6))) _ (rw is refl)

double_zero : (f : Form)
    → Written f (normal_form (model.scalar (kind.double 0)))
    (one_key_object (codes "$numberDouble") (tree.string (codes "0.0")))
double_zero f = canon_from f (model.scalar (kind.double 0)) _ refl

double_minus_zero : (f : Form)
    → Written f (normal_form (model.scalar (kind.double 0x8000000000000000)))
    (one_key_object (codes "$numberDouble") (tree.string (codes "-0.0")))
double_minus_zero f = canon_from f (model.scalar (kind.double 0x8000000000000000)) _ refl

double_infinity : (f : Form)
    → Written f (normal_form (model.scalar (kind.double 0x7FF0000000000000)))
    (one_key_object (codes "$numberDouble") (tree.string (codes "Infinity")))
double_infinity f = canon_from f (model.scalar (kind.double 0x7FF0000000000000)) _ refl

double_nan : (f : Form) → Written f (normal_form (model.scalar (kind.double 0x7FF8000000000001)))
    (one_key_object (codes "$numberDouble") (tree.string (codes "NaN")))
double_nan f = canon_from f (model.scalar (kind.double 0x7FF8000000000001)) _ refl

double_minus_nan : (f : Form)
    → Written f (normal_form (model.scalar (kind.double 0xFFF0000000000001)))
    (one_key_object (codes "$numberDouble") (tree.string (codes "-NaN")))
double_minus_nan f = canon_from f (model.scalar (kind.double 0xFFF0000000000001)) _ refl

symbol_tree : (f : Form)
    → Written f (normal_form (model.scalar (kind.symbol (codes "s"))))
    (one_key_object (codes "$symbol") (tree.string (codes "s")))
symbol_tree f = canon_from f (model.scalar (kind.symbol (codes "s"))) _ refl

code_tree : (f : Form) → Written f (normal_form (model.scalar (kind.code (codes "s"))))
    (one_key_object (codes "$code") (tree.string (codes "s")))
code_tree f = canon_from f (model.scalar (kind.code (codes "s"))) _ refl

timestamp_tree : (f : Form)
    → Written f (normal_form (model.scalar (kind.timestamp 1 2)))
    (one_key_object (codes "$timestamp") (two_key_object (codes "i") (whole 2) (codes "t") (whole 1)))
timestamp_tree f = canon_from f (model.scalar (kind.timestamp 1 2)) _ refl

code_scope_tree : (f : Form)
    → Written f (normal_form (model.code_scope (codes "s") model.no_pairs))
    (two_key_object (codes "$code") (tree.string (codes "s")) (codes "$scope") (tree.object tree.no_members))
code_scope_tree f = canon_from f (model.code_scope (codes "s") model.no_pairs) _ refl

document_tree : (f : Form)
    → Written f (normal_form
    (model.document (model.pair (codes "b") (model.scalar kind.null)
    (model.pair (codes "a") (model.scalar (kind.boolean true)) model.no_pairs))))
    (two_key_object (codes "a") (tree.boolean true) (codes "b") tree.null)
document_tree f = canon_from f
    (model.document (model.pair (codes "b") (model.scalar kind.null)
    (model.pair (codes "a") (model.scalar (kind.boolean true)) model.no_pairs))) _ refl

-- the keys ascend by their bytes, not by their lengths
bytes_of_keys_tree : (f : Form)
    → Written f (normal_form
    (model.document (model.pair (codes "b") (model.scalar kind.null)
    (model.pair (codes "aa") (model.scalar (kind.boolean true)) model.no_pairs))))
    (two_key_object (codes "aa") (tree.boolean true) (codes "b") tree.null)
bytes_of_keys_tree f = canon_from f
    (model.document (model.pair (codes "b") (model.scalar kind.null)
    (model.pair (codes "aa") (model.scalar (kind.boolean true)) model.no_pairs))) _ refl

array_tree : (f : Form) → Written f
    (normal_form (model.array
    (model.value (model.scalar kind.null) (model.value (model.scalar (kind.boolean true)) model.no_values))))
    (list_of_two tree.null (tree.boolean true))
array_tree f = canon_from f
    (model.array (model.value (model.scalar kind.null)
    (model.value (model.scalar (kind.boolean true)) model.no_values))) _ refl

-- the rows of texts that other standards say

int32_canonical : (f : Form) → is_relaxed f ≡ false → (z : ℤ)
    → Written f (normal_form (model.scalar (kind.int32 z)))
    (one_key_object (codes "$numberInt") (tree.string (signed_decimal z)))
int32_canonical f is z = canon_from f (model.scalar (kind.int32 z)) _ (rw is refl)

int64_canonical : (f : Form) → is_relaxed f ≡ false → (z : ℤ)
    → Written f (normal_form (model.scalar (kind.int64 z)))
    (one_key_object (codes "$numberLong") (tree.string (signed_decimal z)))
int64_canonical f is z = canon_from f (model.scalar (kind.int64 z)) _ (rw is refl)

oid_tree : (f : Form) (id : List ℕ)
    → Written f (normal_form (model.scalar (kind.object_id id)))
    (one_key_object (codes "$oid") (tree.string (encode_lower id)))
oid_tree f id = canon_from f (model.scalar (kind.object_id id)) _ refl

db_pointer_tree : (f : Form) (n id : List ℕ)
    → Written f (normal_form (model.scalar (kind.db_pointer n id)))
    (one_key_object (codes "$dbPointer")
    (two_key_object (codes "$id") (one_key_object (codes "$oid") (tree.string (encode_lower id))) (codes "$ref")
    (tree.string n)))
db_pointer_tree f n id = canon_from f (model.scalar (kind.db_pointer n id)) _ refl

regex_tree : (f : Form) (p o : List ℕ)
    → Written f (normal_form (model.scalar (kind.regex p o)))
    (one_key_object (codes "$regularExpression")
    (two_key_object (codes "options") (tree.string (sorted_regex_options o)) (codes "pattern") (tree.string p)))
regex_tree f p o = canon_from f (model.scalar (kind.regex p o)) _ refl

binary_tree : (f : Form) (bytes : List ℕ)
    → Written f (normal_form (model.scalar (kind.binary Generic bytes)))
    (one_key_object (codes "$binary")
    (two_key_object (codes "base64") (tree.string (padded_base64 bytes)) (codes "subType")
    (tree.string (encode_lower (0 ∷ [])))))
binary_tree f bytes = canon_from f (model.scalar (kind.binary Generic bytes)) _ refl

decimal_tree : (f : Form) (b : List ℕ)
    → Written f (normal_form (model.scalar (kind.decimal b)))
    (one_key_object (codes "$numberDecimal") (tree.string (decimal_text b)))
decimal_tree f b = canon_from f (model.scalar (kind.decimal b)) _ refl

-- dates, in the specified layout and in that of libbson and PyMongo: the number of their milliseconds, or a text

abbrev IsWrittenAs : Form → ℤ → Data → Type 0
IsWrittenAs f z t = Written f (normal_form (model.scalar (kind.date z))) (one_key_object (codes "$date") t)

abbrev millis_tree : ℤ → Data
millis_tree z = one_key_object (codes "$numberLong") (tree.string (signed_decimal z))

date_canonical : (z : ℤ) → IsWrittenAs Canonical z (millis_tree z) × IsWrittenAs MongoDbCanonical z (millis_tree z)
date_canonical z = (
  canon_from Canonical (model.scalar (kind.date z)) _ refl,
  canon_from MongoDbCanonical (model.scalar (kind.date z)) _ refl,
)

first_date_relaxed : IsWrittenAs Relaxed (pos 0) (tree.string (rfc3339_text (pos 0)))
    × IsWrittenAs MongoDbRelaxed (pos 0) (tree.string (rfc3339_millis_text (pos 0)))
first_date_relaxed = (
  canon_from Relaxed (model.scalar (kind.date (pos 0))) _ refl,
  canon_from MongoDbRelaxed (model.scalar (kind.date (pos 0))) _ refl,
)

last_date_relaxed : IsWrittenAs Relaxed (pos 253_402_300_799_999) (tree.string (rfc3339_text (pos 253_402_300_799_999)))
    × IsWrittenAs MongoDbRelaxed (pos 253_402_300_799_999)
    (tree.string (rfc3339_millis_text (pos 253_402_300_799_999)))
last_date_relaxed = (
  canon_from Relaxed (model.scalar (kind.date (pos 253_402_300_799_999))) _ refl,
  canon_from MongoDbRelaxed (model.scalar (kind.date (pos 253_402_300_799_999))) _ refl,
)

later_date_relaxed : IsWrittenAs Relaxed (pos 253_402_300_800_000) (millis_tree (pos 253_402_300_800_000))
    × IsWrittenAs MongoDbRelaxed (pos 253_402_300_800_000) (millis_tree (pos 253_402_300_800_000))
later_date_relaxed = (
  canon_from Relaxed (model.scalar (kind.date (pos 253_402_300_800_000))) _ refl,
  canon_from MongoDbRelaxed (model.scalar (kind.date (pos 253_402_300_800_000))) _ refl,
)

-- the last millisecond of the year 1969
earlier_date_relaxed : IsWrittenAs Relaxed (negsuc 0) (millis_tree (negsuc 0))
    × IsWrittenAs MongoDbRelaxed (negsuc 0) (millis_tree (negsuc 0))
earlier_date_relaxed = (
  canon_from Relaxed (model.scalar (kind.date (negsuc 0))) _ refl,
  canon_from MongoDbRelaxed (model.scalar (kind.date (negsuc 0))) _ refl,
)
