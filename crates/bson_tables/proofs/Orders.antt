-- The order of keys, a row each: what a text means in its own order, and what a value is written as in its own. A row
-- that names no mode of doubles is of both, and one that names no form is of each.
use Rattle.std.proofs.Common.{◌≡◌, ℕ, negsuc, List, true, false, Some, Err, refl}
use Rattle.std.specs.Prelude.{codes}
use Rattle.std.specs.Float.{fin}
use Rattle.json.specs.Json as json
use Rattle.serde_json.specs.Data.{Data, float, Members, no_members, member, no_items, item}
use Rattle.serde_json.specs.Data as tree
use Rattle.serde_json.specs.Written.{compact_text}
use Rattle.bson_types.specs.Regex.{sorted_regex_options}
use Rattle.bson_types.specs.ObjectIds.{encode_lower}
use Rattle.bson_scalar.specs.Faults.{wrong_shape}
use Rattle.bson_scalar.specs.Forms.{is_mongodb}
use Rattle.bson_scalar.specs.Doubles.{double_tree}
use Rattle.bson_scalar.specs.Scalar.{null, boolean, db_pointer, double, text, code, timestamp, regex}
use Rattle.bson_scalar.specs.TreeParts.{one_key_object, two_key_object}
use Rattle.bson_scalar.specs.Written as scalar_tree
use Rattle.bson_scalar.specs.declared.form.Doubles.{Doubles}
use Rattle.bson_scalar.specs.declared.form.Doubles.TheVariants.{Special, Finite}
use Rattle.bson_scalar.specs.TreeText.{tree_text}
use Rattle.bson_scalar.specs.declared.form.Form.{Form}
use Rattle.bson_scalar.specs.declared.form.Form.TheVariants.{Canonical, Relaxed}
use Rattle.bson_model.specs.Normal.{normal_form}
use Rattle.bson_model.specs.Value.{Value, scalar, code_scope, array, document, no_values, value, no_pairs, pair}
use Rattle.bson_model.specs.OrderedTrees.{tree_of_json, read_in_order}
use Rattle.bson_model.specs.OrderedMeans.{MeansInOrder}
use Rattle.bson_model.specs.OrderedReading.{reads_tree_in_order}
use Rattle.bson_model.specs.OrderedTexts.{HasMeaningInOrder}
use Rattle.bson_model.specs.OrderedWriting.{writes_value_in_order}
use Rattle.bson_model.specs.OrderedWritten.{WrittenInOrder}
use Rattle.bson_model.proofs.OfferedInOrder.{means_from, text_means, written_from}
use Rattle.bson_tables.proofs.Decimals.{one_and_a_half}
use Rattle.bson_tables.proofs.Shapes.{whole}

-- ---- a duplicate key: the last value at the first position (`IndexMap::insert`; Python's `dict`; `JSON.parse`)

abbrev b_then_a : Data → Data → Data
b_then_a d e = two_key_object (codes "b") d (codes "a") e

double_key : tree_of_json (json.object
    (json.member (codes "b") json.null
    (json.member (codes "a") (json.boolean true)
    (json.member (codes "b") (json.boolean false) json.no_members))))
    ≡ Some (b_then_a (tree.boolean false) (tree.boolean true))
double_key = refl

double_key_of_text : read_in_order (codes "{\"b\":null,\"a\":true,\"b\":false}")
    ≡ Some (b_then_a (tree.boolean false) (tree.boolean true))
unfolding json.value Rattle.json.specs.Lex.punctuate Rattle.json.specs.Lex.lex Rattle.json.specs.Text.content
    Rattle.json.specs.Word.word
double_key_of_text = refl

-- at each depth
double_key_within : read_in_order (codes "{\"z\":[{\"b\":null,\"a\":true,\"b\":{\"y\":true,\"x\":null}}]}")
    ≡ Some (one_key_object (codes "z") (tree.array (item (b_then_a
    (two_key_object (codes "y") (tree.boolean true) (codes "x") tree.null) (tree.boolean true)) no_items)))
unfolding json.value Rattle.json.specs.Lex.punctuate Rattle.json.specs.Lex.lex Rattle.json.specs.Text.content
    Rattle.json.specs.Word.word
double_key_within = refl

-- a wrapper's key twice is that wrapper, of its last value
double_wrapper : read_in_order (codes "{\"$symbol\":\"a\",\"$symbol\":\"b\"}")
    ≡ Some (one_key_object (codes "$symbol") (tree.string (codes "b")))
unfolding json.value Rattle.json.specs.Lex.punctuate Rattle.json.specs.Lex.lex Rattle.json.specs.Text.content
    Rattle.json.specs.Word.word
double_wrapper = refl

-- ---- documents

-- the parts of a reference to another document (DBRef), whose order counts
abbrev reference : Value
reference = document
    (pair (codes "$ref") (scalar (text (codes "c"))) (pair (codes "$id") (scalar null)
    (pair (codes "$db") (scalar (text (codes "d"))) no_pairs)))

abbrev reference_tree : Data
reference_tree = tree.object
    (member (codes "$ref") (tree.string (codes "c")) (member (codes "$id") tree.null
    (member (codes "$db") (tree.string (codes "d")) no_members)))

reference_read : (D : Doubles) → MeansInOrder D reference_tree reference
reference_read D = means_from D reference_tree reference refl

reference_written : (D : Doubles) (f : Form) → WrittenInOrder D f (normal_form reference) reference_tree
reference_written D f = written_from D f reference reference_tree refl

reference_text : compact_text reference_tree ≡ codes "{\"$ref\":\"c\",\"$id\":null,\"$db\":\"d\"}"
unfolding Rattle.json.specs.Print.escape_byte
reference_text = refl

-- the order at each depth, and that of an array's elements
abbrev nested : Value
nested = document
    (pair (codes "z") (array (value (document
    (pair (codes "b") (scalar null) (pair (codes "a") (scalar (boolean true)) no_pairs))) no_values))
    (pair (codes "y") (scalar null) no_pairs))

abbrev nested_tree : Data
nested_tree = two_key_object (codes "z")
    (tree.array (item (b_then_a tree.null (tree.boolean true)) no_items)) (codes "y") tree.null

nested_read : (D : Doubles) → MeansInOrder D nested_tree nested
nested_read D = means_from D nested_tree nested refl

nested_written : (D : Doubles) (f : Form) → WrittenInOrder D f (normal_form nested) nested_tree
nested_written D f = written_from D f nested nested_tree refl

nested_text : compact_text nested_tree ≡ codes "{\"z\":[{\"b\":null,\"a\":true}],\"y\":null}"
unfolding Rattle.json.specs.Print.escape_byte
nested_text = refl

-- ---- code with its scope: either order means it, it is written code first, and the scope keeps its own order

abbrev scoped : Value
scoped = code_scope (codes "x")
    (pair (codes "z") (scalar null) (pair (codes "a") (scalar (boolean true)) no_pairs))

abbrev scope_tree : Data
scope_tree = two_key_object (codes "z") tree.null (codes "a") (tree.boolean true)

code_first : (D : Doubles)
    → MeansInOrder D (two_key_object (codes "$code") (tree.string (codes "x")) (codes "$scope") scope_tree) scoped
code_first D = means_from D _ _ refl

scope_first : (D : Doubles)
    → MeansInOrder D (two_key_object (codes "$scope") scope_tree (codes "$code") (tree.string (codes "x"))) scoped
scope_first D = means_from D _ _ refl

scoped_written : (D : Doubles) (f : Form)
    → WrittenInOrder D f (normal_form scoped)
    (two_key_object (codes "$code") (tree.string (codes "x")) (codes "$scope") scope_tree)
scoped_written D f = written_from D f scoped _ refl

-- the keys of a scope are not tested
keys_of_a_scope : (D : Doubles)
    → MeansInOrder D
    (two_key_object (codes "$scope") (two_key_object (codes "$oid") tree.null (codes "$date") (tree.boolean true))
    (codes "$code") (tree.string (codes "x")))
    (code_scope (codes "x")
    (pair (codes "$oid") (scalar null) (pair (codes "$date") (scalar (boolean true)) no_pairs)))
keys_of_a_scope D = means_from D _ _ refl

scope_that_is_null : (D : Doubles)
    → MeansInOrder D
    (two_key_object (codes "$scope") tree.null (codes "$code") (tree.string (codes "x"))) (scalar (code (codes "x")))
scope_that_is_null D = means_from D _ _ refl

-- ---- inside any other wrapper the order says nothing. The keys are written in ascending order, or as libbson and
-- PyMongo write them

abbrev i_then_t : Data
i_then_t = one_key_object (codes "$timestamp") (two_key_object (codes "i") (whole 2) (codes "t") (whole 1))

abbrev t_then_i : Data
t_then_i = one_key_object (codes "$timestamp") (two_key_object (codes "t") (whole 1) (codes "i") (whole 2))

timestamp_read : (D : Doubles)
    → MeansInOrder D i_then_t (scalar (timestamp 1 2)) × MeansInOrder D t_then_i (scalar (timestamp 1 2))
timestamp_read D = (means_from D _ _ refl, means_from D _ _ refl)

timestamp_written : (D : Doubles) (f : Form) → is_mongodb f ≡ false
    → WrittenInOrder D f (normal_form (scalar (timestamp 1 2))) i_then_t
timestamp_written D f is = written_from D f (scalar (timestamp 1 2)) _ (rw is refl)

timestamp_written_for_mongodb : (D : Doubles) (f : Form) → is_mongodb f ≡ true
    → WrittenInOrder D f (normal_form (scalar (timestamp 1 2))) t_then_i
timestamp_written_for_mongodb D f is = written_from D f (scalar (timestamp 1 2)) _ (rw is refl)

abbrev options_then_pattern : (p o : List ℕ) → Data
options_then_pattern p o = one_key_object (codes "$regularExpression")
    (two_key_object (codes "options") (tree.string o) (codes "pattern") (tree.string p))

abbrev pattern_then_options : (p o : List ℕ) → Data
pattern_then_options p o = one_key_object (codes "$regularExpression")
    (two_key_object (codes "pattern") (tree.string p) (codes "options") (tree.string o))

regex_read : (D : Doubles) (p o : List ℕ)
    → MeansInOrder D (options_then_pattern p o) (scalar (regex p (sorted_regex_options o)))
    × MeansInOrder D (pattern_then_options p o) (scalar (regex p (sorted_regex_options o)))
regex_read D p o = (means_from D _ _ refl, means_from D _ _ refl)

regex_written : (D : Doubles) (f : Form) (p o : List ℕ) → is_mongodb f ≡ false
    → WrittenInOrder D f (normal_form (scalar (regex p o))) (options_then_pattern p (sorted_regex_options o))
regex_written D f p o is = written_from D f (scalar (regex p o)) _ (rw is refl)

regex_written_for_mongodb : (D : Doubles) (f : Form) (p o : List ℕ) → is_mongodb f ≡ true
    → WrittenInOrder D f (normal_form (scalar (regex p o))) (pattern_then_options p (sorted_regex_options o))
regex_written_for_mongodb D f p o is = written_from D f (scalar (regex p o)) _ (rw is refl)

-- a pointer: the namespace and the id of another document
abbrev id_then_ref : (namespace id : List ℕ) → Data
id_then_ref namespace id = one_key_object (codes "$dbPointer")
    (two_key_object (codes "$id") (one_key_object (codes "$oid") (tree.string (encode_lower id))) (codes "$ref")
    (tree.string namespace))

abbrev ref_then_id : (namespace id : List ℕ) → Data
ref_then_id namespace id = one_key_object (codes "$dbPointer")
    (two_key_object (codes "$ref") (tree.string namespace) (codes "$id")
    (one_key_object (codes "$oid") (tree.string (encode_lower id))))

pointer_written : (D : Doubles) (f : Form) (namespace id : List ℕ) → is_mongodb f ≡ false
    → WrittenInOrder D f (normal_form (scalar (db_pointer namespace id))) (id_then_ref namespace id)
pointer_written D f namespace id is = written_from D f (scalar (db_pointer namespace id)) _ (rw is refl)

pointer_written_for_mongodb : (D : Doubles) (f : Form) (namespace id : List ℕ) → is_mongodb f ≡ true
    → WrittenInOrder D f (normal_form (scalar (db_pointer namespace id))) (ref_then_id namespace id)
pointer_written_for_mongodb D f namespace id is = written_from D f (scalar (db_pointer namespace id)) _ (rw is refl)

-- the text of a timestamp and of a regular expression, byte for byte
timestamp_text : compact_text t_then_i ≡ codes "{\"$timestamp\":{\"t\":1,\"i\":2}}"
unfolding Rattle.json.specs.Print.escape_byte Rattle.std.specs.Fmt.digits
timestamp_text = refl

regex_text : compact_text (pattern_then_options (codes "^a") (codes "im"))
    ≡ codes "{\"$regularExpression\":{\"pattern\":\"^a\",\"options\":\"im\"}}"
unfolding Rattle.json.specs.Print.escape_byte
regex_text = refl

-- ---- a wrapper's key next to others means nothing, in any position

wrapper_key_later : (D : Doubles)
    → reads_tree_in_order D (two_key_object (codes "a") tree.null (codes "$symbol") (tree.string (codes "s")))
    ≡ Err wrong_shape
wrapper_key_later D = refl

-- ---- a finite double where the mode has them, in a document in order

abbrev finite : Value
finite = document
    (pair (codes "z") (scalar (double 0x3FF8000000000000)) (pair (codes "a") (scalar null) no_pairs))

abbrev finite_tree : Data
finite_tree = two_key_object (codes "z") (double_tree (codes "1.5")) (codes "a") tree.null

finite_read : MeansInOrder Finite finite_tree finite
unfolding Rattle.std.specs.Float.Parse.read_float Rattle.std.specs.Float.Numeral.scan_numeral
    Rattle.std.specs.Float.float_is_finite lib.Ieee.round lib.Ieee.to_bits
finite_read = means_from Finite finite_tree finite refl

finite_written : WrittenInOrder Finite Canonical (normal_form finite) finite_tree
finite_written = written_from Finite Canonical finite finite_tree (rw one_and_a_half refl)

finite_text : compact_text finite_tree ≡ codes "{\"z\":{\"$numberDouble\":\"1.5\"},\"a\":null}"
unfolding Rattle.json.specs.Print.escape_byte
finite_text = refl

finite_text_read : HasMeaningInOrder Finite (codes "{\"z\":{\"$numberDouble\":\"1.5\"},\"a\":null}") finite
unfolding json.value Rattle.json.specs.Lex.punctuate Rattle.json.specs.Lex.lex Rattle.json.specs.Text.content
    Rattle.json.specs.Word.word
finite_text_read = text_means Finite _ finite_tree finite refl finite_read

-- a JSON number that is no i64
abbrev number_tree : Data
number_tree = two_key_object (codes "z") (tree.number (float (fin false 3 (negsuc 0)))) (codes "a") tree.null

finite_number_read : MeansInOrder Finite number_tree finite
unfolding Rattle.std.specs.Float.float_is_finite lib.Ieee.fits lib.Ieee.to_bits
finite_number_read = means_from Finite number_tree finite refl

-- which is what the relaxed form has
finite_number_written : WrittenInOrder Finite Relaxed (normal_form finite) number_tree
unfolding lib.Ieee.of_bits
finite_number_written = written_from Finite Relaxed finite number_tree refl

finite_number_text : tree_text Finite Relaxed number_tree ≡ codes "{\"z\":1.5,\"a\":null}"
unfolding Rattle.json.specs.Print.escape_byte Rattle.json.specs.Print.print_from lib.Ieee.to_bits
finite_number_text = rw one_and_a_half refl

-- without finite doubles
finite_means_nothing : reads_tree_in_order Special finite_tree ≡ Err wrong_shape
finite_means_nothing = refl

finite_unwritten : (f : Form) → writes_value_in_order Special f finite ≡ Err scalar_tree.finite
finite_unwritten f = refl
