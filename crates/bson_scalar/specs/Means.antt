-- Which trees mean a value that holds no other, and which one (MongoDB Extended JSON v2): a production a line. In the
-- mode `Finite` there are two more.
-- An object has its keys in ascending order.
use Rattle.std.specs.Prelude.{◌≡◌, ◌⊎◌, ℕ, ℤ, pos, List, codes, Bool, true, Some, None, FitsSigned}
use Rattle.std.specs.Int.{w32, w64}
use Rattle.serde_json.specs.Data.{Data, Num}
use Rattle.serde_json.specs.Data as tree
use Rattle.serde_json.specs.Find.{as_i64}
-- what the texts in a tree mean, each in the words of its own standard
pub use Rattle.bson_types.specs.Base64.{IsBase64}
pub use Rattle.bson_types.specs.ObjectIds.{IsOidText}
pub use Rattle.bson_types.specs.Regex.{sorted_regex_options}
pub use Rattle.bson_types.specs.BinarySubtypes.{subtype_of}
pub use Rattle.bson_types.specs.Uuid.{IsHyphenatedText}
pub use Rattle.bson_types.specs.declared.spec.BinarySubtype.TheVariants.{Uuid}
pub use Rattle.bson_datetime.specs.Rfc3339Grammar.{DenotesDateTime}
pub use Rattle.bson_decimal.specs.DecimalStrings.{DenotesDecimal}
pub use Rattle.bson_scalar.specs.Binaries.{IsByteText}
use Rattle.bson_double.specs.FiniteDoubles.{parsed_finite_bits}
use Rattle.bson_scalar.specs.Doubles.{special_double_pattern, finite_number}
use Rattle.bson_scalar.specs.Ints.{IsIntText}
use Rattle.bson_scalar.specs.Scalar.{Scalar}
use Rattle.bson_scalar.specs.Scalar as kind
use Rattle.bson_scalar.specs.TreeParts.{one_key_object, two_key_object, i64_at, u32_at}
use Rattle.bson_scalar.specs.declared.form.Doubles.{Doubles}
use Rattle.bson_scalar.specs.declared.form.Doubles.TheVariants.{Special, Finite}

-- the tree means the scalar
pub data MeansScalar : Data → Scalar → Type 0 where
  null : MeansScalar tree.null kind.null
  boolean : (truth_value : Bool) → MeansScalar (tree.boolean truth_value) (kind.boolean truth_value)
  text : (text_bytes : List ℕ) → MeansScalar (tree.string text_bytes) (kind.text text_bytes)
  -- an integer, as the narrower kind that has it
  narrow_number : (json_number : Num) (integer_value : ℤ) → as_i64 json_number ≡ Some integer_value
      → FitsSigned w32 integer_value → MeansScalar (tree.number json_number) (kind.int32 integer_value)
  wide_number : (json_number : Num) (integer_value : ℤ) → as_i64 json_number ≡ Some integer_value
      → (FitsSigned w32 integer_value → ⊥)
      → MeansScalar (tree.number json_number) (kind.int64 integer_value)
  number_int : (text_bytes : List ℕ) (integer_value : ℤ) → IsIntText w32 text_bytes integer_value
      → MeansScalar (one_key_object (codes "$numberInt") (tree.string text_bytes)) (kind.int32 integer_value)
  number_long : (text_bytes : List ℕ) (integer_value : ℤ) → IsIntText w64 text_bytes integer_value
      → MeansScalar (one_key_object (codes "$numberLong") (tree.string text_bytes)) (kind.int64 integer_value)
  number_double : (text_bytes : List ℕ) (pattern : ℕ) → special_double_pattern text_bytes ≡ Some pattern
      → MeansScalar (one_key_object (codes "$numberDouble") (tree.string text_bytes)) (kind.double pattern)
  number_decimal : (text_bytes decimal_bytes : List ℕ) → DenotesDecimal text_bytes decimal_bytes
      → MeansScalar (one_key_object (codes "$numberDecimal") (tree.string text_bytes)) (kind.decimal decimal_bytes)
  symbol : (text_bytes : List ℕ)
      → MeansScalar (one_key_object (codes "$symbol") (tree.string text_bytes)) (kind.symbol text_bytes)
  code : (text_bytes : List ℕ)
      → MeansScalar (one_key_object (codes "$code") (tree.string text_bytes)) (kind.code text_bytes)
  code_without_scope : (text_bytes : List ℕ)
      → MeansScalar (two_key_object (codes "$code") (tree.string text_bytes) (codes "$scope") tree.null)
      (kind.code text_bytes)
  regular_expression : (pattern options : List ℕ)
      → MeansScalar
      (one_key_object (codes "$regularExpression")
      (two_key_object (codes "options") (tree.string options) (codes "pattern") (tree.string pattern)))
      (kind.regex pattern (sorted_regex_options options))
  oid : (text_bytes id : List ℕ) → IsOidText text_bytes id
      → MeansScalar (one_key_object (codes "$oid") (tree.string text_bytes)) (kind.object_id id)
  db_pointer : (namespace text_bytes id : List ℕ) → IsOidText text_bytes id
      → MeansScalar
      (one_key_object (codes "$dbPointer")
      (two_key_object (codes "$id") (one_key_object (codes "$oid") (tree.string text_bytes)) (codes "$ref")
      (tree.string namespace)))
      (kind.db_pointer namespace id)
  -- t is the time, i the increment
  timestamp : (increment_tree time_tree : Data) (increment time : ℕ) → u32_at increment_tree ≡ Some increment
      → u32_at time_tree ≡ Some time
      → MeansScalar
      (one_key_object (codes "$timestamp") (two_key_object (codes "i") increment_tree (codes "t") time_tree))
      (kind.timestamp time increment)
  date_of_millis : (text_bytes : List ℕ) (integer_value : ℤ) → IsIntText w64 text_bytes integer_value
      → MeansScalar (one_key_object (codes "$date") (one_key_object (codes "$numberLong") (tree.string text_bytes)))
      (kind.date integer_value)
  date_of_text : (text_bytes : List ℕ) (integer_value : ℤ) → DenotesDateTime text_bytes integer_value
      → MeansScalar (one_key_object (codes "$date") (tree.string text_bytes)) (kind.date integer_value)
  date_of_number : (json_number : Num) (integer_value : ℤ) → as_i64 json_number ≡ Some integer_value
      → MeansScalar (one_key_object (codes "$date") (tree.number json_number)) (kind.date integer_value)
  binary : (base64_text subtype_text bytes : List ℕ) (subtype_number : ℕ) → IsBase64 base64_text bytes
      → IsByteText subtype_text subtype_number
      → MeansScalar
      (one_key_object (codes "$binary")
      (two_key_object (codes "base64") (tree.string base64_text) (codes "subType") (tree.string subtype_text)))
      (kind.binary (subtype_of subtype_number) bytes)
  uuid : (text_bytes id : List ℕ) → IsHyphenatedText text_bytes id
      → MeansScalar (one_key_object (codes "$uuid") (tree.string text_bytes)) (kind.binary Uuid id)
  -- the number 1
  min_key : (content : Data) → i64_at content ≡ Some (pos 1)
      → MeansScalar (one_key_object (codes "$minKey") content) kind.min_key
  max_key : (content : Data) → i64_at content ≡ Some (pos 1)
      → MeansScalar (one_key_object (codes "$maxKey") content) kind.max_key
  undefined : MeansScalar (one_key_object (codes "$undefined") (tree.boolean true)) kind.undefined

-- the tree means the double that is nearest to a decimal number, and finite
pub data MeansFinite : Data → Scalar → Type 0 where
  nearest_to_text : (text_bytes : List ℕ) (pattern : ℕ) → parsed_finite_bits text_bytes ≡ Some pattern
      → MeansFinite (one_key_object (codes "$numberDouble") (tree.string text_bytes)) (kind.double pattern)
  -- a number that is no i64
  nearest_to_number : (json_number : Num) (pattern : ℕ) → as_i64 json_number ≡ None
      → finite_number json_number ≡ Some pattern
      → MeansFinite (tree.number json_number) (kind.double pattern)

abbrev pub MeansScalarIn : Doubles → Data → Scalar → Type 0
MeansScalarIn Special json_tree scalar_value = MeansScalar json_tree scalar_value
MeansScalarIn Finite json_tree scalar_value = MeansScalar json_tree scalar_value ⊎ MeansFinite json_tree scalar_value
