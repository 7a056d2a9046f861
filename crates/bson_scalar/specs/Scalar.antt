-- A value that holds no other (BSON 1.1). A text is its bytes, a double its 64 bits as a number, a decimal and an
-- object id the list of their bytes, a date its milliseconds since 1970-01-01T00:00:00Z.
use Rattle.std.specs.Prelude.{ℕ, ℤ, List, Bool}
use Rattle.bson_types.specs.declared.spec.BinarySubtype.{BinarySubtype}

pub data Scalar : Type 0 where
  null : Scalar
  undefined : Scalar
  min_key : Scalar
  max_key : Scalar
  boolean : (truth_value : Bool) → Scalar
  double : (bit_pattern : ℕ) → Scalar
  int32 : (integer : ℤ) → Scalar
  int64 : (integer : ℤ) → Scalar
  text : (bytes : List ℕ) → Scalar
  symbol : (bytes : List ℕ) → Scalar
  code : (bytes : List ℕ) → Scalar
  regex : (pattern options : List ℕ) → Scalar
  timestamp : (seconds increment : ℕ) → Scalar
  binary : (subtype : BinarySubtype) (bytes : List ℕ) → Scalar
  object_id : (bytes : List ℕ) → Scalar
  date : (milliseconds : ℤ) → Scalar
  decimal : (bytes : List ℕ) → Scalar
  db_pointer : (namespace id : List ℕ) → Scalar
