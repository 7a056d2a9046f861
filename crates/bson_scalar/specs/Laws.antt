-- The laws of scalars that the layer above builds on: each for all scalars, in each mode of `Doubles`.
use Rattle.std.specs.Prelude.{◌≡◌, ◌↔◌, ℕ, Ok, is_ok, is_some, true}
use Rattle.serde_json.specs.Data.{Data}
use Rattle.bson_scalar.specs.Doubles.{is_writable, double_text_in}
use Rattle.bson_scalar.specs.Means.{MeansScalarIn}
use Rattle.bson_scalar.specs.Normal.{normal_scalar, scalar_as_read_back, writable_scalar_in, ScalarInRange, IsReadScalarIn}
use Rattle.bson_scalar.specs.Reading.{scalar_read_in}
use Rattle.bson_scalar.specs.Scalar.{Scalar}
use Rattle.bson_scalar.specs.Written.{WrittenScalarIn, writes_scalar_in}
use Rattle.bson_scalar.specs.declared.form.Doubles.{Doubles}
use Rattle.bson_scalar.specs.declared.form.Doubles.TheVariants.{Special, Finite}
use Rattle.bson_scalar.specs.declared.form.Form.{Form}

-- a tree means exactly what is read
abbrev pub ReadingIsMeaningIn : Doubles → Type 0
ReadingIsMeaningIn doubles = (json_tree : Data) (scalar_value : Scalar)
    → (scalar_read_in doubles json_tree ≡ Ok scalar_value) ↔ MeansScalarIn doubles json_tree scalar_value

abbrev pub ReadingIsMeaning : Type 0
ReadingIsMeaning = ReadingIsMeaningIn Special

-- so it means one scalar at most
abbrev pub MeaningIsUniqueIn : Doubles → Type 0
MeaningIsUniqueIn doubles = (json_tree : Data) (scalar_value other_scalar : Scalar)
    → MeansScalarIn doubles json_tree scalar_value → MeansScalarIn doubles json_tree other_scalar
    → scalar_value ≡ other_scalar

abbrev pub MeaningIsUnique : Type 0
MeaningIsUnique = MeaningIsUniqueIn Special

-- what is read is writable, and in normal form, or a decimal's NaN
abbrev pub ReadIsNormalIn : Doubles → Type 0
ReadIsNormalIn doubles = (json_tree : Data) (scalar_value : Scalar) → MeansScalarIn doubles json_tree scalar_value
    → IsReadScalarIn doubles scalar_value

abbrev pub ReadIsNormal : Type 0
ReadIsNormal = ReadIsNormalIn Special

-- what is written is the grammar's tree of the normal form
abbrev pub WritingIsWrittenIn : Doubles → Type 0
WritingIsWrittenIn doubles = (form : Form) (scalar_value : Scalar) (json_tree : Data)
    → (writes_scalar_in doubles form scalar_value ≡ Ok json_tree)
    ↔ WrittenScalarIn doubles form (normal_scalar scalar_value) json_tree

abbrev pub WritingIsWritten : Type 0
WritingIsWritten = WritingIsWrittenIn Special

-- a scalar has a tree exactly if it is writable
abbrev pub WrittenIfWritableIn : Doubles → Type 0
WrittenIfWritableIn doubles = (form : Form) (scalar_value : Scalar)
    → is_ok (writes_scalar_in doubles form scalar_value) ≡ writable_scalar_in doubles scalar_value

abbrev pub WrittenIfWritable : Type 0
WrittenIfWritable = WrittenIfWritableIn Special

-- in the mode `Finite` each one is
abbrev pub AllWritable : Type 0
AllWritable = (scalar_value : Scalar) → ScalarInRange scalar_value → writable_scalar_in Finite scalar_value ≡ true

-- a pattern has a text exactly if it is a zero, an infinity or a NaN, or in the mode `Finite` finite
abbrev pub DoublesHaveTextsIn : Doubles → Type 0
DoublesHaveTextsIn doubles = (bit_pattern : ℕ)
    → is_some (double_text_in doubles bit_pattern) ≡ is_writable doubles bit_pattern

abbrev pub DoublesHaveTexts : Type 0
DoublesHaveTexts = DoublesHaveTextsIn Special

-- what is written means the normal form, narrowed in the relaxed form
abbrev pub ScalarsRoundTripIn : Doubles → Type 0
ScalarsRoundTripIn doubles = (form : Form) (scalar_value : Scalar) (json_tree : Data)
    → writes_scalar_in doubles form scalar_value ≡ Ok json_tree → ScalarInRange scalar_value
    → MeansScalarIn doubles json_tree (scalar_as_read_back form (normal_scalar scalar_value))

abbrev pub ScalarsRoundTrip : Type 0
ScalarsRoundTrip = ScalarsRoundTripIn Special

-- normal form and narrowing, done again, change nothing
abbrev pub NormalIsIdempotent : Type 0
NormalIsIdempotent = (scalar_value : Scalar) → normal_scalar (normal_scalar scalar_value) ≡ normal_scalar scalar_value

abbrev pub NarrowingIsIdempotent : Type 0
NarrowingIsIdempotent = (form : Form) (scalar_value : Scalar)
    → scalar_as_read_back form (scalar_as_read_back form scalar_value) ≡ scalar_as_read_back form scalar_value
