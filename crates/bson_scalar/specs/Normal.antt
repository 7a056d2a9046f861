-- Normal and narrowed forms, and what a scalar may be.
use Rattle.std.specs.Prelude.{◌≡◌, ◌⊎◌, ◌<◌, ◌^◌, ℤ, length, Bool, true, if◌then◌else◌, FitsSigned}
use Rattle.std.specs.Int.{w32, w64}
use Rattle.bson_types.specs.BinarySubtypes.{subtype_byte, subtype_of}
use Rattle.bson_decimal.specs.DecimalBits.{canonical_decimal, decoded_decimal, is_decimal_nan}
use Rattle.hex.specs.Hex.{IsBytes}
use Rattle.bson_scalar.specs.Doubles.{normal_double, is_writable}
use Rattle.bson_scalar.specs.Ints.{narrowest_int}
use Rattle.bson_types.specs.Regex.{sorted_regex_options}
use Rattle.bson_scalar.specs.declared.form.Doubles.{Doubles}
use Rattle.bson_scalar.specs.declared.form.Doubles.TheVariants.{Special}
use Rattle.bson_scalar.specs.declared.form.Form.{Form}
use Rattle.bson_scalar.specs.Forms.{is_relaxed}
use Rattle.bson_scalar.specs.Scalar.{Scalar, double, int32, int64, regex, timestamp, binary, object_id, date, decimal}
use Rattle.bson_scalar.specs.Scalar.{db_pointer}

-- the normal form: options sorted, the subtype that its byte reads as, a NaN as its text means it, a decimal as its
-- canonical pattern; all else kept
abbrev pub normal_scalar : Scalar → Scalar
normal_scalar (double pattern) = double (normal_double pattern)
normal_scalar (regex pattern options) = regex pattern (sorted_regex_options options)
normal_scalar (binary binary_subtype bytes) = binary (subtype_of (subtype_byte binary_subtype)) bytes
normal_scalar (decimal decimal_bytes) = decimal (canonical_decimal decimal_bytes)
normal_scalar scalar_value = scalar_value

-- an Int64 as its tree in this form reads back
abbrev pub int64_as_read_back : Form → (integer : ℤ) → Scalar
int64_as_read_back form integer = if is_relaxed form then narrowest_int integer else int64 integer

-- a scalar as its tree in this form reads back: narrowed if the form is the relaxed one
abbrev pub scalar_as_read_back : Form → Scalar → Scalar
scalar_as_read_back form (int64 integer) = int64_as_read_back form integer
scalar_as_read_back form scalar_value = scalar_value

-- whether it has a tree: a double is a zero, an infinity or a NaN, or in the mode `Finite` any
abbrev pub writable_scalar_in : Doubles → Scalar → Bool
writable_scalar_in doubles (double pattern) = is_writable doubles pattern
writable_scalar_in doubles scalar_value = true

abbrev pub writable_scalar : Scalar → Bool
writable_scalar = writable_scalar_in Special

-- each number in it is in the range of its Rust type
abbrev pub ScalarInRange : Scalar → Type 0
ScalarInRange (double pattern) = pattern < 2 ^ 64
ScalarInRange (int32 integer) = FitsSigned w32 integer
ScalarInRange (int64 integer) = FitsSigned w64 integer
ScalarInRange (timestamp seconds increment) = (seconds < 2 ^ 32) × (increment < 2 ^ 32)
ScalarInRange (binary binary_subtype bytes) = (subtype_byte binary_subtype < 256) × IsBytes bytes
ScalarInRange (object_id id) = (length id ≡ 12) × IsBytes id
ScalarInRange (date integer) = FitsSigned w64 integer
ScalarInRange (db_pointer namespace id) = (length id ≡ 12) × IsBytes id
ScalarInRange scalar_value = Unit {0}

-- in normal form, or a NaN of a decimal: its text can have a sign, or say that it signals
abbrev pub IsNormalOrNan : Scalar → Type 0
IsNormalOrNan (decimal decimal_bytes) = (canonical_decimal decimal_bytes ≡ decimal_bytes) ⊎ (is_decimal_nan (decoded_decimal decimal_bytes) ≡ true)
IsNormalOrNan scalar_value = normal_scalar scalar_value ≡ scalar_value

-- what is known of every scalar that is read
abbrev pub IsReadScalarIn : Doubles → Scalar → Type 0
IsReadScalarIn doubles scalar_value = (writable_scalar_in doubles scalar_value ≡ true) × IsNormalOrNan scalar_value

abbrev pub IsReadScalar : Scalar → Type 0
IsReadScalar = IsReadScalarIn Special
