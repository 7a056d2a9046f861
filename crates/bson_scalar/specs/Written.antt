-- The tree of a scalar in each of the two forms (MongoDB Extended JSON v2).
use Rattle.std.specs.Prelude.{◌≡◌, ◌⊎◌, ℕ, ℤ, List, Bool, true, false, Option, Some, None, Result, Ok, Err, from_bits}
use Rattle.std.specs.Prelude.{if◌then◌else◌}
use Rattle.std.specs.Float.{binary64}
use Rattle.bson_double.specs.FiniteDoubles.{is_finite}
use Rattle.serde_json.specs.Data.{Data, float}
use Rattle.serde_json.specs.Data as tree
use Rattle.serde_json.specs.Find.{of_integer}
use Rattle.bson_scalar.specs.Binaries.{binary_tree}
use Rattle.bson_scalar.specs.Dates.{date_tree, relaxed_date_text, relaxed_date_tree}
use Rattle.bson_scalar.specs.Forms.{is_relaxed}
use Rattle.bson_scalar.specs.Decimals.{decimal_tree}
use Rattle.bson_scalar.specs.Doubles.{double_tree, double_text, IsDoubleTextIn, double_text_in}
use Rattle.bson_scalar.specs.Ids.{oid_tree, pointer_tree}
use Rattle.bson_scalar.specs.Ints.{int32_tree, int64_tree}
use Rattle.bson_scalar.specs.Constants.{min_key_tree, max_key_tree, undefined_tree}
use Rattle.bson_types.specs.Regex.{sorted_regex_options}
use Rattle.bson_scalar.specs.Regexes.{regex_tree}
use Rattle.bson_scalar.specs.Texts.{symbol_tree, code_tree}
use Rattle.bson_scalar.specs.Timestamps.{timestamp_tree}
use Rattle.bson_scalar.specs.Scalar.{Scalar, null, undefined, min_key, max_key, boolean, double, int32, int64, text}
use Rattle.bson_scalar.specs.Scalar.{symbol, code, regex, timestamp, binary, object_id, date, decimal, db_pointer}
use Rattle.bson_scalar.specs.declared.form.Doubles.{Doubles}
use Rattle.bson_scalar.specs.declared.form.Doubles.TheVariants.{Special, Finite}
use Rattle.bson_scalar.specs.declared.form.Form.{Form}
use Rattle.bson_scalar.specs.declared.form.Form.TheVariants.{MongoDbRelaxed, Relaxed}
use Rattle.bson_scalar.specs.declared.write_error.WriteError.{WriteError}
use Rattle.bson_scalar.specs.declared.write_error.WriteError.TheVariants.{FiniteDouble, OutOfMemory}

-- the trees that differ between the forms
abbrev pub int32_form : Form → (integer : ℤ) → Data
int32_form written_form integer =
    if is_relaxed written_form then tree.number (of_integer integer) else int32_tree integer

abbrev pub int64_form : Form → (integer : ℤ) → Data
int64_form written_form integer =
    if is_relaxed written_form then tree.number (of_integer integer) else int64_tree integer

abbrev pub date_form : Form → (integer : ℤ) → Data
date_form written_form integer =
    if is_relaxed written_form then relaxed_date_tree (relaxed_date_text written_form integer) integer
    else date_tree integer

-- the JSON number of a finite double
abbrev pub number_tree : (pattern : ℕ) → Data
number_tree pattern = tree.number (float (from_bits binary64 pattern))

-- the tree of a double of the mode `Finite`: in a relaxed form a finite one is a JSON number
abbrev pub WrittenFiniteDouble : (in_relaxed_form : Bool) → (pattern : ℕ) → Data → Type 0
WrittenFiniteDouble false pattern json_tree = (text_bytes : List ℕ) × IsDoubleTextIn Finite pattern text_bytes
    × (json_tree ≡ double_tree text_bytes)
WrittenFiniteDouble true pattern json_tree =
    ((is_finite pattern ≡ true) × (json_tree ≡ number_tree pattern))
    ⊎ ((is_finite pattern ≡ false)
    × ((text_bytes : List ℕ) × (double_text pattern ≡ Some text_bytes) × (json_tree ≡ double_tree text_bytes)))

abbrev pub WrittenDoubleIn : Doubles → Form → (pattern : ℕ) → Data → Type 0
WrittenDoubleIn Special written_form pattern json_tree = (text_bytes : List ℕ)
    × IsDoubleTextIn Special pattern text_bytes × (json_tree ≡ double_tree text_bytes)
WrittenDoubleIn Finite written_form pattern json_tree = WrittenFiniteDouble (is_relaxed written_form) pattern json_tree

-- the scalar, in normal form, has this tree in the written form
abbrev pub WrittenScalarIn : Doubles → Form → Scalar → Data → Type 0
WrittenScalarIn doubles written_form null json_tree = json_tree ≡ tree.null
WrittenScalarIn doubles written_form undefined json_tree = json_tree ≡ undefined_tree
WrittenScalarIn doubles written_form min_key json_tree = json_tree ≡ min_key_tree
WrittenScalarIn doubles written_form max_key json_tree = json_tree ≡ max_key_tree
WrittenScalarIn doubles written_form (boolean truth_value) json_tree = json_tree ≡ tree.boolean truth_value
WrittenScalarIn doubles written_form (double pattern) json_tree = WrittenDoubleIn doubles written_form pattern json_tree
WrittenScalarIn doubles written_form (int32 integer) json_tree = json_tree ≡ int32_form written_form integer
WrittenScalarIn doubles written_form (int64 integer) json_tree = json_tree ≡ int64_form written_form integer
WrittenScalarIn doubles written_form (text text_bytes) json_tree = json_tree ≡ tree.string text_bytes
WrittenScalarIn doubles written_form (symbol text_bytes) json_tree = json_tree ≡ symbol_tree text_bytes
WrittenScalarIn doubles written_form (code text_bytes) json_tree = json_tree ≡ code_tree text_bytes
WrittenScalarIn doubles written_form (regex pattern regex_options) json_tree =
    json_tree ≡ regex_tree pattern regex_options
WrittenScalarIn doubles written_form (timestamp seconds increment) json_tree =
    json_tree ≡ timestamp_tree seconds increment
WrittenScalarIn doubles written_form (binary binary_subtype bytes) json_tree =
    json_tree ≡ binary_tree binary_subtype bytes
WrittenScalarIn doubles written_form (object_id id) json_tree = json_tree ≡ oid_tree id
WrittenScalarIn doubles written_form (date integer) json_tree = json_tree ≡ date_form written_form integer
WrittenScalarIn doubles written_form (decimal decimal_bytes) json_tree = json_tree ≡ decimal_tree decimal_bytes
WrittenScalarIn doubles written_form (db_pointer namespace id) json_tree = json_tree ≡ pointer_tree namespace id

abbrev pub WrittenScalar : Form → Scalar → Data → Type 0
WrittenScalar = WrittenScalarIn Special

-- ---- the same as functions of any scalar, for the proofs

-- a finite double has no text in this mode
pub data WriteFault : Type 0 where
  finite : WriteFault

infixl 10 ◌>>=◌
abbrev pub ◌>>=◌ : {A B : Type 0} → Result A WriteFault → (A → Result B WriteFault) → Result B WriteFault
(Ok written_value) >>= next_step = next_step written_value
(Err write_fault) >>= next_step = Err write_fault

abbrev pub or_finite_double_fault : {A : Type 0} → Option A → Result A WriteFault
or_finite_double_fault (Some written_part) = Ok written_part
or_finite_double_fault None = Err finite

abbrev pub special_double_tree : (optional_text : Option (List ℕ)) → Result Data WriteFault
special_double_tree optional_text = or_finite_double_fault optional_text >>= λ text_bytes. Ok (double_tree text_bytes)

abbrev pub finite_double_writes : (in_relaxed_form : Bool) → (pattern : ℕ) → Result Data WriteFault
finite_double_writes false pattern = special_double_tree (double_text_in Finite pattern)
finite_double_writes true pattern =
    if is_finite pattern then Ok (number_tree pattern) else special_double_tree (double_text pattern)

abbrev pub double_writes_in : Doubles → Form → (pattern : ℕ) → Result Data WriteFault
double_writes_in Special written_form pattern = special_double_tree (double_text pattern)
double_writes_in Finite written_form pattern = finite_double_writes (is_relaxed written_form) pattern

abbrev pub writes_scalar_in : Doubles → Form → Scalar → Result Data WriteFault
writes_scalar_in doubles written_form null = Ok tree.null
writes_scalar_in doubles written_form undefined = Ok undefined_tree
writes_scalar_in doubles written_form min_key = Ok min_key_tree
writes_scalar_in doubles written_form max_key = Ok max_key_tree
writes_scalar_in doubles written_form (boolean truth_value) = Ok (tree.boolean truth_value)
writes_scalar_in doubles written_form (double pattern) = double_writes_in doubles written_form pattern
writes_scalar_in doubles written_form (int32 integer) = Ok (int32_form written_form integer)
writes_scalar_in doubles written_form (int64 integer) = Ok (int64_form written_form integer)
writes_scalar_in doubles written_form (text text_bytes) = Ok (tree.string text_bytes)
writes_scalar_in doubles written_form (symbol text_bytes) = Ok (symbol_tree text_bytes)
writes_scalar_in doubles written_form (code text_bytes) = Ok (code_tree text_bytes)
writes_scalar_in doubles written_form (regex pattern regex_options) =
    Ok (regex_tree pattern (sorted_regex_options regex_options))
writes_scalar_in doubles written_form (timestamp seconds increment) = Ok (timestamp_tree seconds increment)
writes_scalar_in doubles written_form (binary binary_subtype bytes) = Ok (binary_tree binary_subtype bytes)
writes_scalar_in doubles written_form (object_id id) = Ok (oid_tree id)
writes_scalar_in doubles written_form (date integer) = Ok (date_form written_form integer)
writes_scalar_in doubles written_form (decimal decimal_bytes) = Ok (decimal_tree decimal_bytes)
writes_scalar_in doubles written_form (db_pointer namespace id) = Ok (pointer_tree namespace id)

abbrev pub writes_scalar : Form → Scalar → Result Data WriteFault
writes_scalar = writes_scalar_in Special

-- What a function returned, seen by view, is what writing gives, unless memory ran out.
abbrev pub IsWriteFailureOf : {Y : Type 0} → WriteError → Result Y WriteFault → Type 0
IsWriteFailureOf OutOfMemory write_result = Unit {0}
IsWriteFailureOf FiniteDouble write_result = write_result ≡ Err finite

abbrev pub IsWriteResult : {X Y : Type 0} → (X → Y) → Result X WriteError → Result Y WriteFault → Type 0
IsWriteResult view (Ok returned_value) write_result = write_result ≡ Ok (view returned_value)
IsWriteResult view (Err returned_error) write_result = IsWriteFailureOf returned_error write_result
