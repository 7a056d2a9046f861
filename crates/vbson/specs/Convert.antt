-- What a conversion writes, which integer selects which mode, which options are in the struct of a call, and which text they
-- read.
use Rattle.std.specs.Prelude.{◌≡◌, ◌==◌, ℕ, List, ◌++◌, IsUtf8, Option, Some, None, if◌then◌else◌}
use Rattle.serde_json.specs.Data.{Data}
use Rattle.bson_tree.specs.Faults.{Fault as TreeFault, wrong_shape, wrong_id}
use Rattle.bson_model.specs.Fault.{MeansNothingIn, fault_of_in}
use Rattle.bson_tree.specs.declared.place.Reason.{Reason}
use Rattle.bson_tree.specs.declared.place.Reason.TheVariants.{BadObjectId, WrongShape}
use Rattle.bson.specs.Doubles.TheVariants.{Special, Finite}
use Rattle.bson_scalar.specs.declared.form.Layout.{Layout}
use Rattle.bson_scalar.specs.declared.form.Layout.TheVariants.{Specified, MongoDb}
use Rattle.bson.specs.TextMeaning.{IsTextOf}
use Rattle.bson_model.specs.declared.options.Options.{Options}
use Rattle.bson_convert.specs.Convert.{IsAccepted, newline}
use Rattle.bson_convert.specs.InOrder.{ConvertsBy, IsFixedPointBy}
use Rattle.bson_convert.specs.declared.mode.Mode.{Mode}
use Rattle.bson_convert.specs.declared.mode.Mode.TheVariants.{Canonical, Relaxed, Show}
use Rattle.bson_convert.specs.declared.error.Error.{Error}
use Rattle.bson_convert.specs.declared.error.Error.TheVariants.{NotJson, NotExtendedJson, NoBytes, NotCanonical}
use Rattle.bson_convert.specs.declared.encode_error.NoBytes as no_bytes
use Rattle.bson_convert.specs.declared.encode_error.NoBytes.TheVariants.{NoDocument, ZeroInKey, ZeroInRegex, TooLong}
use Rattle.bson_run.specs.Preprocessed.{IsPreprocessedAs}
use Rattle.bson_run.specs.declared.task.Preprocessing.{Preprocessing}
use Rattle.vbson.specs.Text.{IsOwnedText}
use Rattle.vbson.specs.declared.options.CallOptions.{CallOptions}
use Rattle.bson_model.specs.declared.options.DuplicateKeys.{DuplicateKeys}
use Rattle.bson_model.specs.declared.options.DuplicateKeys.TheVariants.{LastWins, Reject}
use Rattle.bson_model.specs.declared.options.KeyOrder.{KeyOrder}
use Rattle.bson_model.specs.declared.options.KeyOrder.TheVariants.{Ascending, AsGiven}
use Rattle.vbson.specs.declared.text.Text.{Text}

abbrev pub mode_of_number : (mode_number : ℕ) → Option Mode
mode_of_number mode_number =
    if mode_number == 0 then Some Canonical
    else (if mode_number == 1 then Some Relaxed else (if mode_number == 2 then Some Show else None))

-- the order of keys
abbrev pub key_order_of : CallOptions → KeyOrder
key_order_of options = if options.key_order == 1 then AsGiven else Ascending

-- how the two forms are laid out
abbrev pub layout_of : CallOptions → Layout
layout_of options = if options.layout == 1 then MongoDb else Specified

-- the options of a conversion, of which 0 is the default
abbrev pub options_of_call : CallOptions → Options
options_of_call options = record {
  doubles = if options.doubles == 1 then Finite else Special;
  key_order = key_order_of options;
  layout = layout_of options;
}

-- the options reject a duplicate key, or do not
abbrev pub duplicate_keys_of : CallOptions → DuplicateKeys
duplicate_keys_of options = if options.duplicate_keys == 1 then Reject else LastWins

-- what the options request of a text: that a duplicate key is rejected, and that Extended JSON v1 is read too
abbrev pub preprocessing_of : CallOptions → Preprocessing
preprocessing_of options = record { duplicate_keys = duplicate_keys_of options; v1 = options.v1 == 1 }

-- the text that the options read instead of this one has the property
pub record IsReadWith (options : CallOptions) (property : List ℕ → Type 0) (text : List ℕ) : Type 0 where
  pub read_text : List ℕ
  pub read_as : IsPreprocessedAs (preprocessing_of options) text read_text
  pub has : property read_text

-- under the options the text denotes a value
abbrev pub IsAcceptedUnder : CallOptions → (text : List ℕ) → Type 0
IsAcceptedUnder options text = IsReadWith options (IsAccepted (options_of_call options)) text

-- under the options the input is converted to the output
abbrev pub ConvertsUnder : CallOptions → Mode → (input output : List ℕ) → Type 0
ConvertsUnder options mode input output = IsReadWith options
    (λ read_text. ConvertsBy (options_of_call options).key_order (options_of_call options) mode read_text output) input

-- the output is the line that the input is converted to in the mode that was selected, with a NUL in place of its
-- newline. It is UTF-8. In a form, a conversion of this line, read as it is, changes nothing
pub record IsConvertedBy (options : CallOptions) (mode_number : ℕ) (input : List ℕ) (owned_text : Text) : Type 0 where
  pub mode : Mode
  pub mode_selected : mode_of_number mode_number ≡ Some mode
  pub text : List ℕ
  pub converts : ConvertsUnder options mode input (text ++ newline)
  pub utf8 : IsUtf8 (text ++ newline)
  pub unchanged_by_conversion : IsFixedPointBy
      (options_of_call options).key_order (options_of_call options) mode (text ++ newline)
  pub is_text : IsOwnedText text owned_text

-- the fault is an invalid object id
abbrev pub IsBadObjectId : TreeFault → Type 0
IsBadObjectId fault = (id : List ℕ) × (fault ≡ wrong_id id)

-- the fault is any other
abbrev pub IsInvalidShape : TreeFault → Type 0
IsInvalidShape fault = fault ≡ wrong_shape

-- the bytes are JSON that is not valid Extended JSON, for a reason
pub record IsInvalidExtendedJson (options : Options) (fault_condition : TreeFault → Type 0)
    (bytes : List ℕ) : Type 0 where
  pub tree : Data
  pub text : IsTextOf bytes tree
  pub refused : MeansNothingIn options.doubles tree
  pub reason : fault_condition (fault_of_in options.doubles tree)

-- ---- for private clauses

-- the line is the one that the input is converted to under the options
pub record IsLineUnder (options : CallOptions) (mode : Mode) (input line : List ℕ) : Type 0 where
  pub text : List ℕ
  pub converts : ConvertsUnder options mode input (text ++ newline)
  pub utf8 : IsUtf8 (text ++ newline)
  pub unchanged_by_conversion : IsFixedPointBy
      (options_of_call options).key_order (options_of_call options) mode (text ++ newline)
  pub whole : line ≡ text ++ newline

abbrev pub status_of_reason : Reason → ℕ
status_of_reason (BadObjectId object_id_error) = 3
status_of_reason (WrongShape message) = 4

abbrev pub status_of_encode_error : no_bytes.NoBytes → ℕ
status_of_encode_error NoDocument = 10
status_of_encode_error ZeroInKey = 11
status_of_encode_error ZeroInRegex = 12
status_of_encode_error TooLong = 13

abbrev pub status_of : Error → ℕ
status_of NotJson = 2
status_of (NotExtendedJson place) = status_of_reason place.reason
status_of (NoBytes encode_error) = status_of_encode_error encode_error
status_of (NotCanonical column) = 16
status_of _ = 5
