-- What all arguments request.
use Rattle.std.specs.Prelude.{◌≡◌, ◌≢◌, ◌⊎◌, ◌<◌, ℕ, Bool, true, false, List, [], ◌∷◌, Option, None, Some, codes}
use Rattle.std.specs.Prelude.{get_or, length, map, string_bytes, take, vec_len, if◌then◌else◌, String, Vec}
use Rattle.std.specs.declared.alloc.Global.{Global}
use Rattle.std.specs.Option.{option_map_or}
use Rattle.bson_convert.specs.declared.mode.Mode.TheVariants as modes
use Rattle.bson_run.specs.declared.task.Criterion.TheVariants.{Canonical}
use Rattle.bson_codec.specs.declared.diagnostic.DiagnosticFormat.{DiagnosticFormat}
use Rattle.bson_codec.specs.declared.diagnostic.DiagnosticFormat.TheVariants as format
use Rattle.bson_run.specs.declared.task.OnRefusal.TheVariants.{KeepGoing, Stop}
use Rattle.bson_run.specs.declared.task.Preprocessing.{Preprocessing}
use Rattle.bson_run.specs.declared.task.Task.{Task}
use Rattle.bson_run.specs.declared.task.Output.{Output}
use Rattle.bson_run.specs.declared.task.Output.TheVariants.{Nothing}
use Rattle.bson_run.specs.declared.task.Output.TheVariants as output
use Rattle.bson_model.specs.declared.options.DuplicateKeys.{DuplicateKeys}
use Rattle.bson_model.specs.declared.options.DuplicateKeys.TheVariants.{LastWins, Reject}
use Rattle.bson_program.specs.Flags.{is_unsupported, requested_input}
use Rattle.bson_program.specs.Invocation.{command_of, requested_kind, AreParsed, IsParsed}
use Rattle.bson_program.specs.declared.invocation.Request.{Request}
use Rattle.bson_program.specs.declared.invocation.Request.TheVariants.{Run, Help, Version, InvalidUsage}
use Rattle.bson_program.specs.declared.invocation.Command.{Command}
use Rattle.bson_program.specs.declared.invocation.Flag.{Flag}
use Rattle.bson_program.specs.declared.invocation.Flag.TheVariants as flag
use Rattle.bson_program.specs.declared.invocation.UsageError.{UsageError}
use Rattle.bson_program.specs.declared.invocation.UsageError.TheVariants as usage_error
use Rattle.bson_program.specs.declared.invocation.Invocation.{Invocation}
use Rattle.bson_program.specs.declared.invocation.Purpose.{Purpose}
use Rattle.bson_program.specs.declared.invocation.Purpose.TheVariants as purpose
use Rattle.bson_program.specs.declared.arguments.ArgsSoFar.{ArgsSoFar}
use Rattle.bson_program.specs.declared.meanings.ExpectedArg.{ExpectedArg}
use Rattle.bson_program.specs.declared.meanings.ExpectedArg.TheVariants.{Value}
use Rattle.bson_program.specs.declared.meanings.ParsedArg.{ParsedArg}
use Rattle.bson_program.specs.declared.meanings.ParsedArg.TheVariants as parsed
use Rattle.bson.specs.Doubles.{Doubles}
use Rattle.bson.specs.Doubles.TheVariants.{Finite, Special}
use Rattle.bson_scalar.specs.declared.form.Layout.{Layout}
use Rattle.bson_scalar.specs.declared.form.Layout.TheVariants.{Specified, MongoDb}
use Rattle.bson.specs.KeyOrder.{KeyOrder}
use Rattle.bson.specs.KeyOrder.TheVariants.{Ascending, AsGiven}
use Rattle.bson.specs.Options.{Options}

-- ---- outputs and options

-- the criterion of a check is the one that the option sets
abbrev pub with_criterion : (is_canonical : Bool) → (named_kind : Output) → Output
with_criterion true (Nothing criterion) = Nothing Canonical
with_criterion is_canonical named_kind = named_kind

abbrev pub requested_duplicate_keys : (rejects_duplicates : Bool) → DuplicateKeys
requested_duplicate_keys true = Reject
requested_duplicate_keys false = LastWins

-- the preprocessing of a text before it is read: the check for duplicate keys, and rewriting Extended JSON v1
abbrev pub requested_preprocessing : (rejects_duplicates reads_v1 : Bool) → Preprocessing
requested_preprocessing rejects_duplicates reads_v1 =
    record { duplicate_keys = requested_duplicate_keys rejects_duplicates; v1 = reads_v1 }

-- all doubles have a text; or, if the run is strict, those of the specification
abbrev pub accepted_doubles : (is_strict : Bool) → Doubles
accepted_doubles true = Special
accepted_doubles false = Finite

-- the layout of the specification, or that of libbson and PyMongo
abbrev pub requested_layout : (is_strict : Bool) → Layout
requested_layout true = Specified
requested_layout false = MongoDb

-- keys keep their order, unless they are sorted, the run is strict, or it has digests or a comparison
abbrev pub requested_key_order : (purpose : Purpose) → (sorts_keys is_strict : Bool) → KeyOrder
requested_key_order purpose.Output false false = AsGiven
requested_key_order purpose sorts_keys is_strict = Ascending

-- the format that an option names, or text
abbrev pub requested_diagnostics : Option DiagnosticFormat → DiagnosticFormat
requested_diagnostics None = format.Text
requested_diagnostics (Some named_format) = named_format

-- digests and comparisons are of canonical text, with the keys of each document in ascending order
abbrev pub IsOutputFor : Purpose → KeyOrder → Output → Type 0
IsOutputFor purpose.Output key_order output = Unit {0}
IsOutputFor purpose key_order (output.Text mode) = (mode ≡ modes.Canonical) × (key_order ≡ Ascending)
IsOutputFor purpose key_order other_output = ⊥

-- ---- modes and options

-- the command has the options of the input that are set
pub record InputOptionsSupported (args_so_far : ArgsSoFar) (output_kind : Output) : Type 0 where
  pub sort_keys : is_unsupported flag.SortKeys args_so_far output_kind ≡ false
  pub strict : is_unsupported flag.Strict args_so_far output_kind ≡ false
  pub v1 : is_unsupported flag.V1 args_so_far output_kind ≡ false
  pub no_double_keys : is_unsupported flag.NoDuplicateKeys args_so_far output_kind ≡ false
  pub canonical : is_unsupported flag.Canonical args_so_far output_kind ≡ false
  pub array : is_unsupported flag.Array args_so_far output_kind ≡ false

-- the command has all options that are set
pub record AllOptionsSupported (args_so_far : ArgsSoFar) (output_kind : Output) : Type 0 where
  pub input_options : InputOptionsSupported args_so_far output_kind
  pub indent : is_unsupported flag.Indent args_so_far output_kind ≡ false
  pub keep_going : is_unsupported flag.KeepGoing args_so_far output_kind ≡ false
  pub jobs : is_unsupported flag.Jobs args_so_far output_kind ≡ false
  pub output : is_unsupported flag.Output args_so_far output_kind ≡ false
  pub unordered : is_unsupported flag.Unordered args_so_far output_kind ≡ false
  pub diagnostics : is_unsupported flag.Diagnostics args_so_far output_kind ≡ false

-- the file at this place among the files is standard input
abbrev pub IsStandardInputAt : (input_index : ℕ) → (inputs : Vec (String Global) Global) → Type 0
IsStandardInputAt input_index inputs = (name : String Global) × (name ≡ get_or inputs.items input_index name) × (string_bytes name ≡ codes "-")

-- two files, at most one of which is standard input
abbrev pub AreTwoFiles : (inputs : Vec (String Global) Global) → Type 0
AreTwoFiles inputs = (vec_len inputs ≡ 2) × ((IsStandardInputAt 0 inputs × IsStandardInputAt 1 inputs) → ⊥)

-- the mode has the options, and a comparison is of two files
pub record OptionsFitMode (args_so_far : ArgsSoFar) (output : Output) : Type 0 where
  pub files : args_so_far.purpose ≡ purpose.Comparison → AreTwoFiles args_so_far.inputs
  pub options : AllOptionsSupported args_so_far output

-- why they do not fit
abbrev pub IsOptionError : ArgsSoFar → Output → UsageError → Type 0
IsOptionError args_so_far output (usage_error.UnsupportedOption flag purpose shown_output) =
    (purpose ≡ args_so_far.purpose)
    × (shown_output ≡ output) × (is_unsupported flag args_so_far output ≡ true)
IsOptionError args_so_far output usage_error.NeedsTwoFiles = (args_so_far.purpose ≡ purpose.Comparison)
    × (vec_len args_so_far.inputs ≢ 2)
IsOptionError args_so_far output usage_error.StandardInputTwice =
    (args_so_far.purpose ≡ purpose.Comparison) × IsStandardInputAt 0 args_so_far.inputs × IsStandardInputAt 1 args_so_far.inputs
IsOptionError args_so_far output error_kind = ⊥

-- the option whose value is missing
abbrev pub option_without_value : ExpectedArg → Option Flag
option_without_value (Value flag) = Some flag
option_without_value expected_arg = None

-- ---- what is asked for

-- the task of a mode with the options
abbrev pub requested_task : ArgsSoFar → (named_kind : Output) → Task
requested_task args_so_far named_kind = record {
  preprocessing = requested_preprocessing args_so_far.rejects_duplicates args_so_far.reads_v1;
  output = with_criterion args_so_far.is_canonical named_kind;
  diagnostics = requested_diagnostics args_so_far.diagnostics;
}

abbrev pub requested_options : ArgsSoFar → Options
requested_options args_so_far = record {
  doubles = accepted_doubles args_so_far.is_strict;
  key_order = requested_key_order args_so_far.purpose args_so_far.sorts_keys args_so_far.is_strict;
  layout = requested_layout args_so_far.is_strict;
}

-- the files, or the standard stream if there is none
abbrev pub or_standard_input : (names : List (List ℕ)) → List (List ℕ)
or_standard_input [] = codes "-" ∷ []
or_standard_input (name ∷ names) = name ∷ names

-- the run that the arguments request
pub record IsInvocationOf (args_so_far : ArgsSoFar) (invocation : Invocation) : Type 0 where
  pub named_kind : Output
  pub is_named_kind : requested_kind args_so_far.input args_so_far.output_kind ≡ Some named_kind
  pub no_missing_value : option_without_value args_so_far.expected_arg ≡ None
  pub options_fit_mode : OptionsFitMode args_so_far (with_criterion args_so_far.is_canonical named_kind)
  pub task : invocation.task ≡ requested_task args_so_far named_kind
  pub options : invocation.options ≡ requested_options args_so_far
  pub on_refusal : invocation.on_refusal ≡ (if args_so_far.keeps_going then KeepGoing else Stop)
  pub purpose : invocation.purpose ≡ args_so_far.purpose
  pub unordered : invocation.is_unordered ≡ args_so_far.is_unordered
  pub array : invocation.reads_array ≡ args_so_far.reads_array
  pub input : invocation.input
      ≡ requested_input args_so_far.reads_array args_so_far.input (with_criterion args_so_far.is_canonical named_kind)
  pub indent : invocation.indent ≡ args_so_far.indent
  pub output : string_bytes invocation.output ≡ option_map_or string_bytes args_so_far.output (codes "-")
  pub inputs : map string_bytes invocation.inputs.items ≡ or_standard_input (map string_bytes args_so_far.inputs.items)

-- what is wrong with all arguments, if each was accepted
abbrev pub IsErrorOfAllArgs : ArgsSoFar → UsageError → Type 0
IsErrorOfAllArgs args_so_far (usage_error.BadOptionValue flag) = option_without_value args_so_far.expected_arg ≡ Some flag
IsErrorOfAllArgs args_so_far usage_error.NoMode = requested_kind args_so_far.input args_so_far.output_kind ≡ None
IsErrorOfAllArgs args_so_far error_kind = (named_kind : Output)
    × (requested_kind args_so_far.input args_so_far.output_kind ≡ Some named_kind)
    × IsOptionError args_so_far (with_criterion args_so_far.is_canonical named_kind) error_kind

-- the result for all arguments, if no help was requested: a run, or what is wrong
abbrev pub IsRequestOf : ArgsSoFar → Request → Type 0
IsRequestOf args_so_far (Run invocation) = IsInvocationOf args_so_far invocation
IsRequestOf args_so_far (InvalidUsage invalid_usage) = IsErrorOfAllArgs args_so_far invalid_usage.usage_error
    × (invalid_usage.command ≡ command_of args_so_far.input args_so_far.output_kind)
IsRequestOf args_so_far request = ⊥

-- the first argument that is not accepted, with its result and the command that those before it name
pub record IsLastArg (args : List (List ℕ)) (arg : List ℕ) (command : Command) (result : ParsedArg) : Type 0 where
  pub arg_index : ℕ
  pub in_range : arg_index < length args
  pub is_arg : get_or args arg_index arg ≡ arg
  pub old : ArgsSoFar
  pub new : ArgsSoFar
  pub parsed_before : AreParsed (take arg_index args) old
  pub is_result : IsParsed arg old new result
  pub is_command : command ≡ command_of old.input old.output_kind

-- what each request says of the arguments: a run is what all of them request, and any other request is that of the
-- first argument that is not accepted, as one for help, or that of all arguments
abbrev pub IsRequestedBy : (args : List (List ℕ)) → Request → Type 0
IsRequestedBy args (Run invocation) = IsOutputFor invocation.purpose invocation.options.key_order invocation.task.output
    × ((args_so_far : ArgsSoFar) × AreParsed args args_so_far × IsInvocationOf args_so_far invocation)
IsRequestedBy args (Help command) = (arg : List ℕ) × IsLastArg args arg command parsed.Help
IsRequestedBy args Version = (arg : List ℕ) × (command : Command) × IsLastArg args arg command parsed.Version
IsRequestedBy args (InvalidUsage invalid_usage) =
    ((args_so_far : ArgsSoFar) × AreParsed args args_so_far × IsRequestOf args_so_far (InvalidUsage invalid_usage))
    ⊎ IsLastArg args (string_bytes invalid_usage.arg) invalid_usage.command (parsed.InvalidUsage invalid_usage.usage_error)

-- ---- for private clauses

abbrev pub IsInvalidUsageRequest : UsageError → Command → Request → Type 0
IsInvalidUsageRequest error_kind command (InvalidUsage invalid_usage) = (invalid_usage.usage_error ≡ error_kind)
    × (invalid_usage.command ≡ command)
IsInvalidUsageRequest error_kind command request = ⊥
