-- The meaning of the arguments after the program's name, one after another.
use Rattle.std.specs.Prelude.{◌≡◌, ◌==◌, ◌⊎◌, ◌<◌, ◌≤◌, ◌++◌, ℕ, Bool, true, false, List, [], ◌∷◌, Option, None, Some, codes}
use Rattle.std.specs.Prelude.{bytes_eq, map, slice_index, string_bytes, vec_len, if◌then◌else◌, String}
use Rattle.std.specs.declared.alloc.Global.{Global}
use Rattle.std.specs.Fmt.{decimal}
use Rattle.bson_convert.specs.declared.mode.Mode.TheVariants as modes
use Rattle.bson_run.specs.TaskNames.{output_name}
use Rattle.bson_codec.specs.declared.diagnostic.DiagnosticFormat.{DiagnosticFormat}
use Rattle.bson_codec.specs.declared.diagnostic.DiagnosticFormat.TheVariants as format
use Rattle.bson_run.specs.declared.task.Criterion.TheVariants.{Valid}
use Rattle.bson_run.specs.declared.task.Output.{Output}
use Rattle.bson_run.specs.declared.task.Output.TheVariants.{Bytes}
use Rattle.bson_run.specs.declared.task.Output.TheVariants as output
use Rattle.bson_program.specs.Flags.{has_flag}
use Rattle.bson_program.specs.declared.invocation.Command.{Command}
use Rattle.bson_program.specs.declared.invocation.Command.TheVariants as command
use Rattle.bson_program.specs.declared.invocation.Flag.{Flag}
use Rattle.bson_program.specs.declared.invocation.Flag.TheVariants as flag
use Rattle.bson_program.specs.declared.invocation.Input.{Input}
use Rattle.bson_program.specs.declared.invocation.Input.TheVariants.{Text, Lines, Documents}
use Rattle.bson_program.specs.declared.invocation.UsageError.TheVariants as usage_error
use Rattle.bson_program.specs.declared.invocation.Purpose.{Purpose}
use Rattle.bson_program.specs.declared.invocation.Purpose.TheVariants as purpose
use Rattle.bson_program.specs.declared.arguments.ArgsSoFar.{ArgsSoFar}
use Rattle.bson_program.specs.declared.meanings.ExpectedArg.{ExpectedArg}
use Rattle.bson_program.specs.declared.meanings.ExpectedArg.TheVariants.{AnyArg, Value, Operand}
use Rattle.bson_program.specs.declared.meanings.Meaning.{Meaning}
use Rattle.bson_program.specs.declared.meanings.Meaning.TheVariants.{Help, Version, Fails, Expects, Sets, HasValue, Names, File}
use Rattle.bson_program.specs.declared.meanings.ParsedArg.{ParsedArg}
use Rattle.bson_program.specs.declared.meanings.ParsedArg.TheVariants as parsed

-- ---- the values of options

-- the number from 1 to the greatest that the text is, as it is written, or `None`
abbrev pub IsCount : (maximum : ℕ) → (text : List ℕ) → Option ℕ → Type 0
IsCount maximum text (Some count) = (text ≡ decimal count) × (0 < count) × (count ≤ maximum)
IsCount maximum text None = (count : ℕ) → 0 < count → count ≤ maximum → text ≡ decimal count → ⊥

-- the names of the formats of diagnostics
abbrev pub format_name : DiagnosticFormat → List ℕ
format_name format.Text = codes "text"
format_name format.Json = codes "json"

-- the format that the text names, or `None`
abbrev pub IsFormat : (text : List ℕ) → Option DiagnosticFormat → Type 0
IsFormat text (Some format) = text ≡ format_name format
IsFormat text None = (format : DiagnosticFormat) → text ≡ format_name format → ⊥

-- the file that the text names
abbrev pub IsFile : (text : List ℕ) → Option (String Global) → Type 0
IsFile text (Some file) = string_bytes file ≡ text
IsFile text None = ⊥

-- the argument has an option and its value in it
abbrev pub IsJoined : Flag → (value arg : List ℕ) → Type 0
IsJoined flag.Indent value arg = arg ≡ codes "--indent=" ++ value
IsJoined flag.Jobs value arg = arg ≡ codes "--jobs=" ++ value
IsJoined flag.Diagnostics value arg = arg ≡ codes "--diagnostics=" ++ value
IsJoined flag.Output value arg = (arg ≡ codes "--output=" ++ value) ⊎ (arg ≡ codes "-o" ++ value)
IsJoined flag value arg = ⊥

-- ---- modes and commands

-- the argument that names a mode
abbrev pub mode_arg : Purpose → Output → List ℕ
mode_arg purpose.Output output = output_name output
mode_arg purpose.Digests output = codes "hash"
mode_arg purpose.Comparison output = codes "same"

abbrev pub command_of : Input → Option Output → Command
command_of Text None = command.AllCommands
command_of Text (Some named_kind) = command.Text
command_of Documents named_kind = command.Decode
command_of Lines (Some Bytes) = command.Encode
command_of Lines named_kind = command.Lines

-- the output of the mode; `decode` without a mode is `relaxed`
abbrev pub requested_kind : Input → Option Output → Option Output
requested_kind Documents None = Some (output.Text modes.Relaxed)
requested_kind input named_kind = named_kind

-- ---- the meaning of an argument

abbrev pub option_words : List (List ℕ × Meaning)
option_words = (codes "--help", Help)
    ∷ (codes "-h", Help)
    ∷ (codes "--version", Version)
    ∷ (codes "-v", Version)
    ∷ (codes "--doubles", Fails usage_error.RemovedOption)
    ∷ (codes "--keep-order", Fails usage_error.RemovedOption)
    ∷ (codes "--", Expects Operand)
    ∷ (codes "-o", Expects (Value flag.Output))
    ∷ (codes "--output", Expects (Value flag.Output))
    ∷ (codes "--indent", Expects (Value flag.Indent))
    ∷ (codes "--jobs", Expects (Value flag.Jobs))
    ∷ (codes "--diagnostics", Expects (Value flag.Diagnostics))
    ∷ (codes "--keep-going", Sets flag.KeepGoing)
    ∷ (codes "--sort-keys", Sets flag.SortKeys)
    ∷ (codes "--strict", Sets flag.Strict)
    ∷ (codes "--no-double-keys", Sets flag.NoDuplicateKeys)
    ∷ (codes "--v1", Sets flag.V1)
    ∷ (codes "--canonical", Sets flag.Canonical)
    ∷ (codes "--unordered", Sets flag.Unordered)
    ∷ (codes "--array", Sets flag.Array)
    ∷ []

-- the modes, and the commands, which come first
abbrev pub mode_words : Input → List (List ℕ × Meaning)
mode_words input = (codes "canonical", Names input purpose.Output (Some (output.Text modes.Canonical)))
    ∷ (codes "relaxed", Names input purpose.Output (Some (output.Text modes.Relaxed)))
    ∷ (codes "show", Names input purpose.Output (Some (output.Text modes.Show)))
    ∷ (codes "check", Names input purpose.Output (Some (output.Nothing Valid)))
    ∷ (codes "hash", Names input purpose.Digests (Some (output.Text modes.Canonical)))
    ∷ (codes "same", Names input purpose.Comparison (Some (output.Text modes.Canonical)))
    ∷ []

abbrev pub command_words : Input → List (List ℕ × Meaning)
command_words Text = (codes "lines", Names Lines purpose.Output None)
    ∷ (codes "decode", Names Documents purpose.Output None)
    ∷ (codes "encode", Names Lines purpose.Output (Some Bytes))
    ∷ []
command_words input = []

-- the meaning in the row of the argument, if it has one
abbrev pub meaning_in : (words : List (List ℕ × Meaning)) → (arg : List ℕ) → (otherwise : Meaning) → Meaning
meaning_in [] arg otherwise = otherwise
meaning_in (row ∷ rows) arg otherwise = if bytes_eq arg row.0 then row.1 else meaning_in rows arg otherwise

-- any other word is a file, if a mode is named or `decode` has its default
abbrev pub file_meaning : Option Output → Meaning
file_meaning (Some named_kind) = File named_kind
file_meaning None = Fails usage_error.UnknownMode

abbrev pub command_meaning : (arg : List ℕ) → Input → Meaning
command_meaning arg input = meaning_in (command_words input) arg (file_meaning (requested_kind input None))

abbrev pub mode_meaning : (arg : List ℕ) → Input → Meaning
mode_meaning arg input = meaning_in (mode_words input) arg (command_meaning arg input)

-- after a mode a word is a file
abbrev pub operand_meaning : (arg : List ℕ) → Input → Option Output → Meaning
operand_meaning arg input None = mode_meaning arg input
operand_meaning arg input (Some named_kind) = File named_kind

-- before a mode `help` requests help
abbrev pub word_meaning : (arg : List ℕ) → Input → Option Output → Meaning
word_meaning arg input None = if bytes_eq arg (codes "help") then Help else mode_meaning arg input
word_meaning arg input (Some named_kind) = File named_kind

abbrev pub any_meaning : (arg : List ℕ) → Input → Option Output → Meaning
any_meaning arg input named_kind = meaning_in option_words arg
    (if bytes_eq arg (codes "-") then operand_meaning arg input named_kind
    else (if slice_index arg 0 == 45 then HasValue else word_meaning arg input named_kind))

-- the meaning of an argument, if this kind is expected
abbrev pub meaning_of : ExpectedArg → (arg : List ℕ) → Input → Option Output → Meaning
meaning_of AnyArg arg input named_kind = any_meaning arg input named_kind
meaning_of (Value flag) arg input named_kind = Sets flag
meaning_of Operand arg input named_kind = operand_meaning arg input named_kind

-- ---- what an argument changes

-- the option is set to its value, and nothing else changes
abbrev pub IsSet : Flag → (value : List ℕ) → (old new : ArgsSoFar) → Type 0
IsSet flag.SortKeys value old new = new ≡ record old { sorts_keys = true }
IsSet flag.Strict value old new = new ≡ record old { is_strict = true }
IsSet flag.V1 value old new = new ≡ record old { reads_v1 = true }
IsSet flag.NoDuplicateKeys value old new = new ≡ record old { rejects_duplicates = true }
IsSet flag.Canonical value old new = new ≡ record old { is_canonical = true }
IsSet flag.KeepGoing value old new = new ≡ record old { keeps_going = true }
IsSet flag.Unordered value old new = new ≡ record old { is_unordered = true }
IsSet flag.Array value old new = new ≡ record old { reads_array = true }
IsSet flag.Indent value old new = (new ≡ record old { indent = new.indent }) × IsCount 16 value new.indent
IsSet flag.Jobs value old new = (new ≡ record old { jobs = new.jobs }) × IsCount 9999 value new.jobs
IsSet flag.Diagnostics value old new = (new ≡ record old { diagnostics = new.diagnostics }) × IsFormat value new.diagnostics
IsSet flag.Output value old new = (new ≡ record old { output = new.output }) × IsFile value new.output

-- the option was not set, and has one of its values now, or the result is what is wrong
abbrev pub IsSetOnce : (is_set : Bool) → Flag → (value : List ℕ) → (old new : ArgsSoFar) → ParsedArg → Type 0
IsSetOnce true flag value old new result = result ≡ parsed.InvalidUsage (usage_error.OptionTwice flag)
IsSetOnce false flag value old new result = IsSet flag value old new
    × (result ≡ (if has_flag flag new then parsed.AcceptedArg else parsed.InvalidUsage (usage_error.BadOptionValue flag)))

-- the option and the value that the argument has, or the result for an unknown option
abbrev pub IsValueSet : (arg : List ℕ) → (old new : ArgsSoFar) → ParsedArg → Type 0
IsValueSet arg old new result =
    ((flag : Flag) × (value : List ℕ) × IsJoined flag value arg × IsSetOnce (has_flag flag old) flag value old new result)
    ⊎ (((flag : Flag) → (value : List ℕ) → IsJoined flag value arg → ⊥) × (result ≡ parsed.InvalidUsage usage_error.UnknownOption))

-- what an argument with this meaning changes, and its result; the state counts only if the argument is accepted
abbrev pub Changes : Meaning → (arg : List ℕ) → (old new : ArgsSoFar) → ParsedArg → Type 0
Changes Help arg old new result = result ≡ parsed.Help
Changes Version arg old new result = result ≡ parsed.Version
Changes (Fails error_kind) arg old new result = result ≡ parsed.InvalidUsage error_kind
Changes (Expects expected_arg) arg old new result = (result ≡ parsed.AcceptedArg) × (new ≡ record old { expected_arg = expected_arg })
Changes (Sets flag) arg old new result = IsSetOnce (has_flag flag old) flag arg (record old { expected_arg = AnyArg }) new result
Changes HasValue arg old new result = IsValueSet arg old new result
Changes (Names input purpose output_kind) arg old new result = (result ≡ parsed.AcceptedArg)
    × (new ≡ record old { input = input; purpose = purpose; output_kind = output_kind })
Changes (File named_kind) arg old new result = (result ≡ parsed.AcceptedArg)
    × (new ≡ record old { output_kind = Some named_kind; inputs = new.inputs })
    × (map string_bytes new.inputs.items ≡ map string_bytes old.inputs.items ++ arg ∷ [])

-- the result for an argument, and the state after it
abbrev pub IsParsed : (arg : List ℕ) → (old new : ArgsSoFar) → ParsedArg → Type 0
IsParsed arg old new result = Changes (meaning_of old.expected_arg arg old.input old.output_kind) arg old new result

-- the state before the first argument
abbrev pub IsInitialState : ArgsSoFar → Type 0
IsInitialState args_so_far = args_so_far ≡ record args_so_far {
  output_kind = None;
  purpose = purpose.Output;
  input = Text;
  keeps_going = false;
  sorts_keys = false;
  is_strict = false;
  rejects_duplicates = false;
  reads_v1 = false;
  is_canonical = false;
  is_unordered = false;
  reads_array = false;
  diagnostics = None;
  indent = None;
  jobs = None;
  output = None;
  expected_arg = AnyArg;
}

-- the state after the arguments, one after another
pub data AreParsed : (args : List (List ℕ)) → ArgsSoFar → Type 0 where
  no_args : (args_so_far : ArgsSoFar) → IsInitialState args_so_far → vec_len args_so_far.inputs ≡ 0 → AreParsed [] args_so_far
  one_more_arg : {args : List (List ℕ)} {old : ArgsSoFar} (arg : List ℕ) (new : ArgsSoFar) → AreParsed args old
      → IsParsed arg old new parsed.AcceptedArg
      → AreParsed (args ++ arg ∷ []) new
