-- The options: which of them each command has, and which of them are set.
use Rattle.std.specs.Prelude.{ℕ, Bool, true, false, not, ◌&&◌, List, codes, is_some, if◌then◌else◌}
use Rattle.bson_convert.specs.declared.mode.Mode.TheVariants.{Show}
use Rattle.bson_run.specs.declared.task.Criterion.TheVariants as criterion
use Rattle.bson_run.specs.declared.task.Output as task
use Rattle.bson_run.specs.declared.task.Output.TheVariants as output
use Rattle.bson_program.specs.declared.arguments.ArgsSoFar.{ArgsSoFar}
use Rattle.bson_program.specs.declared.invocation.Flag.{Flag}
use Rattle.bson_program.specs.declared.invocation.Flag.TheVariants.{SortKeys, Strict, V1, NoDuplicateKeys, Canonical, Indent, KeepGoing, Jobs}
use Rattle.bson_program.specs.declared.invocation.Flag.TheVariants.{Output, Unordered, Array, Diagnostics}
use Rattle.bson_program.specs.declared.invocation.Input.{Input}
use Rattle.bson_program.specs.declared.invocation.Input.TheVariants.{Text, Lines, Documents}
use Rattle.bson_program.specs.declared.invocation.Purpose.{Purpose}
use Rattle.bson_program.specs.declared.invocation.Purpose.TheVariants as purpose

-- ---- the table of options
--
-- The columns are one document (Text), lines and dumps (Documents), each with its output.

-- a form of Extended JSON is written
abbrev pub writes_form : task.Output → Bool
writes_form (output.Text Show) = false
writes_form (output.Text mode) = true
writes_form other_output = false

-- the input is only checked
abbrev pub is_check : task.Output → Bool
is_check (output.Nothing criterion) = true
is_check other_output = false

-- something is written
abbrev pub has_output : task.Output → Bool
has_output output = not (is_check output)

-- texts are read that need not be canonical
abbrev pub reads_texts : Input → task.Output → Bool
reads_texts Documents output = false
reads_texts input (output.Nothing criterion.Canonical) = false
reads_texts input other_output = true

-- texts are read, and only checked
abbrev pub checks_texts : Input → task.Output → Bool
checks_texts Documents output = false
checks_texts input output = is_check output

-- many documents are read
abbrev pub reads_lines_or_documents : Input → Bool
reads_lines_or_documents Text = false
reads_lines_or_documents input = true

-- the command has the option
abbrev pub command_allows : Flag → Input → task.Output → Bool
command_allows SortKeys Documents output = writes_form output
command_allows SortKeys input output = has_output output
command_allows Strict Documents output = writes_form output
command_allows Strict input output = true
command_allows V1 input output = reads_texts input output
command_allows NoDuplicateKeys Documents output = true
command_allows NoDuplicateKeys input output = reads_texts input output
command_allows Canonical input output = checks_texts input output
command_allows Indent Text output = writes_form output
command_allows Indent input output = false
command_allows KeepGoing input output = reads_lines_or_documents input
command_allows Jobs input output = reads_lines_or_documents input
command_allows Output input output = has_output output
command_allows Unordered input output = true
command_allows Array Text output = reads_texts Text output
command_allows Array input output = false
command_allows Diagnostics input output = true

-- modes with this purpose have the option
abbrev pub purpose_allows : Flag → Purpose → Bool
purpose_allows SortKeys purpose.Output = true
purpose_allows SortKeys purpose = false
purpose_allows Indent purpose.Output = true
purpose_allows Indent purpose = false
purpose_allows KeepGoing purpose.Comparison = false
purpose_allows Jobs purpose.Comparison = false
purpose_allows Output purpose.Comparison = false
purpose_allows Diagnostics purpose.Comparison = false
purpose_allows Unordered purpose.Comparison = true
purpose_allows Unordered purpose = false
purpose_allows flag purpose = true

-- ---- options that are set

abbrev pub has_flag : Flag → ArgsSoFar → Bool
has_flag SortKeys args_so_far = args_so_far.sorts_keys
has_flag Strict args_so_far = args_so_far.is_strict
has_flag V1 args_so_far = args_so_far.reads_v1
has_flag NoDuplicateKeys args_so_far = args_so_far.rejects_duplicates
has_flag Canonical args_so_far = args_so_far.is_canonical
has_flag Indent args_so_far = is_some args_so_far.indent
has_flag KeepGoing args_so_far = args_so_far.keeps_going
has_flag Jobs args_so_far = is_some args_so_far.jobs
has_flag Output args_so_far = is_some args_so_far.output
has_flag Unordered args_so_far = args_so_far.is_unordered
has_flag Array args_so_far = args_so_far.reads_array
has_flag Diagnostics args_so_far = is_some args_so_far.diagnostics

-- how the input is read: `encode` reads lines, but an array is one text
abbrev pub requested_input : (reads_array : Bool) → Input → task.Output → Input
requested_input true Lines output.Bytes = Text
requested_input reads_array input output = input

-- an option is set that the command does not have
abbrev pub is_unsupported : Flag → ArgsSoFar → task.Output → Bool
is_unsupported flag args_so_far output =
    if purpose_allows flag args_so_far.purpose
    && command_allows flag (requested_input args_so_far.reads_array args_so_far.input output) output
    then false
    else has_flag flag args_so_far

-- ---- the names of options

abbrev pub flag_name : Flag → List ℕ
flag_name SortKeys = codes "--sort-keys"
flag_name Strict = codes "--strict"
flag_name V1 = codes "--v1"
flag_name NoDuplicateKeys = codes "--no-double-keys"
flag_name Canonical = codes "--canonical"
flag_name Indent = codes "--indent"
flag_name KeepGoing = codes "--keep-going"
flag_name Jobs = codes "--jobs"
flag_name Output = codes "--output"
flag_name Unordered = codes "--unordered"
flag_name Array = codes "--array"
flag_name Diagnostics = codes "--diagnostics"
