-- A block of lines, each a text of its own.
use Rattle.std.specs.Prelude.{◌≡◌, ◌+◌, ℕ, List, ◌∷◌, ◌++◌, Bool, true, false, Some, length}
use Rattle.bson_model.specs.declared.options.Options.{Options}
use Rattle.bson_convert.specs.declared.error.Error.{Error}
use Rattle.bson_convert.specs.declared.error.Error.TheVariants.{CannotRead, CannotWrite, OutOfMemory}
use Rattle.bson_run.specs.Lines.{HaveLineOutcomes, IsRejectedLineIn, lines as lines_of, line_text}
use Rattle.bson_convert.specs.declared.mode.Mode.{Mode}
use Rattle.bson_codec.specs.declared.diagnostic.DiagnosticFormat.TheVariants as format
use Rattle.bson_run.specs.declared.task.OnRefusal.TheVariants.{KeepGoing, Stop}
use Rattle.bson_run.specs.declared.task.Task.{Task}
use Rattle.bson_run.specs.declared.task.Output.{Output}
use Rattle.bson_run.specs.declared.task.Output.TheVariants.{Text, Bytes}
use Rattle.vbson.specs.Convert.{mode_of_number, options_of_call, preprocessing_of}
use Rattle.vbson.specs.Text.{IsOwnedText}
use Rattle.vbson.specs.declared.lines.Lines.{Lines}
use Rattle.vbson.specs.declared.options.CallOptions.{CallOptions}

-- the task that writes the output of each line, with the preprocessing that the options request
abbrev pub task_of : CallOptions → Output → Task
task_of options output = record {
  preprocessing = preprocessing_of options;
  output = output;
  diagnostics = format.Text;
}

-- the task writes this output and these diagnostics for the lines of the block; these are the numbers of lines and of
-- rejected lines
pub record IsOutputOfLines (options : Options) (task : Task) (block output all_diagnostics : List ℕ)
    (line_count refused : ℕ) : Type 0 where
  pub outcomes : HaveLineOutcomes options task KeepGoing (lines_of block) output all_diagnostics refused
  pub counted : line_count ≡ length (lines_of block)

-- the struct has the output, the diagnostics and the counts of the task for the lines
pub record IsLinesResult (options : Options) (task : Task) (block : List ℕ) (lines_result : Lines) : Type 0 where
  pub text : List ℕ
  pub diagnostics : List ℕ
  pub is_output : IsOutputOfLines options task block text diagnostics lines_result.lines lines_result.refused
  pub is_text : IsOwnedText text lines_result.text
  pub are_diagnostics : IsOwnedText diagnostics lines_result.diagnostics

-- the struct has the result of converting each line in the mode that was selected
pub record LinesAreConverted (options : CallOptions) (mode_number : ℕ) (block : List ℕ)
    (lines_result : Lines) : Type 0 where
  pub mode : Mode
  pub mode_selected : mode_of_number mode_number ≡ Some mode
  pub is_result : IsLinesResult (options_of_call options) (task_of options (Text mode)) block lines_result

-- the struct has the result of encoding each line as the bytes of its document
abbrev pub LinesAreEncoded : CallOptions → (block : List ℕ) → Lines → Type 0
LinesAreEncoded options block lines_result =
    IsLinesResult (options_of_call options) (task_of options Bytes) block lines_result

-- ---- the first line that is rejected

-- the task accepts each line that is not blank: a run that stops at a rejected line reads all lines
pub record LinesAreAccepted (options : Options) (task : Task) (all_lines : List (List ℕ)) : Type 0 where
  pub output : List ℕ
  pub all_diagnostics : List ℕ
  pub refused : ℕ
  pub outcomes : HaveLineOutcomes options task Stop all_lines output all_diagnostics refused

-- the task accepts each line of the block
abbrev pub EachLineIsAccepted : Options → Task → (block : List ℕ) → Type 0
EachLineIsAccepted options task block = LinesAreAccepted options task (lines_of block)

-- the task rejects the line with the number, from 1, and accepts the lines before it
pub record IsFirstRejected (options : Options) (task : Task) (block : List ℕ) (line_number : ℕ) : Type 0 where
  pub lines_before : List (List ℕ)
  pub line : List ℕ
  pub lines_after : List (List ℕ)
  pub fault : Error
  pub whole : lines_of block ≡ lines_before ++ line ∷ lines_after
  pub counted : line_number ≡ length lines_before + 1
  pub accepted : LinesAreAccepted options task lines_before
  pub rejected : IsRejectedLineIn options task fault (line_text (length lines_before) line)

-- for private clauses: the fault is that of a rejected line
abbrev pub is_rejection : Error → Bool
is_rejection CannotRead = false
is_rejection CannotWrite = false
is_rejection OutOfMemory = false
is_rejection _ = true
