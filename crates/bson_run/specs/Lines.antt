-- A run over lines: each line of the input is a text of its own.
use Rattle.std.specs.Prelude.{◌≡◌, ◌≢◌, ◌⊎◌, ◌+◌, ◌==◌, ◌&&◌, ℕ, List, [], ◌∷◌, ◌++◌, Option, None, Some, length, drop}
use Rattle.std.specs.Prelude.{All, IsUtf8, if◌then◌else◌, min, ◌-◌, ◌^◌}
use Rattle.std.specs.List.{starts_with}
use Rattle.std.specs.Io.KnownBytes.{Appends, Consumes}
use Rattle.bson_model.specs.declared.options.Options.{Options}
use Rattle.bson_convert.specs.Convert.{IsAccepted, IsCanonicalText, IsRejectedIn, IsUncanonicalAt}
use Rattle.bson_run.specs.Encode.{Encodes, TextHasNoBsonBytes}
use Rattle.bson_convert.specs.InOrder.{ConvertsBy}
use Rattle.bson_run.specs.Diagnostic.{IsDiagnostic}
use Rattle.bson_convert.specs.Run.{WritesBeginning, WritesPart}
use Rattle.bson_convert.specs.Run.{ReadsAll}
use Rattle.bson_convert.specs.declared.error.Error.{Error}
use Rattle.bson_convert.specs.declared.error.Error.TheVariants.{CannotRead, NotJson, NotExtendedJson, NoBytes, OutOfMemory}
use Rattle.bson_convert.specs.declared.error.Error.TheVariants.{CannotWrite, NotCanonical}
use Rattle.bson_run.specs.declared.line_run_state.LineRunState.{LineRunState}
use Rattle.bson_run.specs.declared.lines.LineRun.{LineRun}
use Rattle.bson_run.specs.declared.task.Criterion.{Criterion}
use Rattle.bson_run.specs.declared.task.Criterion.TheVariants as criterion
use Rattle.bson_run.specs.declared.task.Criterion.TheVariants.{Valid}
use Rattle.bson_run.specs.declared.task.OnRefusal.{OnRefusal}
use Rattle.bson_run.specs.declared.task.OnRefusal.TheVariants.{Stop}
use Rattle.bson_run.specs.declared.task.Task.{Task}
use Rattle.bson_run.specs.declared.task.Output.{Output}
use Rattle.bson_run.specs.declared.task.Output.TheVariants.{Text, Bytes, Nothing}
use Rattle.bson_run.specs.Preprocessed.{IsPreprocessedAs, IsRejectedByPreprocessing}

-- ---- the lines of an input

-- the lines, with one more byte before them
abbrev pub prepend_to_first_line : (byte : ℕ) → List (List ℕ) → List (List ℕ)
prepend_to_first_line byte [] = (byte ∷ []) ∷ []
prepend_to_first_line byte (line ∷ other_lines) = (byte ∷ line) ∷ other_lines

-- each newline ends a line; the bytes after the last newline are a line too, unless there are none
abbrev pub lines : List ℕ → List (List ℕ)
lines [] = []
lines (byte ∷ later_bytes) =
    if byte == 10 then [] ∷ lines later_bytes else prepend_to_first_line byte (lines later_bytes)

-- U+FEFF in UTF-8
abbrev pub byte_order_mark : List ℕ
byte_order_mark = 239 ∷ 187 ∷ 191 ∷ []

-- the text of a line after this number of lines: a byte order mark at the start of the first is skipped
abbrev pub line_text : (lines_before : ℕ) → (line : List ℕ) → List ℕ
line_text lines_before line =
    if (lines_before == 0) && starts_with (λ line_byte mark_byte. line_byte == mark_byte) line byte_order_mark
    then drop 3 line else line

-- ---- what a line gives

-- spaces, tabs and carriage returns
abbrev pub IsBlank : (text : List ℕ) → Type 0
IsBlank text = All (λ byte. (byte ≡ 32) ⊎ ((byte ≡ 9) ⊎ (byte ≡ 13))) text

-- the criterion accepts the text
abbrev pub CriterionAccepts : Options → Criterion → (text : List ℕ) → Type 0
CriterionAccepts options Valid text = IsAccepted options text
CriterionAccepts options criterion.Canonical text = IsCanonicalText options text

-- what is written of a text that is accepted: its output in the mode, or the bytes of its document, with keys in the order
-- of the options; or nothing, if it is only checked
abbrev pub WritesOutput : Options → Output → (text output : List ℕ) → Type 0
WritesOutput options (Text mode) text output = ConvertsBy options.key_order options mode text output
WritesOutput options Bytes text output = Encodes options.key_order options text output
WritesOutput options (Nothing criterion) text output = CriterionAccepts options criterion text × (output ≡ [])

-- what is written of a text, which is preprocessed first
abbrev pub WritesOutputForTask : Options → Task → (text output : List ℕ) → Type 0
WritesOutputForTask options task text output =
    (preprocessed : List ℕ) × IsPreprocessedAs task.preprocessing text preprocessed
    × WritesOutput options task.output preprocessed output

-- texts are written, and no bytes of documents
abbrev pub WritesText : Output → Type 0
WritesText Bytes = ⊥
WritesText output = Unit {0}

-- why a text that was preprocessed has no output: it is not the text of a value; or it is, and has no bytes or is not
-- canonical, if that is required
abbrev pub HasNoOutputFor : Options → Error → Output → (text : List ℕ) → Type 0
HasNoOutputFor options NotJson output text = IsRejectedIn options NotJson text
HasNoOutputFor options (NotExtendedJson place) output text = IsRejectedIn options (NotExtendedJson place) text
HasNoOutputFor options (NoBytes no_bytes_cause) Bytes text =
    TextHasNoBsonBytes options.key_order options no_bytes_cause text
HasNoOutputFor options (NotCanonical column) (Nothing criterion.Canonical) text = IsUncanonicalAt options column text
HasNoOutputFor options other_error output text = ⊥

-- the same of a text, which is preprocessed first
abbrev pub HasNoOutputForTask : Options → Error → Task → (text : List ℕ) → Type 0
HasNoOutputForTask options fault task text =
    (preprocessed : List ℕ) × IsPreprocessedAs task.preprocessing text preprocessed
    × HasNoOutputFor options fault task.output preprocessed

-- nothing is written of the text, for the fault; one that is blank is not rejected
abbrev pub IsRejectedLineIn : Options → Task → Error → (text : List ℕ) → Type 0
IsRejectedLineIn options task NotJson text = HasNoOutputForTask options NotJson task text × (IsBlank text → ⊥)
IsRejectedLineIn options task (NotExtendedJson place) text =
    HasNoOutputForTask options (NotExtendedJson place) task text
    ⊎ IsRejectedByPreprocessing task.preprocessing place text
IsRejectedLineIn options task (NoBytes no_bytes_cause) text =
    HasNoOutputForTask options (NoBytes no_bytes_cause) task text
IsRejectedLineIn options task (NotCanonical column) text = HasNoOutputForTask options (NotCanonical column) task text
IsRejectedLineIn options task other_error text = ⊥

-- ---- what lines give, one after the other

-- the output of these lines, their diagnostics, and the number of rejected lines
pub data LineOutcomes (options : Options) (task : Task) (on_refusal : OnRefusal)
    : List (List ℕ) → List ℕ → List ℕ → ℕ → Type 0 where
  none : LineOutcomes options task on_refusal [] [] [] 0
  blank : {earlier_lines : List (List ℕ)} {output diagnostics_before : List ℕ} {refused : ℕ} (line : List ℕ)
      → LineOutcomes options task on_refusal earlier_lines output diagnostics_before refused
      → IsBlank (line_text (length earlier_lines) line)
      → LineOutcomes options task on_refusal (earlier_lines ++ line ∷ []) output diagnostics_before refused
  written : {earlier_lines : List (List ℕ)} {output diagnostics_before : List ℕ} {refused : ℕ}
      (line line_output : List ℕ)
      → LineOutcomes options task on_refusal earlier_lines output diagnostics_before refused
      → WritesOutputForTask options task (line_text (length earlier_lines) line) line_output
      → LineOutcomes options task on_refusal (earlier_lines ++ line ∷ [])
      (output ++ line_output) diagnostics_before refused
  skipped : {earlier_lines : List (List ℕ)} {output diagnostics_before : List ℕ} {refused : ℕ} (line : List ℕ)
      (fault : Error)
      (diagnostic : List ℕ) → LineOutcomes options task on_refusal earlier_lines output diagnostics_before refused
      → on_refusal ≢ Stop
      → IsRejectedLineIn options task fault (line_text (length earlier_lines) line)
      → IsDiagnostic task (length earlier_lines + 1) fault (line_text (length earlier_lines) line) diagnostic
      → LineOutcomes options task on_refusal (earlier_lines ++ line ∷ []) output (diagnostics_before ++ diagnostic)
      (refused + 1)

-- the same, and texts that are written are UTF-8, as are the diagnostics
pub record HaveLineOutcomes (options : Options) (task : Task) (on_refusal : OnRefusal) (all : List (List ℕ))
    (output all_diagnostics : List ℕ)
    (refused : ℕ) : Type 0 where
  pub outcomes : LineOutcomes options task on_refusal all output all_diagnostics refused
  pub utf8 : WritesText task.output → IsUtf8 output
  pub diagnostic_utf8 : IsUtf8 all_diagnostics

-- ---- a run
--
-- For a run, input_before and input_after are the remaining bytes of the reader, and the other pairs are the contents of the output
-- writer and of the diagnostics writer, before and after the run: None if they are not known.

-- what the reader has left, where it is known
abbrev pub remaining_bytes : Option (List ℕ) → List ℕ
remaining_bytes None = []
remaining_bytes (Some bytes) = bytes

-- all lines of the input were done, and their output and diagnostics were written
pub record RunHasDoneAllLines (options : Options) (task : Task) (on_refusal : OnRefusal)
    (input_before input_after output_before output_after diagnostics_before diagnostics_after : Option (List ℕ))
    (line_count refused : ℕ) : Type 0 where
  pub bytes : List ℕ
  pub output : List ℕ
  pub diagnostics : List ℕ
  pub all : ReadsAll input_before input_after bytes
  pub counted : line_count ≡ length (lines bytes)
  pub outcomes : HaveLineOutcomes options task on_refusal (lines bytes) output diagnostics refused
  pub written : Appends output_before output_after output
  pub reports_appended : Appends diagnostics_before diagnostics_after diagnostics

-- what was read, with what the reader has left, is the lines that were done and others; this is what the first gave
pub record RunReachesLine (options : Options) (task : Task) (on_refusal : OnRefusal)
    (input_before input_after : Option (List ℕ))
    (done_lines later_lines : List (List ℕ)) (output diagnostics : List ℕ) : Type 0 where
  pub bytes : List ℕ
  pub refused : ℕ
  pub given : Consumes input_before input_after bytes
  pub whole : lines (bytes ++ remaining_bytes input_after) ≡ done_lines ++ later_lines
  pub outcomes : HaveLineOutcomes options task on_refusal done_lines output diagnostics refused

-- the output and the diagnostics were written
abbrev pub WritesBoth : (output_before output_after diagnostics_before diagnostics_after : Option (List ℕ))
    → (output diagnostics : List ℕ) → Type 0
WritesBoth output_before output_after diagnostics_before diagnostics_after output diagnostics =
    Appends output_before output_after output × Appends diagnostics_before diagnostics_after diagnostics

-- not both were written whole: not all diagnostics, and no more than a beginning of the output; or all
-- diagnostics, and not all output
abbrev pub WritesPartOfBoth : (output_before output_after diagnostics_before diagnostics_after : Option (List ℕ))
    → (output diagnostics : List ℕ) → Type 0
WritesPartOfBoth output_before output_after diagnostics_before diagnostics_after output diagnostics =
    (WritesPart diagnostics_before diagnostics_after diagnostics × WritesBeginning output_before output_after output)
    ⊎ (Appends diagnostics_before diagnostics_after diagnostics × WritesPart output_before output_after output)

-- the run came to the line of this number and no further: this became of what the lines before it give, and this is why
pub record RunEndsAtLine (options : Options)
    (leaves : (output_before output_after diagnostics_before diagnostics_after : Option (List ℕ))
    → (output diagnostics : List ℕ) → Type 0)
    (stop_reason : (lines_before : ℕ) → (later_lines : List (List ℕ)) → Type 0) (task : Task) (on_refusal : OnRefusal)
    (input_before input_after output_before output_after diagnostics_before diagnostics_after : Option (List ℕ))
    (line_number : ℕ) : Type 0 where
  pub done_lines : List (List ℕ)
  pub later_lines : List (List ℕ)
  pub output : List ℕ
  pub diagnostics : List ℕ
  pub reaches : RunReachesLine options task on_refusal input_before input_after done_lines later_lines output diagnostics
  pub counted : line_number ≡ length done_lines + 1
  pub reason : stop_reason (length done_lines) later_lines
  pub written : leaves output_before output_after diagnostics_before diagnostics_after output diagnostics

-- the run stopped at the line of this number: the output and diagnostics of the lines before it were written
abbrev pub RunStopsAtLine : Options → (stop_reason : (lines_before : ℕ) → (later_lines : List (List ℕ)) → Type 0) → Task
    → OnRefusal
    → (input_before input_after output_before output_after diagnostics_before diagnostics_after : Option (List ℕ))
    → (line_number : ℕ) → Type 0
RunStopsAtLine options stop_reason task on_refusal input_before input_after output_before output_after diagnostics_before diagnostics_after line_number =
    RunEndsAtLine options WritesBoth stop_reason task on_refusal input_before input_after output_before output_after diagnostics_before diagnostics_after line_number

-- the output and diagnostics of the lines before it were not written whole
abbrev pub RunIsCutShortAtLine : Options → Task → OnRefusal
    → (input_before input_after output_before output_after diagnostics_before diagnostics_after : Option (List ℕ))
    → (line_number : ℕ) → Type 0
RunIsCutShortAtLine options task on_refusal input_before input_after output_before output_after diagnostics_before diagnostics_after line_number =
    RunEndsAtLine options WritesPartOfBoth
    (λ lines_before later_lines.
    Unit {0}) task on_refusal input_before input_after output_before output_after diagnostics_before diagnostics_after line_number

-- why a run stops at a text: it is rejected, and rejections stop the run; or for a reason that the bytes do not show
abbrev pub IsStoppedAtText : Options → Task → OnRefusal → Error → (text : List ℕ) → Type 0
IsStoppedAtText options task on_refusal CannotRead text = Unit {0}
IsStoppedAtText options task on_refusal OutOfMemory text = Unit {0}
IsStoppedAtText options task on_refusal CannotWrite text = ⊥
IsStoppedAtText options task on_refusal fault text = (on_refusal ≡ Stop) × IsRejectedLineIn options task fault text

-- the same for the first of the lines after this number of lines; if it is rejected, this is its text
abbrev pub IsStoppedAtNextLine : Options → Task → OnRefusal → Error → (rejected_text : List ℕ) → (lines_before : ℕ)
    → (later_lines : List (List ℕ)) → Type 0
IsStoppedAtNextLine options task on_refusal CannotRead rejected_text lines_before later_lines = Unit {0}
IsStoppedAtNextLine options task on_refusal OutOfMemory rejected_text lines_before later_lines = Unit {0}
IsStoppedAtNextLine options task on_refusal CannotWrite rejected_text lines_before later_lines = ⊥
IsStoppedAtNextLine options task on_refusal fault rejected_text lines_before [] = ⊥
IsStoppedAtNextLine options task on_refusal fault rejected_text lines_before (line ∷ later_lines) =
    (rejected_text ≡ line_text lines_before line) × IsStoppedAtText options task on_refusal fault rejected_text

-- what each error says of the bytes, and of the line with this number and text: the error has this
-- reason, except an error of a writer
abbrev pub RunFailsAtLine : Options → Error → Task → OnRefusal
    → (input_before input_after output_before output_after diagnostics_before diagnostics_after : Option (List ℕ))
    → (line_number : ℕ) → (rejected_text : List ℕ) → Type 0
RunFailsAtLine options CannotWrite task on_refusal input_before input_after output_before output_after diagnostics_before diagnostics_after line_number rejected_text =
    RunIsCutShortAtLine options task on_refusal input_before input_after output_before output_after diagnostics_before diagnostics_after line_number
RunFailsAtLine options fault task on_refusal input_before input_after output_before output_after diagnostics_before diagnostics_after line_number rejected_text =
    RunStopsAtLine options
    (IsStoppedAtNextLine options task on_refusal fault rejected_text) task on_refusal input_before input_after output_before output_after diagnostics_before diagnostics_after line_number

-- the number of the line at which a run is: the first that was not done
abbrev pub line_number_of : LineRun → ℕ
line_number_of run = min (run.state.lines + 1) (2 ^ 64 - 1)

-- the text of the buffered line
abbrev pub buffered_text : LineRunState → List ℕ
buffered_text state = line_text state.lines state.line.items
