-- For private clauses: how far a run over lines has come.
use Rattle.std.specs.Prelude.{◌≡◌, ◌≢◌, ◌⊎◌, ◌<◌, ◌≤◌, ◌+◌, ◌-◌, ◌^◌, ℕ, List, [], ◌∷◌, ◌++◌, Option, length, All, IsUtf8}
use Rattle.std.specs.Io.KnownBytes.{Appends, Consumes, Keeps}
use Rattle.bson_run.specs.Lines.{lines, buffered_text, HasNoOutputFor, HaveLineOutcomes, IsRejectedLineIn, IsStoppedAtNextLine}
use Rattle.bson_run.specs.Diagnostic.{IsDiagnostic}
use Rattle.bson_convert.specs.Run.{WritesPart}
-- the types that the steps speak of, for the proofs too
pub use Rattle.bson_model.specs.declared.options.Options.{Options}
pub use Rattle.bson_convert.specs.declared.error.Error.{Error}
pub use Rattle.bson_convert.specs.declared.error.Error.TheVariants.{CannotRead, NotJson, NotExtendedJson, NoBytes, OutOfMemory}
pub use Rattle.bson_convert.specs.declared.error.Error.TheVariants.{CannotWrite, NotCanonical}
pub use Rattle.bson_run.specs.declared.line_run_state.LineRunState.{LineRunState}
pub use Rattle.bson_run.specs.declared.task.OnRefusal.{OnRefusal}
pub use Rattle.bson_run.specs.declared.task.Output.{Output}
pub use Rattle.bson_run.specs.declared.task.Task.{Task}

-- no newline is in it
abbrev pub HasNoNewline : (bytes : List ℕ) → Type 0
HasNoNewline bytes = All (λ byte. byte ≢ 10) bytes

-- numbers of lines can still be counted
pub record LineCountFits (state : LineRunState) : Type 0 where
  pub lines : state.lines < 2 ^ 64 - 1
  pub refused : state.refused ≤ state.lines

-- what lines give is no fault of the reader, but where no further line can be counted
abbrev pub IsLineCountOverflow : Error → (line_count : ℕ) → Type 0
IsLineCountOverflow fault line_count = fault ≡ CannotRead → 2 ^ 64 - 2 ≤ line_count

-- why a text is not written
abbrev pub IsConversionFailure : Options → Task → Error → (text : List ℕ) → Type 0
IsConversionFailure options task OutOfMemory text = Unit {0}
IsConversionFailure options task fault text = IsRejectedLineIn options task fault text

-- why a text that was preprocessed is not written
abbrev pub IsOutputFailure : Options → Error → Output → (text : List ℕ) → Type 0
IsOutputFailure options OutOfMemory output text = Unit {0}
IsOutputFailure options fault output text = HasNoOutputFor options fault output text

-- the diagnostic on a text was appended to those before
abbrev pub IsDiagnosticAppended : Task → (line_number : ℕ) → Error
    → (text old_diagnostics new_diagnostics : List ℕ) → Type 0
IsDiagnosticAppended task line_number fault text old_diagnostics new_diagnostics =
    (diagnostic : List ℕ) × IsDiagnostic task line_number fault text diagnostic
    × (new_diagnostics ≡ old_diagnostics ++ diagnostic) × IsUtf8 diagnostic

-- the run is before its first line
pub record IsBeforeFirstLine (state : LineRunState) : Type 0 where
  pub line : state.line.items ≡ []
  pub output : state.output.items ≡ []
  pub diagnostics_before : state.diagnostics.items ≡ []
  pub lines : state.lines ≡ 0
  pub refused : state.refused ≡ 0

-- as many lines have the same outcome
pub record HaveSameResults (state new_state : LineRunState) : Type 0 where
  pub output : new_state.output.items ≡ state.output.items
  pub diagnostics_before : new_state.diagnostics.items ≡ state.diagnostics.items
  pub lines : new_state.lines ≡ state.lines
  pub refused : new_state.refused ≡ state.refused

-- the buffered line is done, and its output or diagnostic was added
pub record EndsLine (options : Options) (task : Task) (on_refusal : OnRefusal)
    (state new_state : LineRunState) : Type 0 where
  pub line : new_state.line.items ≡ []
  pub lines : new_state.lines ≡ state.lines + 1
  pub outcomes : (earlier_lines : List (List ℕ)) (output diagnostics_before : List ℕ)
      → state.lines ≡ length earlier_lines
      → HaveLineOutcomes options task on_refusal earlier_lines (output ++ state.output.items)
      (diagnostics_before ++ state.diagnostics.items) state.refused
      → HaveLineOutcomes options task on_refusal (earlier_lines ++ state.line.items ∷ [])
      (output ++ new_state.output.items) (diagnostics_before
      ++ new_state.diagnostics.items) new_state.refused

-- the bytes are the lines that are done and the beginning of the next; the output and diagnostics of the lines were
-- written, except those that are still buffered
pub record LineProgress (options : Options) (task : Task) (on_refusal : OnRefusal)
    (bytes output diagnostics_before : List ℕ)
    (state : LineRunState) : Type 0 where
  pub done_lines : List (List ℕ)
  pub whole : (later_bytes : List ℕ)
      → lines (bytes ++ later_bytes) ≡ done_lines ++ lines (state.line.items ++ later_bytes)
  pub has_no_newline : HasNoNewline state.line.items
  pub counted : state.lines ≡ length done_lines
  pub outcomes : HaveLineOutcomes options task on_refusal done_lines (output ++ state.output.items)
      (diagnostics_before ++ state.diagnostics.items) state.refused

-- the bytes came after any others
abbrev pub ReadsBytes : Options → Task → OnRefusal → (bytes : List ℕ) → (state new_state : LineRunState) → Type 0
ReadsBytes options task on_refusal bytes state new_state = (bytes_before output diagnostics_before : List ℕ)
    → LineProgress options task on_refusal bytes_before output diagnostics_before state
    → LineProgress options task on_refusal (bytes_before ++ bytes) output diagnostics_before new_state

-- all lines of the bytes are done
pub record AllLinesDone (options : Options) (task : Task) (on_refusal : OnRefusal)
    (bytes output diagnostics_before : List ℕ)
    (state : LineRunState) : Type 0 where
  pub counted : state.lines ≡ length (lines bytes)
  pub outcomes : HaveLineOutcomes options task on_refusal (lines bytes) (output ++ state.output.items)
      (diagnostics_before ++ state.diagnostics.items) state.refused

abbrev pub EndsLastLine : Options → Task → OnRefusal → (state new_state : LineRunState) → Type 0
EndsLastLine options task on_refusal state new_state = (bytes_before output diagnostics_before : List ℕ)
    → LineProgress options task on_refusal bytes_before output diagnostics_before state
    → AllLinesDone options task on_refusal bytes_before output diagnostics_before new_state

-- the lines of an input that are done, and what they gave
pub record HasReachedLine (options : Options) (task : Task) (on_refusal : OnRefusal)
    (input output diagnostics_before : List ℕ)
    (state : LineRunState) : Type 0 where
  pub done_lines : List (List ℕ)
  pub later_lines : List (List ℕ)
  pub whole : lines input ≡ done_lines ++ later_lines
  pub counted : state.lines ≡ length done_lines
  pub outcomes : HaveLineOutcomes options task on_refusal done_lines (output ++ state.output.items)
      (diagnostics_before ++ state.diagnostics.items) state.refused

-- the next line stops the run
pub record HasStoppedAtLine (options : Options) (task : Task) (on_refusal : OnRefusal)
    (input output diagnostics_before : List ℕ) (fault : Error)
    (state : LineRunState) : Type 0 where
  pub reached : HasReachedLine options task on_refusal input output diagnostics_before state
  pub reason : IsStoppedAtNextLine options task on_refusal fault (buffered_text state)
      (length reached.done_lines) reached.later_lines

-- a line that ends among the bytes stops the run, whatever follows them
abbrev pub StopsInBytes : Options → Task → OnRefusal → (bytes : List ℕ) → Error → (state new_state : LineRunState)
    → Type 0
StopsInBytes options task on_refusal bytes fault state new_state =
    (bytes_before output diagnostics_before later_bytes : List ℕ)
    → LineProgress options task on_refusal bytes_before output diagnostics_before state
    → HasStoppedAtLine options task on_refusal
    ((bytes_before ++ bytes) ++ later_bytes) output diagnostics_before fault new_state

-- the last line stops the run
abbrev pub StopsAtLastLine : Options → Task → OnRefusal → Error → (state new_state : LineRunState) → Type 0
StopsAtLastLine options task on_refusal fault state new_state = (bytes_before output diagnostics_before : List ℕ)
    → LineProgress options task on_refusal bytes_before output diagnostics_before state
    → HasStoppedAtLine options task on_refusal bytes_before output diagnostics_before fault new_state

-- ---- with a reader and writers

-- the bytes of the reader were read, and all output and diagnostics of their lines were written
pub record RunProgress (options : Options) (task : Task) (on_refusal : OnRefusal)
    (input_before input_after output_before output_after diagnostics_before diagnostics_after : Option (List ℕ))
    (state : LineRunState) : Type 0 where
  pub bytes : List ℕ
  pub output : List ℕ
  pub diagnostics : List ℕ
  pub given : Consumes input_before input_after bytes
  pub written : Appends output_before output_after output
  pub reports_appended : Appends diagnostics_before diagnostics_after diagnostics
  pub output_is_flushed : state.output.items ≡ []
  pub diagnostics_are_flushed : state.diagnostics.items ≡ []
  pub progress : LineProgress options task on_refusal bytes output diagnostics state

-- the writer of diagnostics failed, and the other was not used; or all diagnostics were written, and the other failed
abbrev pub CannotWriteBoth : (output_before output_after diagnostics_before diagnostics_after : Option (List ℕ))
    → (output diagnostics : List ℕ) → Type 0
CannotWriteBoth output_before output_after diagnostics_before diagnostics_after output diagnostics =
    (WritesPart diagnostics_before diagnostics_after diagnostics × Keeps output_before output_after)
    ⊎ (Appends diagnostics_before diagnostics_after diagnostics × WritesPart output_before output_after output)

-- nothing is buffered any more, and the lines are as they were
pub record HasFlushed (state new_state : LineRunState) : Type 0 where
  pub line : new_state.line.items ≡ state.line.items
  pub output : new_state.output.items ≡ []
  pub diagnostics_before : new_state.diagnostics.items ≡ []
  pub lines : new_state.lines ≡ state.lines
  pub refused : new_state.refused ≡ state.refused
