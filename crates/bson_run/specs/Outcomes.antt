-- The same lines have one outcome.
use Rattle.std.specs.Prelude.{◌≡◌, ◌+◌, ℕ, List, [], ◌∷◌, ◌++◌, length}
use Rattle.bson_model.specs.declared.options.Options.{Options}
use Rattle.bson_tree.specs.Place.{path_of}
use Rattle.bson_convert.specs.declared.error.Error.{Error}
use Rattle.bson_convert.specs.declared.error.Error.TheVariants.{NotJson, NotExtendedJson, NoBytes, NotCanonical}
use Rattle.bson_run.specs.Lines.{line_text, IsRejectedLineIn, LineOutcomes}
use Rattle.bson_run.specs.Diagnostic.{IsDiagnostic}
use Rattle.bson_run.specs.declared.task.OnRefusal.{OnRefusal}
use Rattle.bson_run.specs.declared.task.OnRefusal.TheVariants.{Stop}
use Rattle.bson_run.specs.declared.task.Task.{Task}

-- the fault is one of a text
abbrev pub IsErrorOfText : Error → Type 0
IsErrorOfText NotJson = Unit {0}
IsErrorOfText (NotExtendedJson place) = Unit {0}
IsErrorOfText (NoBytes no_bytes_cause) = Unit {0}
IsErrorOfText (NotCanonical column) = Unit {0}
IsErrorOfText other_error = ⊥

-- the faults are the same, with the same path where there is one; the words for what was expected may differ
abbrev pub IsSameFault : Error → Error → Type 0
IsSameFault NotJson NotJson = Unit {0}
IsSameFault (NotExtendedJson place) (NotExtendedJson other_place) = path_of place ≡ path_of other_place
IsSameFault (NoBytes no_bytes_cause) (NoBytes other_cause) = no_bytes_cause ≡ other_cause
IsSameFault (NotCanonical column) (NotCanonical other_column) = column ≡ other_column
IsSameFault fault other_error = ⊥

-- diagnostics on the same texts for the same errors; they differ only in what `IsDiagnostic` leaves open: the column
-- and the rule of a text that is not JSON, and after a path the message of what was expected and found
pub data AreSameDiagnostics (task : Task) : List ℕ → List ℕ → Type 0 where
  silent : AreSameDiagnostics task [] []
  also : {diagnostics other_diagnostics : List ℕ} (line_number : ℕ) (fault cause : Error)
      (text diagnostic other_diagnostic : List ℕ) → AreSameDiagnostics task diagnostics other_diagnostics
      → IsSameFault fault cause → IsDiagnostic task line_number fault text diagnostic
      → IsDiagnostic task line_number cause text other_diagnostic
      → AreSameDiagnostics task (diagnostics ++ diagnostic) (other_diagnostics ++ other_diagnostic)

-- a run over these lines does those before the one of this number, and stops at that one, which is refused for the fault
pub record StopsInsideInput (options : Options) (task : Task) (on_refusal : OnRefusal) (all : List (List ℕ))
    (output diagnostics : List ℕ) (fault : Error) (line_number : ℕ) : Type 0 where
  pub done_lines : List (List ℕ)
  pub line : List ℕ
  pub later_lines : List (List ℕ)
  pub refused : ℕ
  pub parts : all ≡ done_lines ++ line ∷ later_lines
  pub outcomes : LineOutcomes options task on_refusal done_lines output diagnostics refused
  pub counted : line_number ≡ length done_lines + 1
  pub stops : on_refusal ≡ Stop
  pub reason : IsRejectedLineIn options task fault (line_text (length done_lines) line)
