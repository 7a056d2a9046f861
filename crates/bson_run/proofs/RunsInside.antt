-- The output of a run over known bytes is that of their lines.
use Rattle.std.proofs.Common.{◌≡◌, ℕ, List, [], ◌∷◌, ◌++◌, length, Option, None, Some, refl, ap, subst, sym, ◌∙◌, append-nil}
use Rattle.std.specs.Prelude.{IsUtf8}
use Rattle.std.specs.Io.KnownBytes.{Appends, Consumes, IsAtEnd}
use Rattle.bson_model.specs.declared.options.Options.{Options}
use Rattle.bson_convert.specs.declared.error.Error.{Error}
use Rattle.bson_convert.specs.declared.error.Error.TheVariants.{CannotRead, NotJson, NotExtendedJson, NoBytes, OutOfMemory}
use Rattle.bson_convert.specs.declared.error.Error.TheVariants.{CannotWrite, NotCanonical}
use Rattle.bson_run.specs.Lines.{lines, remaining_bytes, line_text, RunHasDoneAllLines, RunFailsAtLine, HaveLineOutcomes, IsRejectedLineIn, IsStoppedAtNextLine, RunStopsAtLine}
use Rattle.bson_run.specs.Lines.{WritesText}
use Rattle.bson_run.specs.Outcomes.{IsErrorOfText, StopsInsideInput}
use Rattle.bson_run.specs.declared.task.OnRefusal.{OnRefusal}
use Rattle.bson_run.specs.declared.task.OnRefusal.TheVariants.{Stop}
use Rattle.bson_run.specs.declared.task.Task.{Task}

given_all : (all bytes : List ℕ) (after : Option (List ℕ)) → Consumes (Some all) after bytes → all ≡ bytes ++ remaining_bytes after
given_all all bytes None h = absurd h
given_all all bytes (Some left) h = h

all_given : (all bytes : List ℕ) (after : Option (List ℕ)) → Consumes (Some all) after bytes → IsAtEnd after → all ≡ bytes
all_given all bytes None h end = absurd h
all_given all bytes (Some left) h end = h ∙ ap (λ l. bytes ++ l) end ∙ append-nil bytes

module _ (o : Options) (task : Task) (on_refusal : OnRefusal) where
  pub done_inside : (all : List ℕ) (after output_before output_after diagnostics_before diagnostics_after : Option (List ℕ)) (number refused : ℕ)
      → RunHasDoneAllLines o task on_refusal (Some all) after output_before output_after diagnostics_before diagnostics_after number refused
      → (number ≡ length (lines all)) × ((output : List ℕ) × (diagnostics : List ℕ)
      × HaveLineOutcomes o task on_refusal (lines all) output diagnostics refused × Appends output_before output_after output
      × Appends diagnostics_before diagnostics_after diagnostics)
  done_inside all after output_before output_after diagnostics_before diagnostics_after number refused h =
      let same = all_given all h.bytes after h.all.given h.all.at_end in (
        h.counted ∙ ap (λ l. length (lines l)) (sym same),
        (
          h.output,
          h.diagnostics,
          subst (λ (l : List ℕ). HaveLineOutcomes o task on_refusal (lines l) h.output h.diagnostics refused) (sym same) h.outcomes,
          h.written,
          h.reports_appended,
        ),
      )

  -- the line at which a run stopped
  record AtLine (fault : Error) (n : ℕ) (all : List (List ℕ)) : Type 0 where
    line : List ℕ
    later_lines : List (List ℕ)
    parts : all ≡ line ∷ later_lines
    stops : on_refusal ≡ Stop
    reason : IsRejectedLineIn o task fault (line_text n line)

  at_line : (fault : Error) → IsErrorOfText fault → (rejected_text : List ℕ) (n : ℕ) (all : List (List ℕ))
      → IsStoppedAtNextLine o task on_refusal fault rejected_text n all → AtLine fault n all
  at_line NotJson of rejected_text n [] h = absurd h
  at_line NotJson of rejected_text n (line ∷ later_lines) (is, (stops, h)) = record {
    line = line;
    later_lines = later_lines;
    parts = refl;
    stops = stops;
    reason = subst (IsRejectedLineIn o task NotJson) is h;
  }
  at_line (NotExtendedJson place) of rejected_text n [] h = absurd h
  at_line (NotExtendedJson place) of rejected_text n (line ∷ later_lines) (is, (stops, h)) = record {
    line = line;
    later_lines = later_lines;
    parts = refl;
    stops = stops;
    reason = subst (IsRejectedLineIn o task (NotExtendedJson place)) is h;
  }
  at_line (NoBytes why) of rejected_text n [] h = absurd h
  at_line (NoBytes why) of rejected_text n (line ∷ later_lines) (is, (stops, h)) = record {
    line = line;
    later_lines = later_lines;
    parts = refl;
    stops = stops;
    reason = subst (IsRejectedLineIn o task (NoBytes why)) is h;
  }
  at_line (NotCanonical column) of rejected_text n [] h = absurd h
  at_line (NotCanonical column) of rejected_text n (line ∷ later_lines) (is, (stops, h)) = record {
    line = line;
    later_lines = later_lines;
    parts = refl;
    stops = stops;
    reason = subst (IsRejectedLineIn o task (NotCanonical column)) is h;
  }
  at_line CannotRead of rejected_text n all h = absurd of
  at_line OutOfMemory of rejected_text n all h = absurd of
  at_line CannotWrite of rejected_text n all h = absurd of

  abbrev Inside : List ℕ → (output_before output_after diagnostics_before diagnostics_after : Option (List ℕ)) → Error → ℕ → Type 0
  Inside all output_before output_after diagnostics_before diagnostics_after fault number = (output : List ℕ) × (diagnostics : List ℕ)
      × StopsInsideInput o task on_refusal (lines all) output diagnostics fault number
      × (WritesText task.output → IsUtf8 output) × IsUtf8 diagnostics × Appends output_before output_after output × Appends diagnostics_before diagnostics_after diagnostics

  inside : (all : List ℕ) (after output_before output_after diagnostics_before diagnostics_after : Option (List ℕ)) (fault : Error) (number : ℕ) (rejected_text : List ℕ)
      → IsErrorOfText fault
      → RunStopsAtLine o (IsStoppedAtNextLine o task on_refusal fault rejected_text) task on_refusal (Some all) after output_before output_after diagnostics_before diagnostics_after number
      → Inside all output_before output_after diagnostics_before diagnostics_after fault number
  inside all after output_before output_after diagnostics_before diagnostics_after fault number rejected_text of h =
      let at = at_line fault of rejected_text (length h.done_lines) h.later_lines h.reason in
      let whole = given_all all h.reaches.bytes after h.reaches.given in
      let stopped : StopsInsideInput o task on_refusal (lines all) h.output h.diagnostics fault number = record {
        done_lines = h.done_lines;
        line = at.line;
        later_lines = at.later_lines;
        refused = h.reaches.refused;
        parts = ap lines whole ∙ h.reaches.whole ∙ ap (λ l. h.done_lines ++ l) at.parts;
        outcomes = h.reaches.outcomes.outcomes;
        counted = h.counted;
        stops = at.stops;
        reason = at.reason;
      } in
      (h.output, h.diagnostics, stopped, h.reaches.outcomes.utf8, h.reaches.outcomes.diagnostic_utf8, h.written.0, h.written.1)

  pub stops_inside : (all : List ℕ) (after output_before output_after diagnostics_before diagnostics_after : Option (List ℕ)) (fault : Error) (number : ℕ)
      (rejected_text : List ℕ) → RunFailsAtLine o fault task on_refusal (Some all) after output_before output_after diagnostics_before diagnostics_after number rejected_text
      → IsErrorOfText fault → Inside all output_before output_after diagnostics_before diagnostics_after fault number
  stops_inside all after output_before output_after diagnostics_before diagnostics_after NotJson number rejected_text h of =
      inside all after output_before output_after diagnostics_before diagnostics_after NotJson number rejected_text of h
  stops_inside all after output_before output_after diagnostics_before diagnostics_after (NotExtendedJson place) number rejected_text h of =
      inside all after output_before output_after diagnostics_before diagnostics_after (NotExtendedJson place) number rejected_text of h
  stops_inside all after output_before output_after diagnostics_before diagnostics_after (NoBytes why) number rejected_text h of =
      inside all after output_before output_after diagnostics_before diagnostics_after (NoBytes why) number rejected_text of h
  stops_inside all after output_before output_after diagnostics_before diagnostics_after (NotCanonical column) number rejected_text h of =
      inside all after output_before output_after diagnostics_before diagnostics_after (NotCanonical column) number rejected_text of h
  stops_inside all after output_before output_after diagnostics_before diagnostics_after CannotRead number rejected_text h of = absurd of
  stops_inside all after output_before output_after diagnostics_before diagnostics_after OutOfMemory number rejected_text h of = absurd of
  stops_inside all after output_before output_after diagnostics_before diagnostics_after CannotWrite number rejected_text h of = absurd of
