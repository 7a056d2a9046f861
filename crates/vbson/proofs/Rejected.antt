-- The first line of a block that is rejected.
use Rattle.std.proofs.Common.{◌≡◌, ℕ, List, [], ◌∷◌, ◌++◌, true, Option, None, Some, ap, length, refl, subst, ◌∙◌}
use Rattle.std.specs.Io.KnownBytes.{Consumes}
use Rattle.bson_model.specs.declared.options.Options.{Options}
use Rattle.bson_convert.specs.declared.error.Error.{Error}
use Rattle.bson_convert.specs.declared.error.Error.TheVariants.{CannotRead, NotJson, NotExtendedJson, NoBytes, OutOfMemory}
use Rattle.bson_convert.specs.declared.error.Error.TheVariants.{CannotWrite, NotCanonical}
use Rattle.bson_run.specs.Lines.{RunEndsAtLine, RunFailsAtLine, IsRejectedLineIn, IsStoppedAtNextLine, WritesBoth, remaining_bytes, lines, line_text}
use Rattle.bson_run.specs.declared.task.OnRefusal.TheVariants.{Stop}
use Rattle.bson_run.specs.declared.task.Task.{Task}
use Rattle.vbson.specs.Lines.{IsFirstRejected, is_rejection}

-- what was read and what is left are the block
whole_block : (block bytes : List ℕ) (after : Option (List ℕ)) → Consumes (Some block) after bytes
    → block ≡ bytes ++ remaining_bytes after
whole_block block bytes None h = absurd h
whole_block block bytes (Some rest) h = h

-- there is a line after so many, and it is rejected
rejected_next : (o : Options) (task : Task) (fault : Error) (held : List ℕ) (before : ℕ) (others : List (List ℕ))
    → is_rejection fault ≡ true → IsStoppedAtNextLine o task Stop fault held before others
    → (line : List ℕ) × (rest : List (List ℕ)) × (others ≡ line ∷ rest) × IsRejectedLineIn o task fault (line_text before line)
rejected_next o task CannotRead held before others is h = absurd cc
rejected_next o task CannotWrite held before others is h = absurd cc
rejected_next o task OutOfMemory held before others is h = absurd cc
rejected_next o task NotJson held before [] is h = absurd h
rejected_next o task NotJson held before (line ∷ rest) is h =
    (line, rest, refl, subst (IsRejectedLineIn o task NotJson) h.0 h.1.1)
rejected_next o task (NotExtendedJson place) held before [] is h = absurd h
rejected_next o task (NotExtendedJson place) held before (line ∷ rest) is h =
    (line, rest, refl, subst (IsRejectedLineIn o task (NotExtendedJson place)) h.0 h.1.1)
rejected_next o task (NoBytes why) held before [] is h = absurd h
rejected_next o task (NoBytes why) held before (line ∷ rest) is h =
    (line, rest, refl, subst (IsRejectedLineIn o task (NoBytes why)) h.0 h.1.1)
rejected_next o task (NotCanonical column) held before [] is h = absurd h
rejected_next o task (NotCanonical column) held before (line ∷ rest) is h =
    (line, rest, refl, subst (IsRejectedLineIn o task (NotCanonical column)) h.0 h.1.1)

-- a run that stopped at a rejected line
stopped : (o : Options) (task : Task) (block : List ℕ) (after output_before output_after diagnostics_before diagnostics_after : Option (List ℕ)) (fault : Error)
    (number : ℕ) (held : List ℕ) → is_rejection fault ≡ true
    → RunEndsAtLine o WritesBoth (IsStoppedAtNextLine o task Stop fault held) task Stop (Some block) after output_before output_after diagnostics_before diagnostics_after number
    → IsFirstRejected o task block number
stopped o task block after output_before output_after diagnostics_before diagnostics_after fault number held is h =
    let next = rejected_next o task fault held (length h.done_lines) h.later_lines is h.reason in
    record {
      lines_before = h.done_lines;
      line = next.0;
      lines_after = next.1;
      fault = fault;
      whole = ap lines (whole_block block h.reaches.bytes after h.reaches.given) ∙ h.reaches.whole
          ∙ ap (λ others. h.done_lines ++ others) next.2;
      counted = h.counted;
      accepted = record {
        output = h.output;
        all_diagnostics = h.diagnostics;
        refused = h.reaches.refused;
        outcomes = h.reaches.outcomes;
      };
      rejected = next.3;
    }

-- a run that fails for a rejected line stopped at it
pub first : (o : Options) (task : Task) (block : List ℕ) (after output_before output_after diagnostics_before diagnostics_after : Option (List ℕ)) (fault : Error)
    (number : ℕ) (held : List ℕ) → is_rejection fault ≡ true
    → RunFailsAtLine o fault task Stop (Some block) after output_before output_after diagnostics_before diagnostics_after number held
    → IsFirstRejected o task block number
first o task block after output_before output_after diagnostics_before diagnostics_after CannotRead number held is h = absurd cc
first o task block after output_before output_after diagnostics_before diagnostics_after CannotWrite number held is h = absurd cc
first o task block after output_before output_after diagnostics_before diagnostics_after OutOfMemory number held is h = absurd cc
first o task block after output_before output_after diagnostics_before diagnostics_after NotJson number held is h =
    stopped o task block after output_before output_after diagnostics_before diagnostics_after NotJson number held is h
first o task block after output_before output_after diagnostics_before diagnostics_after (NotExtendedJson place) number held is h =
    stopped o task block after output_before output_after diagnostics_before diagnostics_after (NotExtendedJson place) number held is h
first o task block after output_before output_after diagnostics_before diagnostics_after (NoBytes why) number held is h =
    stopped o task block after output_before output_after diagnostics_before diagnostics_after (NoBytes why) number held is h
first o task block after output_before output_after diagnostics_before diagnostics_after (NotCanonical column) number held is h =
    stopped o task block after output_before output_after diagnostics_before diagnostics_after (NotCanonical column) number held is h
