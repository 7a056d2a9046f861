-- A run that ended for a fault of known bytes ended inside them.
use Rattle.std.proofs.Common.{◌≡◌, ℕ, List, [], ◌++◌, Option, None, Some, sym, ap, subst, ◌∙◌, append_assoc}
use Rattle.std.proofs.lemmas.List.{append-nil}
use Rattle.std.specs.Io.KnownBytes.{Appends, Consumes}
use Rattle.bson_codec.proofs.Justified.{ended}
use Rattle.bson_codec.proofs.Streams.{front_none}
use Rattle.bson_codec.specs.DumpRuns.{EndsAt, EndsInside, IsRejectedWithFault, IsFaultOfDocument, IsSkipped}
use Rattle.bson_codec.specs.Streams.{declared_prefix}
use Rattle.bson_codec.specs.declared.documents.Run.{Run}
use Rattle.bson_codec.specs.declared.run_end.RunFault.{RunFault}

-- what follows the documents that were done
record Behind (all done bytes_read : List ℕ) : Type 0 where
  rest : List ℕ
  parts : all ≡ done ++ rest

following : (all done bytes_read : List ℕ) (after : Option (List ℕ)) → Consumes (Some all) after (done ++ bytes_read)
    → Behind all done bytes_read
following all done bytes_read None h = absurd h
following all done bytes_read (Some left) h = record { rest = bytes_read ++ left; parts = h ∙ append_assoc done bytes_read left }

kept : (output_before output_after : Option (List ℕ)) (output more : List ℕ) → more ≡ [] → Appends output_before output_after (output ++ more)
    → Appends output_before output_after output
kept output_before output_after output more e h =
    subst (Appends output_before output_after) (ap (λ (x : List ℕ). output ++ x) e ∙ append-nil output) h

pub ends_inside : (run : Run) (all : List ℕ) (after output_before output_after diagnostics_before diagnostics_after : Option (List ℕ)) (fault : RunFault)
    (number refused start : ℕ) → EndsAt run (Some all) after output_before output_after diagnostics_before diagnostics_after fault number refused start
    → IsFaultOfDocument fault
    → (output : List ℕ) × (diagnostic_lines : List ℕ) × EndsInside run all output diagnostic_lines fault number refused start
    × Appends output_before output_after output × Appends diagnostics_before diagnostics_after diagnostic_lines
ends_inside run all after output_before output_after diagnostics_before diagnostics_after fault number refused start h is =
    let e = ended fault run number start (Some all) h.converted_bytes h.bytes_read h.partial_line h.partial_diagnostic is h.reason h.front in
    let b = following all h.converted_bytes h.bytes_read after h.consumed_bytes in
    let known : Some all ≡ Some (h.converted_bytes ++ b.rest) = ap (λ (x : List ℕ). Some x) b.parts in
    let first : h.bytes_read ≡ declared_prefix b.rest = e.front b.rest known in
    let inside : EndsInside run all h.output h.diagnostic_lines fault number refused start = record {
      converted_bytes = h.converted_bytes;
      rest = b.rest;
      earlier_documents = h.earlier_documents;
      input_is_split = b.parts;
      documents = h.documents;
      counted = h.counted;
      offset_is_length = h.offset_is_length;
      rest_is_not_empty = λ none. e.some (first ∙ ap declared_prefix none ∙ front_none);
      reason = subst (IsRejectedWithFault fault run) first e.bad;
      not_skipped = λ over. e.last (subst (IsSkipped run) (sym first) over);
    } in
    (h.output, h.diagnostic_lines, inside, kept output_before output_after h.output h.partial_line e.no_more h.written, kept diagnostics_before diagnostics_after h.diagnostic_lines h.partial_diagnostic e.unsaid h.reports_appended)
