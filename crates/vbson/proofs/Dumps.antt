-- What a run over the documents of a block gave.
use Rattle.std.proofs.Common.{◌≡◌, ◌-◌, inl, inr, ℕ, IsUtf8, List, [], ◌++◌, Option, Some, arith, length, length-append}
use Rattle.std.proofs.Common.{take, sym, ap, subst, ◌∙◌}
use Rattle.std.proofs.lemmas.List.{take_at}
use Rattle.std.proofs.lemmas.Str.{IsUtf8-append}
use Rattle.bson_codec.proofs.Offered.{dump_utf8, ends_inside, diagnostic_utf8}
use Rattle.bson_codec.specs.DumpRuns.{EndsAt, EndsInside, IsFaultOfDocument}
use Rattle.bson_codec.specs.Diagnostics.{diagnostic_of}
use Rattle.bson_codec.specs.declared.diagnostic.DiagnosticFormat.TheVariants as format
use Rattle.bson_codec.specs.declared.documents.Run.{Run}
use Rattle.bson_codec.specs.declared.run_end.RunFault.{RunFault}
use Rattle.bson_convert.specs.Convert.{newline}
use Rattle.vbson.specs.Dumps.{IsOutputOfDocuments}
use Rattle.vbson.specs.Text.{IsOwnedText}
use Rattle.vbson.specs.declared.text.Text.{Text}

-- a writer that was empty contains what was written
wrote : (output_before output_after output : List ℕ) → output_after ≡ output_before ++ output → output_before ≡ [] → output ≡ output_after
wrote output_before output_after output is none = sym (is ∙ ap (λ x. x ++ output) none)

-- the run ended at a document, for a fault of its bytes, which the last diagnostic names
pub cut_block : (run : Run) (block output_before output held diagnostics all : List ℕ) (after : Option (List ℕ)) (fault : RunFault)
    (number refused start : ℕ)
    → EndsAt run (Some block) after (Some output_before) (Some output) (Some held) (Some diagnostics) fault number refused start
    → output_before ≡ [] → held ≡ [] → IsFaultOfDocument fault → all ≡ diagnostics ++ diagnostic_of format.Text number start fault
    → IsOutputOfDocuments run block output all number start
cut_block run block output_before output held diagnostics all after fault number refused start h none also is last_diagnostic =
    let (out, diagnostics_after, inside, written, reports_appended) =
    ends_inside run block after (Some output_before) (Some output) (Some held) (Some diagnostics) fault number refused start h is in
    inr (record {
      diagnostics = diagnostics;
      refused = refused;
      fault = fault;
      is_truncated = subst (λ x. EndsInside run block x diagnostics fault number refused start) (wrote output_before output out written none)
          (subst (λ x. EndsInside run block out x fault number refused start) (wrote held diagnostics diagnostics_after reports_appended also) inside);
      last_diagnostic = last_diagnostic;
    })

-- what a block gives is UTF-8
pub gives_utf8 : (run : Run) (block output all_diagnostics : List ℕ) (count consumed : ℕ)
    → IsOutputOfDocuments run block output all_diagnostics count consumed → IsUtf8 output × IsUtf8 all_diagnostics
gives_utf8 run block output all_diagnostics count consumed (inl all) = dump_utf8 all.documents
gives_utf8 run block output all_diagnostics count consumed (inr it) =
    let before = dump_utf8 it.is_truncated.documents in
    let diagnostics_before = diagnostic_utf8 format.Text count consumed it.fault in
    (before.0, subst IsUtf8 (sym it.last_diagnostic) (IsUtf8-append it.diagnostics _ before.1 diagnostics_before))

-- the text of a line
pub of_line : (text line : List ℕ) (out : Text) → line ≡ text ++ newline → IsOwnedText (take (length line - 1) line) out
    → IsOwnedText text out
of_line text line out is left =
    let n = length line - 1 in
    let all : length line ≡ length (text ++ newline) = ap length is in
    let first = take_at text newline n (omega (arith, all, length-append text newline)) in
    subst (λ t. IsOwnedText t out) (ap (take n) is ∙ first) left
