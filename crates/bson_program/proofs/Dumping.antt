-- The outcome of a run over the documents of a file, once the last block was written.
use Rattle.std.proofs.Common.{◌≡◌, inr, ℕ, ◌+◌, List, [], ◌++◌, Option, None, Some, Result, Ok, Err, IfOk, true}
use Rattle.std.proofs.Common.{refl, sym, ap, subst, ◌∙◌}
use Rattle.std.proofs.lemmas.List.{append-nil}
use Rattle.std.specs.Io.KnownBytes.{Appends, Keeps, append_known}
use Rattle.bson_codec.specs.DumpRuns.{EndsAt, IsFaultOfDocument}
use Rattle.bson_codec.specs.Diagnostics.{diagnostic_of}
use Rattle.bson_codec.specs.declared.documents.Run.{Run}
use Rattle.bson_codec.specs.declared.run_end.RunFault.{RunFault}
use Rattle.bson_program.specs.Dump.{IsDoneDump}

pub on_ok : {X E : Type 0} (r : Result X E) (P Q : X → Type 0) → ((x : X) → P x → Q x) → IfOk r P → IfOk r Q
on_ok (Ok x) P Q f h = f x h
on_ok (Err e) P Q f h = tt

-- the contents of a writer whose buffer is empty
flat : (known : Option (List ℕ)) (buffer : List ℕ) → buffer ≡ [] → append_known known buffer ≡ known
flat None buffer e = refl
flat (Some xs) buffer e = ap (λ (b : List ℕ). Some (xs ++ b)) e ∙ ap (λ (b : List ℕ). Some b) (append-nil xs)

kept : (a b c : Option (List ℕ)) (bytes : List ℕ) → Appends a b bytes → Keeps b c → Appends a c bytes
kept None b c bytes p q = tt
kept (Some x) None c bytes p q = absurd p
kept (Some x) (Some y) None bytes p q = absurd q
kept (Some x) (Some y) (Some z) bytes p q = q ∙ p

flushed : (output_before mid output_after : Option (List ℕ)) (first last bytes : List ℕ) → first ≡ [] → last ≡ []
    → Appends (append_known output_before first) mid bytes → Keeps mid (append_known output_after last) → Appends output_before output_after bytes
flushed output_before mid output_after first last bytes e f h k =
    subst (λ (x : Option (List ℕ)). Appends x output_after bytes) (flat output_before first e)
    (subst (λ (x : Option (List ℕ)). Appends (append_known output_before first) x bytes) (flat output_after last f)
    (kept (append_known output_before first) mid (append_known output_after last) bytes h k))

-- the end at a document of a run that keeps going
pub cut_dump : (run : Run) (before after output_before mid output_after diagnostics_before diagnostics_between diagnostics_after : Option (List ℕ)) (first last : List ℕ)
    (fault : RunFault) (number refused_before document_offset documents refused : ℕ)
    → EndsAt run before after (append_known output_before first) mid diagnostics_before diagnostics_between fault number refused_before document_offset → first ≡ [] → last ≡ []
    → Keeps mid (append_known output_after last) → run.keep_going ≡ true → IsFaultOfDocument fault
    → Appends diagnostics_between diagnostics_after (diagnostic_of run.diagnostics number document_offset fault) → documents ≡ number → refused ≡ refused_before + 1
    → IsDoneDump run before after output_before output_after diagnostics_before diagnostics_after documents refused
cut_dump run before after output_before mid output_after diagnostics_before diagnostics_between diagnostics_after first last fault number refused_before document_offset documents refused h e f k going is reports_appended same counted =
    let ended : EndsAt run before after output_before output_after diagnostics_before diagnostics_between fault number refused_before document_offset = record {
      converted_bytes = h.converted_bytes;
      bytes_read = h.bytes_read;
      output = h.output;
      partial_line = h.partial_line;
      diagnostic_lines = h.diagnostic_lines;
      partial_diagnostic = h.partial_diagnostic;
      earlier_documents = h.earlier_documents;
      consumed_bytes = h.consumed_bytes;
      front = h.front;
      documents = h.documents;
      counted = h.counted;
      offset_is_length = h.offset_is_length;
      reason = h.reason;
      written = flushed output_before mid output_after first last (h.output ++ h.partial_line) e f h.written k;
      reports_appended = h.reports_appended;
    } in
    subst (λ (n : ℕ). IsDoneDump run before after output_before output_after diagnostics_before diagnostics_after n refused) (sym same)
    (inr (record {
      fault = fault;
      refused_before = refused_before;
      document_offset = document_offset;
      diagnostics_between = diagnostics_between;
      keeps_going = going;
      is_document_fault = is;
      ends_at = ended;
      reports_appended = reports_appended;
      counts_this_document = counted;
    }))
