-- A run ends at a document only if that one can't be written, and is not passed over.
use Rattle.std.proofs.Common.{◌≡◌, ℕ, List, [], ◌++◌, length, take, Option, None, Some, Ok, refl, sym, ap, subst, ◌∙◌}
use Rattle.std.proofs.Common.{◌≢◌, ◌⊎◌, inl, inr, append_assoc}
use Rattle.std.proofs.lemmas.List.{take_at}
use Rattle.std.specs.Io.KnownBytes.{Consumes}
use Rattle.bson_model.specs.Value.{Pairs}
use Rattle.bson_bytes.proofs.Offered.{is_read}
use Rattle.bson_bytes.specs.ReadDocuments.{IsReadAsDocumentIn}
use Rattle.bson_bytes.specs.Reading.{reads_bytes_in}
use Rattle.bson_bytes.specs.declared.fault.FaultKind.{FaultKind}
use Rattle.bson_model.specs.declared.options.DuplicateKeys.{DuplicateKeys}
use Rattle.bson_codec.proofs.Streams.{front_none, front_read}
use Rattle.bson_codec.specs.DumpRuns.{EndsAt, IsEndReason, IsRejectedWithFault, IsJustifiedEnd, IsFaultOfDocument, IsSkipped, HasNoTextInForm}
use Rattle.bson_codec.specs.DumpRuns.{ConsumesPrefix}
use Rattle.bson_codec.specs.ReadErrors.{IsFaultAtOffset}
use Rattle.bson_codec.specs.Streams.{declared_prefix}
use Rattle.bson_codec.specs.declared.documents.Run.{Run}
use Rattle.bson_codec.specs.declared.run_end.RunFault.{RunFault}
use Rattle.bson_codec.specs.declared.run_end.RunFault.TheVariants.{Malformed, FiniteDouble, CannotRead, CannotWrite}
use Rattle.bson_codec.specs.declared.run_end.RunFault.TheVariants.{OutOfMemory}

-- the documents that bytes are read as are one
pub read_one : (keys : DuplicateKeys) (d : ℕ) (bytes : List ℕ) (ps qs : Pairs) → IsReadAsDocumentIn keys d bytes ps
    → IsReadAsDocumentIn keys d bytes qs → ps ≡ qs
read_one keys d bytes ps qs h k =
    let a : reads_bytes_in keys d bytes ≡ Ok ps = is_read keys d bytes ps h in
    let b : reads_bytes_in keys d bytes ≡ Ok qs = is_read keys d bytes qs k in cc

-- a document has no fault
pub faultless : (k : FaultKind) (n : ℕ) (keys : DuplicateKeys) (d : ℕ) (bytes : List ℕ) (ps : Pairs)
    → IsReadAsDocumentIn keys d bytes ps → IsFaultAtOffset k n bytes (reads_bytes_in keys d bytes) → ⊥
faultless k n keys d bytes ps h (f, e, w, l) =
    let o : reads_bytes_in keys d bytes ≡ Ok ps = is_read keys d bytes ps h in absurd cc

-- a document of which nothing can be written has no text
pub no_line : (fault : RunFault) (run : Run) (bytes : List ℕ) (ps : Pairs) → IsRejectedWithFault fault run bytes
    → IsReadAsDocumentIn run.duplicate_keys run.depth bytes ps → HasNoTextInForm run.options run.line ps
no_line (Malformed k n) run bytes ps h read = absurd (faultless k n run.duplicate_keys run.depth bytes ps read h)
no_line FiniteDouble run bytes ps h read =
    subst (HasNoTextInForm run.options run.line) (read_one run.duplicate_keys run.depth bytes h.0 ps h.1 read) h.2
no_line CannotRead run bytes ps h read = absurd h
no_line CannotWrite run bytes ps h read = absurd h
no_line OutOfMemory run bytes ps h read = absurd h

-- how a run ended for a fault of bytes
pub record Ended (fault : RunFault) (run : Run) (before : Option (List ℕ)) (done bytes_read more partial_report : List ℕ) : Type 0 where
  pub bad : IsRejectedWithFault fault run bytes_read
  pub last : IsSkipped run bytes_read → ⊥
  pub no_more : more ≡ []
  pub unsaid : partial_report ≡ []
  pub some : bytes_read ≢ []
  pub front : (rest : List ℕ) → before ≡ Some (done ++ rest) → bytes_read ≡ declared_prefix rest

pub ended : (fault : RunFault) (run : Run) (number start : ℕ) (before : Option (List ℕ)) (done bytes_read more partial_report : List ℕ)
    → IsFaultOfDocument fault → IsEndReason fault run number start bytes_read more partial_report → ConsumesPrefix fault before done bytes_read
    → Ended fault run before done bytes_read more partial_report
ended (Malformed k n) run number start before done bytes_read more partial_report is h f =
    record { bad = h.0; last = h.1; no_more = h.2; unsaid = h.3; some = f.0; front = f.1 }
ended FiniteDouble run number start before done bytes_read more partial_report is h f =
    record { bad = h.0; last = h.1; no_more = h.2; unsaid = h.3; some = f.0; front = f.1 }
ended CannotRead run number start before done bytes_read more partial_report is h f = absurd is
ended CannotWrite run number start before done bytes_read more partial_report is h f = absurd is
ended OutOfMemory run number start before done bytes_read more partial_report is h f = absurd is

-- the bytes of a reader, and their beginning
same_front : (a b c d : List ℕ) → a ++ b ≡ c ++ d → length a ≡ length c → a ≡ c
same_front a b c d e l = sym (take_at a b (length a) refl) ∙ ap (take (length a)) e ∙ take_at c d (length a) (sym l)

justified_by : (run : Run) (before after : Option (List ℕ)) (fault : RunFault) (number start : ℕ)
    (own bytes_read more partial_report : List ℕ) → Consumes before after (own ++ bytes_read) → start ≡ length own
    → IsEndReason fault run number start bytes_read more partial_report → ConsumesPrefix fault before own bytes_read
    → IsJustifiedEnd run before fault start
justified_by run None after fault number start own bytes_read more partial_report consumed_bytes place reason front = λ done rest known at is.
    absurd cc
justified_by run (Some all) None fault number start own bytes_read more partial_report consumed_bytes place reason front =
    λ done rest known at is. absurd consumed_bytes
justified_by run (Some all) (Some left) fault number start own bytes_read more partial_report consumed_bytes place reason front =
    λ done rest known at is.
    let e = ended fault run number start (Some all) own bytes_read more partial_report is reason front in
    let whole : done ++ rest ≡ own ++ (bytes_read ++ left) =
    let i : all ≡ done ++ rest = cc in sym i ∙ consumed_bytes ∙ append_assoc own bytes_read left in
    let same : done ≡ own = same_front done rest own (bytes_read ++ left) whole (at ∙ place) in
    let first : bytes_read ≡ declared_prefix rest =
    e.front rest (subst (λ (d : List ℕ). Some all ≡ Some (d ++ rest)) same known) in (
      λ none. e.some (first ∙ ap declared_prefix none ∙ front_none),
      λ ps more f. no_line fault run bytes_read ps e.bad
          (subst (λ (b : List ℕ). IsReadAsDocumentIn run.duplicate_keys run.depth b ps) (sym first)
          (front_read run.duplicate_keys run.depth rest ps more f)),
      λ over. e.last (subst (IsSkipped run) (sym first) over),
    )

pub justified : {run : Run} {before after output_before output_after diagnostics_before diagnostics_after : Option (List ℕ)} {fault : RunFault}
    {number refused start : ℕ} → EndsAt run before after output_before output_after diagnostics_before diagnostics_after fault number refused start
    → IsJustifiedEnd run before fault start
justified {run = run} {before = before} {after = after} {fault = fault} {number = number} {start = start} h =
    justified_by run before after fault number start h.converted_bytes h.bytes_read h.partial_line h.partial_diagnostic h.consumed_bytes h.offset_is_length h.reason h.front

-- an end without a document
pub unread_justified : (run : Run) (before : Option (List ℕ)) (fault : RunFault) (start : ℕ)
    → (fault ≡ CannotRead) ⊎ (fault ≡ OutOfMemory) → IsJustifiedEnd run before fault start
unread_justified run before fault start (inl e) = λ done rest known at is. absurd (subst IsFaultOfDocument e is)
unread_justified run before fault start (inr e) = λ done rest known at is. absurd (subst IsFaultOfDocument e is)
