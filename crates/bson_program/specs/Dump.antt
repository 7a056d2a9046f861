-- A run over the documents of a file.
use Rattle.std.specs.Prelude.{◌≡◌, ◌⊎◌, ◌+◌, ℕ, List, Option, true}
use Rattle.std.specs.Io.KnownBytes.{Appends}
use Rattle.bson_codec.specs.DumpRuns.{CompletedRun, EndsAt, IsFaultOfDocument}
use Rattle.bson_codec.specs.Diagnostics.{diagnostic_of}
use Rattle.bson_codec.specs.declared.documents.Run.{Run}
use Rattle.bson_codec.specs.declared.run_end.RunFault.{RunFault}

-- the run ended at a document for an error of its bytes, whose diagnostic follows the others; so many documents were
-- rejected, this one too
pub record EndsAtRejectedDocument (run : Run)
    (before after output_before output_after diagnostics_before diagnostics_after : Option (List ℕ))
    (documents refused : ℕ)
    : Type 0 where
  pub fault : RunFault
  pub refused_before : ℕ
  pub document_offset : ℕ
  pub diagnostics_between : Option (List ℕ)
  pub keeps_going : run.keep_going ≡ true
  pub is_document_fault : IsFaultOfDocument fault
  pub ends_at : EndsAt run before after output_before output_after diagnostics_before diagnostics_between fault documents refused_before document_offset
  pub reports_appended : Appends diagnostics_between diagnostics_after (diagnostic_of run.diagnostics documents document_offset fault)
  pub counts_this_document : refused ≡ refused_before + 1

-- all documents were done; or a run that keeps going ended at one
abbrev pub IsDoneDump : Run
    → (before after output_before output_after diagnostics_before diagnostics_after : Option (List ℕ))
    → (documents refused : ℕ) → Type 0
IsDoneDump run before after output_before output_after diagnostics_before diagnostics_after documents refused =
    CompletedRun run before after output_before output_after diagnostics_before diagnostics_after documents refused
    ⊎ EndsAtRejectedDocument run before after output_before output_after diagnostics_before diagnostics_after documents refused
