-- A block of concatenated documents.
use Rattle.std.specs.Prelude.{◌≡◌, ◌⊎◌, ℕ, IsUtf8, List, ◌++◌, Some, length, true}
use Rattle.bson_model.specs.declared.options.DuplicateKeys.{DuplicateKeys}
use Rattle.bson_model.specs.declared.options.Options.{Options}
use Rattle.bson_codec.specs.DumpRuns.{Dump, EndsInside, IsFaultOfDocument}
use Rattle.bson_codec.specs.Diagnostics.{diagnostic_of}
use Rattle.bson_codec.specs.declared.diagnostic.DiagnosticFormat.TheVariants as format
use Rattle.bson_codec.specs.declared.documents.Line.{Line}
use Rattle.bson_codec.specs.declared.documents.Line.TheVariants.{Text, Shown}
use Rattle.bson_codec.specs.declared.documents.Run.{Run}
use Rattle.bson_codec.specs.declared.run_end.RunEnd.{RunEnd}
use Rattle.bson_codec.specs.declared.run_end.RunFault.{RunFault}
use Rattle.bson_convert.specs.declared.mode.Mode.{Mode}
use Rattle.bson_convert.specs.declared.mode.Mode.TheVariants.{Canonical, Relaxed, Show}
use Rattle.bson.specs.Form.TheVariants as form
use Rattle.vbson.specs.Convert.{duplicate_keys_of, mode_of_number, options_of_call}
use Rattle.vbson.specs.Documents.{depth}
use Rattle.vbson.specs.Text.{IsOwnedText}
use Rattle.vbson.specs.declared.dump.Documents as dump_result
use Rattle.vbson.specs.declared.options.CallOptions.{CallOptions}

-- the kind of line that is written for each document; the mode Show always uses the document's own order
abbrev pub dump_line_format : Mode → Line
dump_line_format Canonical = Text form.Canonical
dump_line_format Relaxed = Text form.Relaxed
dump_line_format Show = Shown

-- a rejected document adds a diagnostic, and the run continues
abbrev pub dump_run_of_mode : DuplicateKeys → Options → Mode → Run
dump_run_of_mode keys options mode = record {
  depth = depth;
  duplicate_keys = keys;
  options = options;
  line = dump_line_format mode;
  keep_going = true;
  diagnostics = format.Text;
}

-- the whole block consists of so many documents, with this output and these diagnostics
pub record IsWholeDump (run : Run) (block output all_diagnostics : List ℕ)
    (document_count consumed_bytes : ℕ) : Type 0 where
  pub refused : ℕ
  pub documents : Dump run block output all_diagnostics document_count refused
  pub whole : consumed_bytes ≡ length block

-- the documents before the last have this output. The block ends inside the last one, and the last diagnostic names the
-- fault of its bytes
pub record IsTruncatedDump (run : Run) (block output all_diagnostics : List ℕ)
    (document_count consumed_bytes : ℕ) : Type 0 where
  pub diagnostics : List ℕ
  pub refused : ℕ
  pub fault : RunFault
  pub is_truncated : EndsInside run block output diagnostics fault document_count refused consumed_bytes
  pub last_diagnostic : all_diagnostics ≡ diagnostics ++ diagnostic_of format.Text document_count consumed_bytes fault

abbrev pub IsOutputOfDocuments : Run → (block output all_diagnostics : List ℕ) → (document_count consumed_bytes : ℕ)
    → Type 0
IsOutputOfDocuments run block output all_diagnostics document_count consumed_bytes =
    IsWholeDump run block output all_diagnostics document_count consumed_bytes
    ⊎ IsTruncatedDump run block output all_diagnostics document_count consumed_bytes

-- the struct has the output and the diagnostics of the documents in the mode that was selected, both UTF-8, and their
-- counts
pub record DocumentsAreDecoded (options : CallOptions) (mode_number : ℕ) (block : List ℕ)
    (decoded_documents : dump_result.Documents) : Type 0 where
  pub mode : Mode
  pub mode_selected : mode_of_number mode_number ≡ Some mode
  pub text : List ℕ
  pub diagnostics : List ℕ
  pub is_output : IsOutputOfDocuments (dump_run_of_mode (duplicate_keys_of options) (options_of_call options) mode) block
      text diagnostics decoded_documents.documents decoded_documents.consumed
  pub utf8 : IsUtf8 text
  pub diagnostic_utf8 : IsUtf8 diagnostics
  pub is_text : IsOwnedText text decoded_documents.text
  pub are_diagnostics : IsOwnedText diagnostics decoded_documents.diagnostics

-- ---- for private clauses

-- the diagnostics, followed by that of the last document
abbrev pub AddsLastDiagnostic : RunEnd → (diagnostics all_diagnostics : List ℕ) → Type 0
AddsLastDiagnostic run_end diagnostics all_diagnostics = IsFaultOfDocument run_end.fault
    × (all_diagnostics ≡ diagnostics ++ diagnostic_of format.Text run_end.number run_end.start run_end.fault)
