-- What a run over documents does: its input is concatenated documents.
use Rattle.std.specs.Prelude.{◌≡◌, ◌≢◌, ◌⊎◌, ◌+◌, ℕ, List, [], ◌++◌, true, false, IsUtf8, Option, Some, Ok, length}
use Rattle.std.specs.Io.{StartsWith}
use Rattle.std.specs.Io.KnownBytes.{Appends, Consumes, IsAtEnd, Keeps}
use Rattle.bson_model.specs.declared.options.Options.{Options}
use Rattle.bson_scalar.specs.Forms.{form_in}
use Rattle.bson.specs.Texts.{IsTextInKeyOrder}
use Rattle.bson_model.specs.Displayed.{display_text}
use Rattle.bson_model.specs.Normal.{writable_in}
use Rattle.bson_model.specs.Value.{Pairs, document}
use Rattle.bson_bytes.specs.ReadDocuments.{IsReadAsDocumentIn, IsFirstDocumentIn}
use Rattle.bson_bytes.specs.Reading.{reads_bytes_in, read_length}
use Rattle.bson_codec.specs.ReadErrors.{IsFaultAtOffset}
use Rattle.bson_codec.specs.Streams.{declared_prefix}
use Rattle.bson_codec.specs.Diagnostics.{line_feed, diagnostic_of}
use Rattle.bson_codec.specs.declared.de.Error.{Error}
use Rattle.bson_codec.specs.declared.de.Error.TheVariants as errors
use Rattle.bson_codec.specs.declared.diagnostic.DiagnosticFormat.{DiagnosticFormat}
use Rattle.bson_codec.specs.declared.documents.Line.{Line}
use Rattle.bson_codec.specs.declared.documents.Line.TheVariants.{Text, Shown, Nothing}
use Rattle.bson_codec.specs.declared.documents.Run.{Run}
use Rattle.bson_codec.specs.declared.run_end.RunFault.{RunFault}
use Rattle.bson_codec.specs.declared.run_end.RunFault.TheVariants.{Malformed, FiniteDouble, CannotRead, CannotWrite}
use Rattle.bson_codec.specs.declared.run_end.RunFault.TheVariants.{OutOfMemory}

-- ---- a document

-- what is written of the document: the text of one that has a text, and a newline; or nothing
abbrev pub WritesLine : (write_options : Options) → Line → Pairs → (line : List ℕ) → Type 0
WritesLine write_options (Text form) pairs line = (writable_in write_options.doubles (document pairs) ≡ true)
    × ((text : List ℕ)
    × IsTextInKeyOrder write_options.key_order write_options.doubles (form_in write_options.layout form)
    (document pairs) text × (line ≡ text ++ line_feed))
WritesLine write_options Shown pairs line = line ≡ display_text (document pairs) ++ line_feed
WritesLine write_options Nothing pairs line = line ≡ []

-- what is written of the document that the bytes are, which is UTF-8
pub record IsLineOfDocument (run : Run) (bytes line : List ℕ) : Type 0 where
  pub pairs : Pairs
  pub read : IsReadAsDocumentIn run.duplicate_keys run.depth bytes pairs
  pub written : WritesLine run.options run.line pairs line
  pub utf8 : IsUtf8 line

-- the document has no text in a form
abbrev pub HasNoTextInForm : (write_options : Options) → Line → Pairs → Type 0
HasNoTextInForm write_options (Text form) pairs = writable_in write_options.doubles (document pairs) ≡ false
HasNoTextInForm write_options line pairs = ⊥

-- nothing can be written for the bytes, because of the fault
abbrev pub IsRejectedWithFault : RunFault → Run → (bytes : List ℕ) → Type 0
IsRejectedWithFault (Malformed fault_kind error_offset) run bytes =
    IsFaultAtOffset fault_kind error_offset bytes (reads_bytes_in run.duplicate_keys run.depth bytes)
IsRejectedWithFault FiniteDouble run bytes = (pairs : Pairs)
    × IsReadAsDocumentIn run.duplicate_keys run.depth bytes pairs
    × HasNoTextInForm run.options run.line pairs
IsRejectedWithFault other_fault run bytes = ⊥

-- the bytes begin with their length
abbrev pub BeginsWithLength : (bytes : List ℕ) → Type 0
BeginsWithLength bytes = (rest : List ℕ) × (read_length bytes ≡ Ok (length bytes, rest))

-- a rejected document is skipped: the run keeps going, and the next document begins after the length of this one
abbrev pub IsSkipped : Run → (bytes : List ℕ) → Type 0
IsSkipped run bytes = (run.keep_going ≡ true) × BeginsWithLength bytes

-- the fault is one of the bytes
abbrev pub IsFaultOfDocument : RunFault → Type 0
IsFaultOfDocument (Malformed fault_kind error_offset) = Unit {0}
IsFaultOfDocument FiniteDouble = Unit {0}
IsFaultOfDocument CannotRead = ⊥
IsFaultOfDocument CannotWrite = ⊥
IsFaultOfDocument OutOfMemory = ⊥

-- ---- concatenated documents

-- these bytes are this number of documents with this output; this number of them were rejected, skipped and reported
pub data Dump (run : Run) : (bytes output diagnostic_lines : List ℕ) → (document_count refused : ℕ) → Type 0 where
  none : Dump run [] [] [] 0 0
  written : {earlier_bytes output diagnostics : List ℕ} {document_count refused : ℕ} (bytes line : List ℕ)
      → Dump run earlier_bytes output diagnostics document_count refused → IsLineOfDocument run bytes line
      → Dump run (earlier_bytes ++ bytes) (output ++ line) diagnostics (document_count + 1) refused
  skipped_document : {earlier_bytes output diagnostics : List ℕ} {document_count refused : ℕ} (bytes : List ℕ)
      (fault : RunFault)
      → Dump run earlier_bytes output diagnostics document_count refused → IsSkipped run bytes
      → IsRejectedWithFault fault run bytes
      → Dump run (earlier_bytes ++ bytes) output
      (diagnostics ++ diagnostic_of run.diagnostics (document_count + 1) (length earlier_bytes) fault) (document_count + 1)
      (refused + 1)

-- ---- a run
--
-- In a run, `input_before` and `input_after` are the bytes that the reader has before and after it. The next four are the contents
-- of the output and of the report, before and after it. None means that they are not known.

-- all bytes of the reader are documents, and their lines and diagnostics were written
pub record CompletedRun (run : Run)
    (input_before input_after output_before output_after diagnostics_before diagnostics_after : Option (List ℕ))
    (document_count refused : ℕ)
    : Type 0 where
  pub bytes : List ℕ
  pub output : List ℕ
  pub diagnostic_lines : List ℕ
  pub consumed_bytes : Consumes input_before input_after bytes
  pub at_end : IsAtEnd input_after
  pub documents : Dump run bytes output diagnostic_lines document_count refused
  pub written : Appends output_before output_after output
  pub reports_appended : Appends diagnostics_before diagnostics_after diagnostic_lines

-- a writer accepted only a prefix of the line, or of the diagnostic
abbrev pub IsPartialWrite : Run → (document_number document_offset : ℕ)
    → (bytes_read partial_line partial_diagnostic : List ℕ) → Type 0
IsPartialWrite run document_number document_offset bytes_read partial_line partial_diagnostic =
    (((line : List ℕ) × IsLineOfDocument run bytes_read line × StartsWith line partial_line)
    × (partial_diagnostic ≡ []))
    ⊎ (((fault : RunFault) × IsRejectedWithFault fault run bytes_read × IsSkipped run bytes_read
    × StartsWith (diagnostic_of run.diagnostics document_number document_offset fault) partial_diagnostic) × (partial_line ≡ []))

-- why a run ends at the document with this number and offset, of which these bytes were read; and which parts of its
-- line and diagnostic were written
abbrev pub IsEndReason : RunFault → Run → (document_number document_offset : ℕ)
    → (bytes_read partial_line partial_diagnostic : List ℕ) → Type 0
IsEndReason CannotRead run document_number document_offset bytes_read partial_line partial_diagnostic =
    (partial_line ≡ []) × (partial_diagnostic ≡ [])
IsEndReason CannotWrite run document_number document_offset bytes_read partial_line partial_diagnostic =
    IsPartialWrite run document_number document_offset bytes_read partial_line partial_diagnostic
IsEndReason OutOfMemory run document_number document_offset bytes_read partial_line partial_diagnostic =
    (partial_line ≡ []) × (partial_diagnostic ≡ [])
IsEndReason fault run document_number document_offset bytes_read partial_line partial_diagnostic =
    IsRejectedWithFault fault run bytes_read × (IsSkipped run bytes_read → ⊥) × (partial_line ≡ [])
    × (partial_diagnostic ≡ [])

-- unless the reader failed or memory ran out, some bytes were read, and they are the prefix of those after the converted
-- documents
abbrev pub ConsumesPrefix : RunFault → (input_before : Option (List ℕ)) → (converted_bytes bytes_read : List ℕ) → Type 0
ConsumesPrefix CannotRead input_before converted_bytes bytes_read = Unit {0}
ConsumesPrefix OutOfMemory input_before converted_bytes bytes_read = Unit {0}
ConsumesPrefix fault input_before converted_bytes bytes_read =
    (bytes_read ≢ [])
    × ((rest : List ℕ) → input_before ≡ Some (converted_bytes ++ rest) → bytes_read ≡ declared_prefix rest)

-- the documents before the one with this number and offset were converted or skipped, and their lines and diagnostics
-- were written; at this one the run ended for the fault
pub record EndsAt (run : Run)
    (input_before input_after output_before output_after diagnostics_before diagnostics_after : Option (List ℕ))
    (fault : RunFault)
    (document_number refused document_offset : ℕ) : Type 0 where
  pub converted_bytes : List ℕ
  pub bytes_read : List ℕ
  pub output : List ℕ
  pub partial_line : List ℕ
  pub diagnostic_lines : List ℕ
  pub partial_diagnostic : List ℕ
  pub earlier_documents : ℕ
  pub consumed_bytes : Consumes input_before input_after (converted_bytes ++ bytes_read)
  pub front : ConsumesPrefix fault input_before converted_bytes bytes_read
  pub documents : Dump run converted_bytes output diagnostic_lines earlier_documents refused
  pub counted : document_number ≡ earlier_documents + 1
  pub offset_is_length : document_offset ≡ length converted_bytes
  pub reason : IsEndReason fault run document_number document_offset bytes_read partial_line partial_diagnostic
  pub written : Appends output_before output_after (output ++ partial_line)
  pub reports_appended : Appends diagnostics_before diagnostics_after (diagnostic_lines ++ partial_diagnostic)

-- the bytes do not begin with a document that is written
abbrev pub BeginsWithoutLine : Run → (bytes : List ℕ) → Type 0
BeginsWithoutLine run bytes = (pairs : Pairs) (rest : List ℕ)
    → IsFirstDocumentIn run.duplicate_keys run.depth bytes pairs rest
    → HasNoTextInForm run.options run.line pairs

-- if the fault is one of a document, there are bytes at this offset, and they do not begin with a document that is
-- written or skipped
abbrev pub IsJustifiedEnd : Run → (input_before : Option (List ℕ)) → RunFault → (document_offset : ℕ) → Type 0
IsJustifiedEnd run input_before fault document_offset = (converted_bytes rest : List ℕ)
    → input_before ≡ Some (converted_bytes ++ rest) → length converted_bytes ≡ document_offset
    → IsFaultOfDocument fault → (rest ≢ []) × BeginsWithoutLine run rest × (IsSkipped run (declared_prefix rest) → ⊥)

-- a run over these bytes converts or skips the documents before this one, and ends at it for its fault
pub record EndsInside (run : Run) (all_bytes output diagnostic_lines : List ℕ) (fault : RunFault)
    (document_number refused document_offset : ℕ)
    : Type 0 where
  pub converted_bytes : List ℕ
  pub rest : List ℕ
  pub earlier_documents : ℕ
  pub input_is_split : all_bytes ≡ converted_bytes ++ rest
  pub documents : Dump run converted_bytes output diagnostic_lines earlier_documents refused
  pub counted : document_number ≡ earlier_documents + 1
  pub offset_is_length : document_offset ≡ length converted_bytes
  pub rest_is_not_empty : rest ≢ []
  pub reason : IsRejectedWithFault fault run (declared_prefix rest)
  pub not_skipped : IsSkipped run (declared_prefix rest) → ⊥

-- ---- for private clauses

-- why the bytes have no line, or memory ran out
abbrev pub IsConversionFault : RunFault → Run → (bytes : List ℕ) → Type 0
IsConversionFault OutOfMemory run bytes = Unit {0}
IsConversionFault fault run bytes = IsRejectedWithFault fault run bytes

-- the fault of a run that the error is
abbrev pub run_fault : Error → RunFault
run_fault (errors.Malformed fault_kind error_offset) = Malformed fault_kind error_offset
run_fault errors.OutOfMemory = OutOfMemory

-- why the document has no such line, or memory ran out
abbrev pub IsLineFault : RunFault → (write_options : Options) → Line → Pairs → Type 0
IsLineFault FiniteDouble write_options line_kind pairs = HasNoTextInForm write_options line_kind pairs
IsLineFault OutOfMemory write_options line_kind pairs = Unit {0}
IsLineFault other_fault write_options line_kind pairs = ⊥

-- the line was written; or the document was rejected, skipped and reported, which counts as 1
abbrev pub IsLineOrSkip : (skipped_count : ℕ) → Run → (document_number document_offset : ℕ) → (bytes : List ℕ)
    → (output_before output_after diagnostics_before diagnostics_after : Option (List ℕ)) → Type 0
IsLineOrSkip skipped_count run document_number document_offset bytes output_before output_after diagnostics_before diagnostics_after =
    ((skipped_count ≡ 0) × (((line : List ℕ) × IsLineOfDocument run bytes line
    × Appends output_before output_after line) × Keeps diagnostics_before diagnostics_after))
    ⊎ ((skipped_count ≡ 1) × (IsSkipped run bytes
    × (((fault : RunFault) × IsRejectedWithFault fault run bytes
    × Appends diagnostics_before diagnostics_after (diagnostic_of run.diagnostics document_number document_offset fault))
    × Keeps output_before output_after)))

-- the run ends for the fault, and these parts of the line and the diagnostic were written
abbrev pub IsRunEnd : (end_fault : RunFault) → Run → (document_number document_offset : ℕ) → (bytes : List ℕ)
    → (output_before output_after diagnostics_before diagnostics_after : Option (List ℕ)) → Type 0
IsRunEnd end_fault run document_number document_offset bytes output_before output_after diagnostics_before diagnostics_after = (partial_line : List ℕ) × (partial_diagnostic : List ℕ)
    × IsEndReason end_fault run document_number document_offset bytes partial_line partial_diagnostic
    × (Appends output_before output_after partial_line
    × Appends diagnostics_before diagnostics_after partial_diagnostic)

-- the diagnostic was not written completely
abbrev pub IsReportFailure : (end_fault : RunFault) → DiagnosticFormat → (document_number document_offset : ℕ)
    → (skip_fault : RunFault) → (diagnostics_before diagnostics_after : Option (List ℕ)) → Type 0
IsReportFailure end_fault format document_number document_offset skip_fault diagnostics_before diagnostics_after =
    ((end_fault ≡ OutOfMemory) × Keeps diagnostics_before diagnostics_after)
    ⊎ ((end_fault ≡ CannotWrite) × ((partial_diagnostic : List ℕ)
    × StartsWith (diagnostic_of format document_number document_offset skip_fault) partial_diagnostic
    × Appends diagnostics_before diagnostics_after partial_diagnostic))

-- the progress of a run
pub record DumpProgress (run : Run)
    (input_before input_after output_before output_after diagnostics_before diagnostics_after : Option (List ℕ))
    (document_count refused document_offset : ℕ)
    : Type 0 where
  pub converted_bytes : List ℕ
  pub output : List ℕ
  pub diagnostic_lines : List ℕ
  pub consumed_bytes : Consumes input_before input_after converted_bytes
  pub documents : Dump run converted_bytes output diagnostic_lines document_count refused
  pub offset_is_length : document_offset ≡ length converted_bytes
  pub written : Appends output_before output_after output
  pub reports_appended : Appends diagnostics_before diagnostics_after diagnostic_lines
