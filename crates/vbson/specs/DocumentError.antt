-- Why bytes are rejected as a document that has a text, and where, as an error struct.
use Rattle.std.specs.Prelude.{◌≡◌, ℕ, List, [], ◌++◌, IsUtf8, codes, string_bytes, false, true}
use Rattle.std.specs.Fmt.{decimal}
use Rattle.bson_model.specs.declared.options.Options.{Options}
use Rattle.bson_bytes.specs.ReadDocuments.{IsReadAsDocumentIn}
use Rattle.bson_bytes.specs.Writing.{document_bytes}
use Rattle.bson_codec.specs.Bytes.{reads_bytes_in}
use Rattle.bson_codec.specs.ReadErrors.{IsFaultAtOffset}
use Rattle.bson_codec.specs.Diagnostics.{fault_kind_message}
use Rattle.bson_model.specs.Normal.{writable_in}
use Rattle.bson_model.specs.Value.{Pairs, document}
use Rattle.vbson.specs.Convert.{duplicate_keys_of, options_of_call}
use Rattle.vbson.specs.Documents.{depth}
use Rattle.vbson.specs.Path.{path_pairs}
use Rattle.vbson.specs.Text.{IsOwnedText}
use Rattle.vbson.specs.declared.document_error.Finding.{Finding}
use Rattle.vbson.specs.declared.document_error.Finding.TheVariants.{Nothing, Malformed, FiniteDouble}
use Rattle.vbson.specs.declared.explain.RejectionFields.{RejectionFields}
use Rattle.vbson.specs.declared.explain.Rejection.{Rejection}
use Rattle.vbson.specs.declared.options.CallOptions.{CallOptions}

-- ---- what is wrong

-- under the options the bytes are a document that has a text in the two forms
pub record HasDocumentText (options : CallOptions) (bytes : List ℕ) : Type 0 where
  pub pairs : Pairs
  pub read : IsReadAsDocumentIn (duplicate_keys_of options) depth bytes pairs
  pub writable : writable_in (options_of_call options).doubles (document pairs) ≡ true

-- under the options the bytes are a document that has no text in the two forms
pub record HasNoDocumentText (options : CallOptions) (bytes : List ℕ) : Type 0 where
  pub pairs : Pairs
  pub read : IsReadAsDocumentIn (duplicate_keys_of options) depth bytes pairs
  pub unwritable : writable_in (options_of_call options).doubles (document pairs) ≡ false

abbrev pub IsFinding : CallOptions → (bytes : List ℕ) → Finding → Type 0
IsFinding options bytes Nothing = HasDocumentText options bytes
IsFinding options bytes (Malformed kind offset) =
    IsFaultAtOffset kind offset bytes (reads_bytes_in (duplicate_keys_of options) depth bytes)
IsFinding options bytes FiniteDouble = HasNoDocumentText options bytes

-- ---- the fields of the error struct for a finding

-- the status, or 0 if nothing is wrong
abbrev pub finding_code : Finding → ℕ
finding_code Nothing = 0
finding_code (Malformed kind offset) = 10
finding_code FiniteDouble = 7

-- the offset of the first fault of bytes that are not a document; otherwise 0
abbrev pub finding_offset : Finding → ℕ
finding_offset Nothing = 0
finding_offset (Malformed kind offset) = offset
finding_offset FiniteDouble = 0

abbrev pub finding_reason : Finding → List ℕ
finding_reason Nothing = []
finding_reason (Malformed kind offset) = fault_kind_message kind
finding_reason FiniteDouble = codes "a finite double"

-- the message for a fault at an offset, with its reason
abbrev pub malformed_message : (offset : ℕ) → (description : List ℕ) → List ℕ
malformed_message offset description =
    codes "not a document at byte " ++ decimal offset ++ codes " (" ++ description ++ codes ")"

abbrev pub finding_message : Finding → List ℕ
finding_message Nothing = []
finding_message (Malformed kind offset) = malformed_message offset (fault_kind_message kind)
finding_message FiniteDouble = codes "not representable (a finite double)"

-- the error struct has the fields of the finding; its path has no segment
pub record ReportsFinding (finding : Finding) (rejection : Rejection) : Type 0 where
  pub code : rejection.code ≡ finding_code finding
  pub line : rejection.line ≡ 0
  pub column : rejection.column ≡ 0
  pub offset : rejection.offset ≡ finding_offset finding
  pub path : IsOwnedText (document_bytes (path_pairs [])) rejection.path
  pub reason : IsOwnedText (finding_reason finding) rejection.reason
  pub message : IsOwnedText (finding_message finding) rejection.message
  pub utf8 : IsUtf8 (finding_message finding)
  pub reason_utf8 : IsUtf8 (finding_reason finding)

pub record ExplainsDocument (options : CallOptions) (bytes : List ℕ) (rejection : Rejection) : Type 0 where
  pub finding : Finding
  pub is_finding : IsFinding options bytes finding
  pub error_report : ReportsFinding finding rejection

-- ---- for private clauses

-- the finding for bytes that are this document
abbrev pub IsFindingOfDocument : Options → Pairs → Finding → Type 0
IsFindingOfDocument options pairs Nothing = writable_in options.doubles (document pairs) ≡ true
IsFindingOfDocument options pairs (Malformed kind offset) = ⊥
IsFindingOfDocument options pairs FiniteDouble = writable_in options.doubles (document pairs) ≡ false

pub record AreFieldsOfFinding (finding : Finding) (fields : RejectionFields) : Type 0 where
  pub code : fields.code ≡ finding_code finding
  pub line : fields.position.line ≡ 0
  pub column : fields.position.column ≡ 0
  pub offset : fields.position.offset ≡ finding_offset finding
  pub path : fields.path.items ≡ document_bytes (path_pairs [])
  pub reason : string_bytes fields.reason ≡ finding_reason finding
  pub utf8 : IsUtf8 (finding_reason finding)
