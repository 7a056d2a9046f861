-- Why a text is rejected, and where, as an error struct.
use Rattle.std.specs.Prelude.{◌≡◌, ◌≢◌, ◌⊎◌, ℕ, IsUtf8, List, [], ◌++◌, string_bytes, Option, None, Some}
use Rattle.bson.specs.Value.{Value}
use Rattle.bson_bytes.specs.Writing.{document_bytes, FitsDocument}
use Rattle.bson_convert.specs.Convert.{IsRejectedIn}
use Rattle.bson_convert.specs.Messages.{error_message}
use Rattle.bson_convert.specs.declared.error.Error.{Error}
use Rattle.bson_convert.specs.declared.error.Error.TheVariants.{NotExtendedJson, OutOfMemory}
use Rattle.bson_tree.specs.Place.{PathSegment, path_of}
use Rattle.bson_run.specs.ErrorMessages.{IsExplanation, column_at, line_at, explanation_message, explanation_offset}
use Rattle.bson_run.specs.Preprocessed.{IsPreprocessingError}
use Rattle.bson_run.specs.TaskNames.{rule_message}
use Rattle.bson_run.specs.declared.explain.Explanation.{Explanation}
use Rattle.bson_run.specs.declared.explain.Explanation.TheVariants.{Difference, Syntax, Other}
use Rattle.bson_run.specs.declared.explain.Explanation.TheVariants as explanations
use Rattle.vbson.specs.Convert.{IsReadWith, options_of_call, preprocessing_of, status_of_reason}
use Rattle.vbson.specs.Path.{path_pairs}
use Rattle.vbson.specs.Reading.{MeansUnder}
use Rattle.vbson.specs.Text.{IsOwnedText}
use Rattle.vbson.specs.declared.explain.BytePosition.{BytePosition}
use Rattle.vbson.specs.declared.explain.RejectionFields.{RejectionFields}
use Rattle.vbson.specs.declared.explain.Rejection.{Rejection}
use Rattle.vbson.specs.declared.options.CallOptions.{CallOptions}

-- ---- the fields of the error struct for an explanation

-- the status of the error, or 0 if there is none
abbrev pub explanation_code : Explanation → ℕ
explanation_code (Syntax syntax_error) = 2
explanation_code (explanations.Value place reason offset) = status_of_reason place.now.reason
explanation_code (Difference column) = 16
explanation_code Other = 0

-- the line and the column of the byte at an offset, from 1, and the offset; 0 each if the offset is not known
abbrev pub byte_position : (text : List ℕ) → (offset : Option ℕ) → BytePosition
byte_position text None = record { line = 0; column = 0; offset = 0 }
byte_position text (Some offset) = record { line = line_at offset text; column = column_at offset text; offset = offset }

abbrev pub explanation_position : (text : List ℕ) → Explanation → BytePosition
explanation_position text explanation = byte_position text (explanation_offset text explanation)

-- the path from the invalid value outward
abbrev pub reported_path : Explanation → List PathSegment
reported_path (Syntax syntax_error) = []
reported_path (explanations.Value place reason offset) = path_of place.now
reported_path (Difference column) = []
reported_path Other = []

abbrev pub explanation_reason : Explanation → List ℕ
explanation_reason (Syntax syntax_error) = rule_message syntax_error.rule
explanation_reason (explanations.Value place reason offset) = string_bytes reason
explanation_reason (Difference column) = []
explanation_reason Other = []

-- the error struct has the fields of this explanation of an error of the text, and this message
pub record ReportsExplanation (text : List ℕ) (explanation : Explanation) (description : List ℕ)
    (rejection : Rejection) : Type 0 where
  pub code : rejection.code ≡ explanation_code explanation
  pub line : rejection.line ≡ (explanation_position text explanation).line
  pub column : rejection.column ≡ (explanation_position text explanation).column
  pub offset : rejection.offset ≡ (explanation_position text explanation).offset
  pub path : IsOwnedText (document_bytes (path_pairs (reported_path explanation))) rejection.path
  pub reason : IsOwnedText (explanation_reason explanation) rejection.reason
  pub message : IsOwnedText description rejection.message

-- ---- which error

-- under the options preprocessing rejects the text, or the text that is read instead is rejected
abbrev pub IsRejectedUnder : CallOptions → Error → (text : List ℕ) → Type 0
IsRejectedUnder options fault text =
    IsReadWith options (IsRejectedIn (options_of_call options) fault) text
    ⊎ IsPreprocessingError (preprocessing_of options) fault text

-- the text is rejected, and the error struct explains the error by the text itself; its message is that of the error,
-- followed by its path
pub record ExplainsRejection (options : CallOptions) (text : List ℕ) (rejection : Rejection) : Type 0 where
  pub fault : Error
  pub rejected : IsRejectedUnder options fault text
  pub reported : fault ≢ OutOfMemory
  pub explanation : Explanation
  pub is_explanation : IsExplanation (preprocessing_of options).v1 text fault explanation
  pub error_report : ReportsExplanation text explanation
      (error_message fault ++ explanation_message text explanation) rejection
  pub utf8 : IsUtf8 (error_message fault ++ explanation_message text explanation)
  pub reason_utf8 : IsUtf8 (explanation_reason explanation)

-- the text denotes a value, and the error struct has the code 0 and an empty message; or the text is rejected
abbrev pub Explains : CallOptions → (text : List ℕ) → Rejection → Type 0
Explains options text rejection =
    (((value : Value) × MeansUnder options text value) × ReportsExplanation [] Other [] rejection)
    ⊎ ExplainsRejection options text rejection

-- the path to the error exceeds the limits of BSON
abbrev pub HasTooLongPath : Error → Type 0
HasTooLongPath (NotExtendedJson place) = FitsDocument (path_pairs (path_of place)) → ⊥
HasTooLongPath _ = ⊥

pub record ErrorPathIsTooLong (options : CallOptions) (text : List ℕ) : Type 0 where
  pub fault : Error
  pub rejected : IsRejectedUnder options fault text
  pub too_long : HasTooLongPath fault

-- ---- for private clauses

abbrev pub PathIsTooLong : Explanation → Type 0
PathIsTooLong explanation = FitsDocument (path_pairs (reported_path explanation)) → ⊥

-- the fields are those of an explanation of an error of the text
pub record AreFieldsOfExplanation (text : List ℕ) (explanation : Explanation) (fields : RejectionFields) : Type 0 where
  pub code : fields.code ≡ explanation_code explanation
  pub position : fields.position ≡ explanation_position text explanation
  pub path : fields.path.items ≡ document_bytes (path_pairs (reported_path explanation))
  pub reason : string_bytes fields.reason ≡ explanation_reason explanation
  pub utf8 : IsUtf8 (explanation_reason explanation)

pub record IsRejectionWithFields (fields : RejectionFields) (description : List ℕ)
    (rejection : Rejection) : Type 0 where
  pub code : rejection.code ≡ fields.code
  pub line : rejection.line ≡ fields.position.line
  pub column : rejection.column ≡ fields.position.column
  pub offset : rejection.offset ≡ fields.position.offset
  pub path : IsOwnedText fields.path.items rejection.path
  pub reason : IsOwnedText (string_bytes fields.reason) rejection.reason
  pub message : IsOwnedText description rejection.message
  pub utf8 : IsUtf8 description
