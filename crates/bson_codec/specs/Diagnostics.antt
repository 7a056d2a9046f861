-- The diagnostic of a document at which a run ends, or which it skips: a message or a JSON object, on one line.
use Rattle.std.specs.Prelude.{ℕ, List, [], ◌∷◌, ◌++◌, Option, None, Some, codes}
use Rattle.std.specs.Fmt.{decimal}
use Rattle.json.specs.Print.{print}
use Rattle.json.specs.Token as token
use Rattle.json.specs.Token.{Token}
use Rattle.bson_bytes.specs.declared.fault.FaultKind.{FaultKind}
use Rattle.bson_bytes.specs.declared.fault.FaultKind.TheVariants as kind
use Rattle.bson_codec.specs.declared.diagnostic.DiagnosticFormat.{DiagnosticFormat}
use Rattle.bson_codec.specs.declared.diagnostic.DiagnosticFormat.TheVariants.{Text, Json}
use Rattle.bson_codec.specs.declared.run_end.RunFault.{RunFault}
use Rattle.bson_codec.specs.declared.run_end.RunFault.TheVariants.{Malformed, FiniteDouble, CannotRead, CannotWrite}
use Rattle.bson_codec.specs.declared.run_end.RunFault.TheVariants.{OutOfMemory}

abbrev pub line_feed : List ℕ
line_feed = 10 ∷ []

abbrev pub fault_kind_message : FaultKind → List ℕ
fault_kind_message kind.Depth = codes "nested too deep"
fault_kind_message kind.Short = codes "ends too early"
fault_kind_message kind.Length = codes "invalid length"
fault_kind_message kind.Tag = codes "unknown element type"
fault_kind_message kind.End = codes "missing NUL after a string"
fault_kind_message kind.Utf8 = codes "invalid UTF-8"
fault_kind_message kind.Boolean = codes "a boolean is neither 0 nor 1"
fault_kind_message kind.Trailing = codes "trailing bytes after the document"
fault_kind_message kind.DuplicateKey = codes "duplicate key"

abbrev pub run_fault_message : RunFault → List ℕ
run_fault_message (Malformed fault_kind error_offset) = fault_kind_message fault_kind
run_fault_message FiniteDouble = codes "a finite double"
run_fault_message CannotRead = codes "cannot read"
run_fault_message CannotWrite = codes "cannot write"
run_fault_message OutOfMemory = codes "out of memory"

-- the error of the document, and where in it the error is
abbrev pub full_message : RunFault → List ℕ
full_message (Malformed fault_kind error_offset) =
    fault_kind_message fault_kind ++ codes " at its byte " ++ decimal error_offset
full_message other_fault = run_fault_message other_fault

-- one word for each kind of error
abbrev pub run_fault_code : RunFault → List ℕ
run_fault_code (Malformed fault_kind error_offset) = codes "malformed"
run_fault_code FiniteDouble = codes "finite_double"
run_fault_code CannotRead = codes "cannot_read"
run_fault_code CannotWrite = codes "cannot_write"
run_fault_code OutOfMemory = codes "out_of_memory"

-- the offset of the error in the document
abbrev pub error_offset_of : RunFault → Option ℕ
error_offset_of (Malformed fault_kind error_offset) = Some error_offset
error_offset_of other_fault = None

-- ---- the members of a JSON object

-- the beginning of an object, whose first member is a number
abbrev pub first_number_tokens : (name : List ℕ) → (number : ℕ) → List Token
first_number_tokens name number = token.begin_object ∷ token.key name ∷ token.number (decimal number) ∷ []

-- a number, or null
abbrev pub number_or_null : Option ℕ → Token
number_or_null None = token.null
number_or_null (Some number) = token.number (decimal number)

abbrev pub number_tokens : (name : List ℕ) → Option ℕ → List Token
number_tokens name number = token.key name ∷ number_or_null number ∷ []

abbrev pub text_tokens : (name text : List ℕ) → List Token
text_tokens name text = token.key name ∷ token.string text ∷ []

abbrev pub message_tokens : (code message : List ℕ) → List Token
message_tokens code message =
    text_tokens (codes "code") code ++ text_tokens (codes "message") message ++ token.end_object ∷ []

-- the compact text of the object, on a line
abbrev pub json_line : List Token → List ℕ
json_line token_list = print token_list ++ line_feed

-- ---- the diagnostic

abbrev pub document_tokens : (document_number document_offset : ℕ) → RunFault → List Token
document_tokens document_number document_offset fault = first_number_tokens (codes "document") document_number
    ++ number_tokens (codes "start") (Some document_offset) ++ number_tokens (codes "offset") (error_offset_of fault)
    ++ message_tokens (run_fault_code fault) (full_message fault)

-- the number of the document, its offset and its fault, on a line: as a message, or as a JSON object
abbrev pub diagnostic_of : DiagnosticFormat → (document_number document_offset : ℕ) → RunFault → List ℕ
diagnostic_of Text document_number document_offset fault =
    codes "document " ++ decimal document_number ++ codes " at byte " ++ decimal document_offset ++ codes ": "
    ++ full_message fault ++ line_feed
diagnostic_of Json document_number document_offset fault =
    json_line (document_tokens document_number document_offset fault)
