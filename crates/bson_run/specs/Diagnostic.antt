-- The diagnostic on a rejected line: a message on one line, or a JSON object on one line.
use Rattle.std.specs.Prelude.{◌≡◌, ◌==◌, ℕ, List, [], ◌∷◌, ◌++◌, Option, None, Some, codes, encode_utf8, option_map, if◌then◌else◌}
use Rattle.std.specs.Fmt.{decimal}
use Rattle.std.specs.List.{flat_map}
use Rattle.std.specs.Str.{chars}
use Rattle.json.specs.Token as token
use Rattle.json.specs.Token.{Token}
use Rattle.bson_tree.specs.Place.{PathSegment, key, element}
use Rattle.bson_tree.specs.declared.place.Reason.{Reason}
use Rattle.bson_tree.specs.declared.place.Reason.TheVariants.{BadObjectId, WrongShape}
use Rattle.bson_codec.specs.Diagnostics.{first_number_tokens, json_line, message_tokens, number_tokens}
use Rattle.bson_codec.specs.declared.diagnostic.DiagnosticFormat.{DiagnosticFormat}
use Rattle.bson_codec.specs.declared.diagnostic.DiagnosticFormat.TheVariants.{Text, Json}
use Rattle.bson_convert.specs.Convert.{newline}
use Rattle.bson_convert.specs.Messages.{error_message}
use Rattle.bson_convert.specs.declared.error.Error.{Error}
use Rattle.bson_convert.specs.declared.error.Error.TheVariants as error
use Rattle.bson_run.specs.ErrorMessages.{IsExplanation, column_at, explanation_message, explanation_offset, explanation_path}
use Rattle.bson_run.specs.declared.position.Position.{Position}
use Rattle.bson_run.specs.declared.explain.Explanation.{Explanation}
use Rattle.bson_run.specs.declared.task.Task.{Task}

-- ---- the code of an error

abbrev pub reason_code : Reason → List ℕ
reason_code (BadObjectId object_id_error) = codes "bad_object_id"
reason_code (WrongShape expected) = codes "not_extended_json"

abbrev pub error_code : Error → List ℕ
error_code error.CannotRead = codes "cannot_read"
error_code error.NotJson = codes "not_json"
error_code (error.NotExtendedJson place) = reason_code place.reason
error_code (error.NoBytes no_bytes_cause) = codes "no_bytes"
error_code (error.NotCanonical column) = codes "not_canonical"
error_code error.OutOfMemory = codes "out_of_memory"
error_code error.CannotWrite = codes "cannot_write"

-- ---- the path, from the value outward, as an array and as a JSON Pointer (RFC 6901)

abbrev pub segment_token : PathSegment → Token
segment_token (key key_text) = token.string key_text
segment_token (element element_index) = token.number (decimal element_index)

abbrev pub segment_tokens : List PathSegment → List Token
segment_tokens [] = []
segment_tokens (segment ∷ outer_segments) = segment_tokens outer_segments ++ segment_token segment ∷ []

-- `~` is written as `~0`, and `/` as `~1`
abbrev pub pointer_char : (code_point : ℕ) → List ℕ
pointer_char code_point = if code_point == 126 then codes "~0"
    else (if code_point == 47 then codes "~1" else encode_utf8 code_point)

abbrev pub reference_token : PathSegment → List ℕ
reference_token (key key_text) = flat_map pointer_char (chars key_text)
reference_token (element element_index) = decimal element_index

abbrev pub json_pointer : List PathSegment → List ℕ
json_pointer [] = []
json_pointer (segment ∷ outer_segments) = json_pointer outer_segments ++ codes "/" ++ reference_token segment

-- ---- the JSON object

abbrev pub position_tokens : Position → List Token
position_tokens position = first_number_tokens (codes "line") position.line ++ number_tokens (codes "column") position.column
    ++ number_tokens (codes "offset") position.offset

abbrev pub path_tokens : Option (List PathSegment) → List Token
path_tokens None = number_tokens (codes "path") None ++ number_tokens (codes "pointer") None
path_tokens (Some path) = (token.key (codes "path") ∷ token.begin_array ∷ []) ++ segment_tokens path
    ++ token.end_array ∷ token.key (codes "pointer") ∷ token.string (json_pointer path) ∷ []

abbrev pub diagnostic_tokens : Position → Option (List PathSegment) → (code message : List ℕ) → List Token
diagnostic_tokens position path code message = position_tokens position ++ path_tokens path ++ message_tokens code message

-- ---- the diagnostic on a line

-- the error and its path
abbrev pub explained_message : Error → (text : List ℕ) → Explanation → List ℕ
explained_message fault text explanation = error_message fault ++ explanation_message text explanation

-- where the error of an input is: on this line of it, which is the content or a part of it
abbrev pub position_at : (line_number : ℕ) → (offset : Option ℕ) → (content : List ℕ) → Position
position_at line_number offset content =
    record { line = line_number; column = option_map (λ byte_offset. column_at byte_offset content) offset; offset = offset }

abbrev pub diagnostic_line : DiagnosticFormat → (line_number : ℕ) → Error → (text : List ℕ) → Explanation → List ℕ
diagnostic_line Text line_number fault text explanation =
    codes "bson: line " ++ decimal line_number ++ codes ": " ++ explained_message fault text explanation ++ newline
diagnostic_line Json line_number fault text explanation =
    json_line (diagnostic_tokens (position_at line_number (explanation_offset text explanation) text)
    (explanation_path explanation) (error_code fault) (explained_message fault text explanation))

abbrev pub IsDiagnostic : Task → (line_number : ℕ) → Error → (text diagnostic : List ℕ) → Type 0
IsDiagnostic task line_number fault text diagnostic = (explanation : Explanation)
    × IsExplanation task.preprocessing.v1 text fault explanation
    × (diagnostic ≡ diagnostic_line task.diagnostics line_number fault text explanation)
