-- Where the error of a text is in its input.
use Rattle.std.specs.Prelude.{◌≡◌, ◌==◌, ◌+◌, ◌-◌, ◌^◌, ℕ, suc, List, ◌++◌, Option, None, Some}
use Rattle.std.specs.Prelude.{count_by, length, min, nat_lt, take, if◌then◌else◌}
use Rattle.bson_convert.specs.Messages.{error_message}
use Rattle.bson_convert.specs.declared.error.Error.{Error}
use Rattle.bson_codec.specs.Diagnostics.{json_line}
use Rattle.bson_run.specs.Diagnostic.{diagnostic_tokens, error_code, position_at}
use Rattle.bson_run.specs.ErrorMessages.{IsExplanation, column_and_rule, column_at, explanation_message, explanation_offset}
use Rattle.bson_run.specs.ErrorMessages.{explanation_path, line_at}
use Rattle.bson_run.specs.declared.explain.Explanation.{Explanation}
use Rattle.bson_run.specs.declared.explain.Explanation.TheVariants.{Syntax, Value, Difference, Other}
use Rattle.bson_run.specs.declared.position.Position.{Position}
use Rattle.bson_codec.specs.declared.diagnostic.DiagnosticFormat.{DiagnosticFormat}
use Rattle.bson_codec.specs.declared.diagnostic.DiagnosticFormat.TheVariants.{Text, Json}
use Rattle.bson_run.specs.declared.task.Task.{Task}

-- the line on which a text of a sequence begins, and none for a text that is all bytes
abbrev pub text_start_line : (content : List ℕ) → (start : ℕ) → (text : List ℕ) → ℕ
text_start_line content start text = if length text == length content then 0
    else suc (count_by (λ byte. byte == 10) (take (min start (length content)) content))

-- how many bytes of the input are before a byte of a text (no input has as many as the limit)
abbrev pub offset_in_input : (start offset : ℕ) → ℕ
offset_in_input start offset = min (start + offset) (2 ^ 64 - 1)

-- the line on which a value begins, if the input has several lines; a newline at its end begins no line
abbrev pub value_line : (content : List ℕ) → (start : ℕ) → (text : List ℕ) → (offset : Option ℕ) → ℕ
value_line content start text None = text_start_line content start text
value_line content start text (Some offset) = if nat_lt 1 (line_at (length content) content)
    then line_at (offset_in_input start offset) content else text_start_line content start text

-- the line of an error; a text that is not canonical differs on the first
abbrev pub error_line : (content : List ℕ) → (start : ℕ) → (text : List ℕ) → Explanation → ℕ
error_line content start text (Syntax syntax_error) = line_at (offset_in_input start syntax_error.offset) content
error_line content start text (Value place reason offset) = value_line content start text offset
error_line content start text (Difference column) = 1
error_line content start text Other = text_start_line content start text

-- where the error is; the column of an error of JSON is that of its line
abbrev pub position_message : (content : List ℕ) → (start : ℕ) → (text : List ℕ) → Explanation → List ℕ
position_message content start text (Syntax syntax_error) =
    column_and_rule (column_at (offset_in_input start syntax_error.offset) content) syntax_error.rule
position_message content start text explanation = explanation_message text explanation

-- the line, the column and the offset of an error in the input; the line of the text's first byte, if no more is known
abbrev pub position_of_offset : (content : List ℕ) → (start : ℕ) → (offset : Option ℕ) → Position
position_of_offset content start None = position_at (line_at start content) None content
position_of_offset content start (Some offset) =
    position_at (line_at (offset_in_input start offset) content) (Some (offset_in_input start offset)) content

abbrev pub position_in_input : (content : List ℕ) → (start : ℕ) → (text : List ℕ) → Explanation → Position
position_in_input content start text explanation = position_of_offset content start (explanation_offset text explanation)

-- the JSON object for an error
abbrev pub error_json : Error → (content : List ℕ) → (start : ℕ) → (text : List ℕ) → Explanation
    → (position_message : List ℕ) → List ℕ
error_json fault content start text explanation position_message =
    json_line (diagnostic_tokens (position_in_input content start text explanation) (explanation_path explanation)
    (error_code fault) (error_message fault ++ position_message))

-- what a failure reports of an error: where it is, as a message, and its line; or the JSON object for it
abbrev pub report_of : DiagnosticFormat → Error → (content : List ℕ) → (start : ℕ) → (text : List ℕ) → Explanation
    → List ℕ
report_of Text fault content start text explanation = position_message content start text explanation
report_of Json fault content start text explanation =
    error_json fault content start text explanation (position_message content start text explanation)

abbrev pub IsErrorReport : Task → Error → (report : List ℕ) → (line_number : ℕ) → (content : List ℕ)
    → (start : ℕ) → (text : List ℕ) → Type 0
IsErrorReport task fault report line_number content start text =
    (explanation : Explanation) × IsExplanation task.preprocessing.v1 text fault explanation
    × (report ≡ report_of task.diagnostics fault content start text explanation)
    × (line_number ≡ error_line content start text explanation)
