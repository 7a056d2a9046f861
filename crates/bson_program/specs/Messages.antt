-- The lines on standard error.
use Rattle.std.specs.Prelude.{◌≡◌, ◌==◌, ◌||◌, ℕ, suc, Bool, List, [], ◌∷◌, ◌++◌, Option, None, Some, codes, string_bytes}
use Rattle.std.specs.Prelude.{if◌then◌else◌, nat_eq, length, drop, bytes_eq, encode_utf8}
use Rattle.std.specs.Char.{is_control}
use Rattle.std.specs.Char.Escape.{escape_default}
use Rattle.std.specs.Fmt.{decimal}
use Rattle.std.specs.List.{flat_map, starts_with}
use Rattle.std.specs.Str.{chars, encode_utf8_all, trim_end}
use Rattle.std.specs.declared.io.Error.{Error}
use Rattle.json.specs.Print.{print}
use Rattle.json.specs.Token as token
use Rattle.json.specs.Token.{Token}
use Rattle.bson_codec.specs.Diagnostics.{diagnostic_of, json_line, message_tokens}
use Rattle.bson_codec.specs.Diagnostics as documents
use Rattle.bson_codec.specs.declared.run_end.RunEnd.{RunEnd}
use Rattle.bson_codec.specs.declared.run_end.RunFault.{RunFault}
use Rattle.bson_codec.specs.declared.run_end.RunFault.TheVariants as run_fault
use Rattle.bson_run.specs.Lines.{prepend_to_first_line}
use Rattle.bson_codec.specs.declared.diagnostic.DiagnosticFormat.{DiagnosticFormat}
use Rattle.bson_codec.specs.declared.diagnostic.DiagnosticFormat.TheVariants as format
use Rattle.bson_convert.specs.Messages.{error_message}
use Rattle.bson_convert.specs.declared.error.Error as conversion
use Rattle.bson_program.specs.declared.invocation.Input as invocation
use Rattle.bson_program.specs.declared.invocation.Input.TheVariants.{Documents}
use Rattle.bson_program.specs.declared.run.RunFailure.{RunFailure}
use Rattle.bson_program.specs.declared.run.RunFailure.TheVariants as failure

-- ---- how many there were

abbrev pub input_kind : invocation.Input → List ℕ
input_kind Documents = codes "documents"
input_kind input = codes "lines"

abbrev pub counts_summary : invocation.Input → (total_count refused : ℕ) → List ℕ
counts_summary input total_count refused =
    codes "bson: " ++ decimal total_count ++ codes " " ++ input_kind input ++ codes ", " ++ decimal refused
    ++ codes " refused"

-- ---- names of files

-- the name of a standard stream
abbrev pub is_standard_stream : (file_name : List ℕ) → Bool
is_standard_stream file_name = bytes_eq file_name (codes "-")

-- a character that breaks a line or steers a terminal
abbrev pub is_unprintable : (code_point : ℕ) → Bool
is_unprintable code_point = is_control code_point || ((code_point == 0x2028) || (code_point == 0x2029))

-- this character as its escape in Rust, any other unchanged
abbrev pub printable : (code_point : ℕ) → List ℕ
printable code_point =
    if is_unprintable code_point then encode_utf8_all (escape_default code_point) else encode_utf8 code_point

abbrev pub escaped_name : (unescaped : List ℕ) → List ℕ
escaped_name unescaped = flat_map printable (chars unescaped)

-- a file, or the standard stream of this name
abbrev pub shown_name : (file_name stream : List ℕ) → List ℕ
shown_name file_name stream =
    if is_standard_stream file_name then codes "standard " ++ stream else escaped_name file_name

-- ---- what stopped a run

-- the system's message for an error after a colon, which no contract says; nothing if the error is not known
abbrev pub IsCauseSuffix : Option Error → (cause : List ℕ) → Type 0
IsCauseSuffix None cause = cause ≡ []
IsCauseSuffix (Some error) cause = (message : List ℕ) × (cause ≡ codes ": " ++ message)

-- where a message begins: with the program's name, or that of a file
abbrev pub message_prefix : (file_name : List ℕ) → List ℕ
message_prefix file_name = if is_standard_stream file_name then codes "bson" else escaped_name file_name

-- for a line also its number, as editors have it after a file's name
abbrev pub line_location : (file_name : List ℕ) → (line_number : ℕ) → List ℕ
line_location file_name line_number =
    if is_standard_stream file_name then codes "bson: line " ++ decimal line_number
    else escaped_name file_name ++ codes ":" ++ decimal line_number

-- the beginning of a message for a text on the line of this number, or for the one text of a file (0)
abbrev pub text_location : (file_name : List ℕ) → (line_number : ℕ) → List ℕ
text_location file_name line_number =
    if line_number == 0 then message_prefix file_name else line_location file_name line_number

-- the message for a text that is rejected
abbrev pub text_message : (file_name : List ℕ) → (line_number : ℕ) → conversion.Error → (position_message : List ℕ)
    → List ℕ
text_message file_name line_number fault position_message =
    text_location file_name line_number ++ codes ": " ++ error_message fault ++ position_message

-- a fault with its document, or that of a stream alone
abbrev pub document_error_message : (document_number offset : ℕ) → RunFault → List ℕ
document_error_message document_number offset run_fault.CannotRead = documents.run_fault_message run_fault.CannotRead
document_error_message document_number offset run_fault.CannotWrite = documents.run_fault_message run_fault.CannotWrite
document_error_message document_number offset fault = diagnostic_of format.Text document_number offset fault

abbrev pub document_message : (file_name : List ℕ) → RunEnd → List ℕ
document_message file_name run_end =
    message_prefix file_name ++ codes ": "
    ++ trim_end (document_error_message run_end.number run_end.start run_end.fault)

-- a file can't be read or written
abbrev pub IsFileFailureMessage : (verb file_name stream : List ℕ) → Option Error → (line : List ℕ) → Type 0
IsFileFailureMessage verb file_name stream error line =
    (cause : List ℕ) × IsCauseSuffix error cause
    × (line ≡ codes "bson: cannot " ++ verb ++ shown_name file_name stream ++ cause)

-- the line for what stopped the run
abbrev pub IsFailureMessage : RunFailure → (line : List ℕ) → Type 0
IsFailureMessage (failure.Input file_name error) line =
    IsFileFailureMessage (codes "read ") file_name.now (codes "input") error line
IsFailureMessage (failure.Output file_name error) line =
    IsFileFailureMessage (codes "write ") file_name.now (codes "output") error line
IsFailureMessage (failure.InputIsOutput file_name) line =
    line ≡ codes "bson: " ++ shown_name file_name.now (codes "input") ++ codes " is both an input and the output"
IsFailureMessage failure.OutputIsTerminal line =
    line ≡ codes "bson: BSON bytes are not written to a terminal; give -o FILE, or a pipe"
IsFailureMessage (failure.NotArray file_name) line =
    line ≡ message_prefix file_name.now ++ codes ": not a JSON array, which --array reads"
IsFailureMessage (failure.Text file_name line_number fault position_message) line =
    line ≡ text_message file_name.now line_number fault (string_bytes position_message)
IsFailureMessage (failure.Document file_name run_end) line = line ≡ document_message file_name.now run_end

-- ---- what stopped a run, as a JSON object

-- the beginning of an object, with the name of its file as the first member
abbrev pub file_tokens : (file_name : List ℕ) → List Token
file_tokens file_name = token.begin_object ∷ token.key (codes "file") ∷ token.string file_name ∷ []

abbrev pub file_member : (file_name : List ℕ) → List ℕ
file_member file_name = print (file_tokens file_name)

-- an object with this first member
abbrev pub with_json_file : (file_name json : List ℕ) → List ℕ
with_json_file file_name json = file_member file_name ++ codes "," ++ drop 1 json

-- the name of the file, the code, and the message without the program's name
abbrev pub failure_object : (file_name code message : List ℕ) → List ℕ
failure_object file_name code message = json_line (file_tokens file_name ++ message_tokens code message)

-- a file can't be read or written
abbrev pub IsFileFailureObject : (code verb file_name stream : List ℕ) → Option Error → (line : List ℕ) → Type 0
IsFileFailureObject code verb file_name stream error line =
    (cause : List ℕ) × IsCauseSuffix error cause
    × (line ≡ failure_object file_name code (codes "cannot " ++ verb ++ shown_name file_name stream ++ cause))

-- a text has its own object; it is empty if memory was lacking
abbrev pub report_object : (file_name report : List ℕ) → List ℕ
report_object file_name [] = failure_object file_name (codes "out_of_memory") (codes "out of memory")
report_object file_name (first_byte ∷ other_bytes) = with_json_file file_name (first_byte ∷ other_bytes)

-- the object for what stopped the run, on a line
abbrev pub IsFailureObject : RunFailure → (line : List ℕ) → Type 0
IsFailureObject (failure.Input file_name error) line =
    IsFileFailureObject (codes "cannot_read") (codes "read ") file_name.now (codes "input") error line
IsFailureObject (failure.Output file_name error) line =
    IsFileFailureObject (codes "cannot_write") (codes "write ") file_name.now (codes "output") error line
IsFailureObject (failure.InputIsOutput file_name) line = line ≡ failure_object file_name.now (codes "input_is_output")
    (shown_name file_name.now (codes "input") ++ codes " is both an input and the output")
IsFailureObject (failure.NotArray file_name) line =
    line ≡ failure_object file_name.now (codes "not_an_array") (codes "not a JSON array, which --array reads")
IsFailureObject failure.OutputIsTerminal line = line ≡ failure_object (codes "-") (codes "output_is_terminal")
    (codes "BSON bytes are not written to a terminal; give -o FILE, or a pipe")
IsFailureObject (failure.Text file_name line_number fault report) line =
    line ≡ report_object file_name.now (string_bytes report)
IsFailureObject (failure.Document file_name run_end) line =
    line ≡ with_json_file file_name.now (diagnostic_of format.Json run_end.number run_end.start run_end.fault)

-- ---- diagnostics

-- the lines, each with the newline that ends it, except the last
abbrev pub split_lines : (bytes : List ℕ) → List (List ℕ)
split_lines [] = []
split_lines (first_byte ∷ other_bytes) =
    if first_byte == 10 then (10 ∷ []) ∷ split_lines other_bytes
    else prepend_to_first_line first_byte (split_lines other_bytes)

-- the beginning of a diagnostic on a line
abbrev pub line_prefix : List ℕ
line_prefix = codes "bson: line "

-- a diagnostic after a file's name: for a line its number, a colon before it, otherwise the diagnostic
abbrev pub with_file_name : DiagnosticFormat → (file_name diagnostic : List ℕ) → List ℕ
with_file_name format.Json file_name diagnostic = with_json_file file_name diagnostic
with_file_name format.Text file_name diagnostic =
    file_name ++ (if starts_with nat_eq diagnostic line_prefix then codes ":" ++ drop (length line_prefix) diagnostic
    else codes ": " ++ diagnostic)

abbrev pub with_file_names : DiagnosticFormat → (file_name diagnostics : List ℕ) → List ℕ
with_file_names format file_name diagnostics = flat_map (with_file_name format file_name) (split_lines diagnostics)

-- ---- for private clauses

-- the length of the first line
abbrev pub line_len : (bytes : List ℕ) → ℕ
line_len [] = 0
line_len (first_byte ∷ other_bytes) = if first_byte == 10 then 1 else suc (line_len other_bytes)
