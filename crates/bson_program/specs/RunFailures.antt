-- Which writer stops a run over files, the settings of a run over documents, and the path of an output.
use Rattle.std.specs.Prelude.{◌≡◌, ◌≢◌, ◌⊎◌, ◌++◌, ℕ, List, Option, None, Some, codes, map, string_bytes, Contains, MatchOption, String, true}
use Rattle.std.specs.Fmt.{decimal}
use Rattle.std.specs.declared.alloc.Global.{Global}
use Rattle.std.specs.declared.io.Error.{Error}
use Rattle.bson_codec.specs.declared.documents.Line as documents
use Rattle.bson_codec.specs.declared.documents.Line.TheVariants as line
use Rattle.bson.specs.Form.TheVariants as forms
use Rattle.bson_convert.specs.declared.mode.Mode.TheVariants.{Canonical, Relaxed, Show}
use Rattle.bson_convert.specs.declared.error.Error as conversion
use Rattle.bson_run.specs.Diagnostic.{IsDiagnostic}
use Rattle.bson_run.specs.ErrorMessages.{IsPositionMessage}
use Rattle.bson_run.specs.Lines.{buffered_text, line_number_of}
use Rattle.bson_run.specs.declared.lines.LineRun.{LineRun}
use Rattle.bson_codec.specs.declared.diagnostic.DiagnosticFormat.{DiagnosticFormat}
use Rattle.bson_codec.specs.declared.diagnostic.DiagnosticFormat.TheVariants.{Text, Json}
use Rattle.bson_run.specs.declared.task.Output as task
use Rattle.bson_run.specs.declared.task.Output.TheVariants as output
use Rattle.bson_program.specs.Messages.{with_file_names, message_prefix, is_standard_stream}
use Rattle.bson_program.specs.declared.invocation.Input as invocation
use Rattle.bson_program.specs.declared.invocation.Input.TheVariants.{Documents}
use Rattle.bson_program.specs.declared.invocation.Invocation.{Invocation}
use Rattle.bson_program.specs.declared.output.PartialFile.{PartialFile}
use Rattle.bson_program.specs.declared.run.RunFailure.{RunFailure}
use Rattle.bson_program.specs.declared.run.RunFailure.TheVariants as failure
use Rattle.bson_program.specs.declared.run.RunFailure.TheVariants.{Input, Output}

-- the file of this name can't be read
abbrev pub IsInputFailure : (file_name : List ℕ) → RunFailure → Type 0
IsInputFailure file_name (Input failed_name error) = failed_name.now ≡ file_name
IsInputFailure file_name failure = ⊥

-- the failure names the file of this name, or an output
abbrev pub HappensAt : Invocation → (file_name : List ℕ) → RunFailure → Type 0
HappensAt invocation file_name (Input failed_name error) = failed_name.now ≡ file_name
HappensAt invocation file_name (Output failed_name error) =
    (failed_name.now ≡ string_bytes invocation.output) ⊎ (failed_name.now ≡ codes "-")
HappensAt invocation file_name (failure.InputIsOutput failed_name) = failed_name.now ≡ file_name
HappensAt invocation file_name failure.OutputIsTerminal = ⊥
HappensAt invocation file_name (failure.NotArray failed_name) = failed_name.now ≡ file_name
HappensAt invocation file_name (failure.Text failed_name line_number fault position_message) = failed_name.now ≡ file_name
HappensAt invocation file_name (failure.Document failed_name run_end) = failed_name.now ≡ file_name

-- the same of one of the inputs
abbrev pub HappensAtInput : Invocation → RunFailure → Type 0
HappensAtInput invocation stop = (file_name : List ℕ)
    × Contains (map (λ input. string_bytes input) invocation.inputs.items) file_name × HappensAt invocation file_name stop

-- the output can't be opened or finished, or bytes would go to a terminal
abbrev pub IsOutputFileFailure : Invocation → RunFailure → Type 0
IsOutputFileFailure invocation (Output failed_name error) = failed_name.now ≡ string_bytes invocation.output
IsOutputFileFailure invocation failure.OutputIsTerminal =
    (invocation.task.output ≡ output.Bytes) × (string_bytes invocation.output ≡ codes "-")
IsOutputFileFailure invocation stop = ⊥

-- why a run over all inputs stops
abbrev pub IsRunFailure : Invocation → RunFailure → Type 0
IsRunFailure invocation stop = IsOutputFileFailure invocation stop ⊎ HappensAtInput invocation stop

-- ---- writers

-- the writer that failed: that of diagnostics, if the cause of its failure is kept, or else the output
abbrev pub IsWriterFailure : Invocation → (diagnostics_error output_error : Option Error) → RunFailure → Type 0
IsWriterFailure invocation diagnostics_error output_error (Output file_name error) = MatchOption diagnostics_error
    ((file_name.now ≡ string_bytes invocation.output) × (error ≡ output_error)) (λ cause. (file_name.now ≡ codes "-")
    × (error ≡ Some cause))
IsWriterFailure invocation diagnostics_error output_error failure = ⊥

-- the name before diagnostics: that of a file, or of the program; for JSON objects the name as it is given
abbrev pub diagnostics_prefix : DiagnosticFormat → (file_name : List ℕ) → List ℕ
diagnostics_prefix Text file_name = message_prefix file_name
diagnostics_prefix Json file_name = file_name

-- messages on lines of standard input have none
abbrev pub IsDiagnosticsPrefix : DiagnosticFormat → invocation.Input → (file_name : List ℕ)
    → Option (String Global) → Type 0
IsDiagnosticsPrefix format input file_name None = (format ≡ Text) × (is_standard_stream file_name ≡ true)
    × (input ≢ Documents)
IsDiagnosticsPrefix format input file_name (Some prefix) = (string_bytes prefix ≡ diagnostics_prefix format file_name)
    × (format ≡ Text → is_standard_stream file_name ≡ true → input ≡ Documents)

-- the diagnostics for a file of this name
abbrev pub diagnostics_of_file : DiagnosticFormat → Option (String Global) → (diagnostics : List ℕ) → List ℕ
diagnostics_of_file format None diagnostics = diagnostics
diagnostics_of_file format (Some file_name) diagnostics = with_file_names format (string_bytes file_name) diagnostics

-- where the error of the line is at which a run stopped, or the JSON object for it
abbrev pub IsReportIn : DiagnosticFormat → LineRun → conversion.Error → (report : List ℕ) → Type 0
IsReportIn Text line_run fault report =
    IsPositionMessage line_run.task.preprocessing.v1 (buffered_text line_run.state) fault report
IsReportIn Json line_run fault report =
    IsDiagnostic line_run.task (line_number_of line_run) fault (buffered_text line_run.state) report

abbrev pub IsLineReport : LineRun → conversion.Error → (report : List ℕ) → Type 0
IsLineReport line_run fault report = IsReportIn line_run.task.diagnostics line_run fault report

-- ---- documents

-- the line for each document: its text in the mode, the text of Display, or nothing
abbrev pub document_line : task.Output → documents.Line
document_line (output.Text Canonical) = line.Text forms.Canonical
document_line (output.Text Relaxed) = line.Text forms.Relaxed
document_line (output.Text Show) = line.Shown
document_line other_output = line.Nothing

-- ---- files

-- the part has the path of the file that it replaces, and a number
abbrev pub IsPartialFilePath : PartialFile → Type 0
IsPartialFilePath partial_file = (part_number : ℕ)
    × (string_bytes partial_file.path
    ≡ string_bytes partial_file.final_path ++ codes "." ++ decimal part_number ++ codes ".part")
