-- The line on standard error that helps with a rejected input.
use Rattle.std.specs.Prelude.{◌≡◌, ℕ, Result, Ok, Err, Bool, true, false, List, [], ◌++◌, Option, Some}
use Rattle.std.specs.Prelude.{if◌then◌else◌, codes, nat_lt}
use Rattle.bson.specs.Doubles.{Doubles}
use Rattle.bson.specs.Doubles.TheVariants.{Finite, Special}
use Rattle.bson.specs.KeyOrder.{KeyOrder}
use Rattle.bson.specs.KeyOrder.TheVariants.{Ascending}
use Rattle.bson_model.specs.declared.options.DuplicateKeys.{DuplicateKeys}
use Rattle.bson_model.specs.declared.options.DuplicateKeys.TheVariants.{LastWins, Reject}
use Rattle.bson_codec.specs.declared.run_end.RunFault.{RunFault}
use Rattle.bson_codec.specs.declared.run_end.RunFault.TheVariants as run_fault
use Rattle.bson_convert.specs.declared.error.Error.{Error}
use Rattle.bson_convert.specs.declared.error.Error.TheVariants as error
use Rattle.bson_run.specs.declared.lines.Counts.{Counts}
use Rattle.bson_run.specs.declared.task.Preprocessing.{Preprocessing}
use Rattle.bson_run.specs.declared.task.Output.{Output}
use Rattle.bson_run.specs.declared.task.Output.TheVariants as output
use Rattle.bson_program.specs.Messages.{shown_name}
use Rattle.bson_program.specs.Hints.{hint_of}
use Rattle.bson_program.specs.Invocation.{mode_arg}
use Rattle.bson_program.specs.declared.advice.Advice.{Advice}
use Rattle.bson_program.specs.declared.advice.Advice.TheVariants as advice
use Rattle.bson_program.specs.declared.hints.Hint.{Hint}
use Rattle.bson_program.specs.declared.hints.Hint.TheVariants as hint
use Rattle.bson_program.specs.declared.hints.RejectedInput.{RejectedInput}
use Rattle.bson_program.specs.declared.invocation.Input.{Input}
use Rattle.bson_program.specs.declared.invocation.Input.TheVariants.{Lines}
use Rattle.bson_program.specs.declared.invocation.Invocation.{Invocation}
use Rattle.bson_program.specs.declared.invocation.Purpose.{Purpose}
use Rattle.bson_program.specs.declared.invocation.Purpose.TheVariants as purpose
use Rattle.bson_program.specs.declared.run.RunFailure.{RunFailure}
use Rattle.bson_program.specs.declared.run.RunFailure.TheVariants as failure

-- ---- the text

abbrev pub advice_text : Advice → List ℕ
advice_text advice.FiniteDoubles = codes "has numbers that are read without --strict"
advice_text advice.SeveralTexts = codes "has several texts, which are read without --strict"
advice_text advice.MongoShellValue =
    codes "has values of the mongo shell, such as ObjectId(..) for {\"$oid\": ..}; EJSON.stringify writes Extended JSON"
advice_text advice.NotFinite = codes "has NaN or Infinity, which JSON does not have; write {\"$numberDouble\": \"NaN\"}"
advice_text advice.NotFiniteV1 = codes "has NaN or Infinity, which JSON does not have; they are read with --v1"
advice_text advice.PythonOrJsLiterals = codes "has names of Python or JavaScript; JSON has true, false and null"
advice_text advice.Comment = codes "has a comment, and JSON has none; remove it"
advice_text advice.SeveralTextsOnOneLine = codes "has several texts on one line; write each on a line of its own"
advice_text advice.ControlCharacter =
    codes "has a control character in a string; write a tab as \\t, a newline as \\n, any other as \\u0001"
advice_text advice.NotUtf8 = codes "is not UTF-8; if it is Latin-1, give it through 'iconv -f latin1 -t utf-8'"
advice_text advice.V1 = codes "has Extended JSON v1, which is read with --v1"
advice_text advice.NotADocument =
    codes "has a value that is not a document, and encode makes bytes of documents alone"

-- what reads an input instead: the command has the mode and its options
abbrev pub hint_text : Hint → (command : List ℕ) → List ℕ
hint_text hint.Gzip command = codes "is compressed; give it through 'gzip -dc'"
hint_text hint.Zstd command = codes "is compressed; give it through 'zstd -dc'"
hint_text hint.Bzip2 command = codes "is compressed; give it through 'bzip2 -dc'"
hint_text hint.Xz command = codes "is compressed; give it through 'xz -dc'"
hint_text hint.MongodumpArchive command = codes "is an archive of mongodump; mongodump without '--archive' writes dumps"
hint_text hint.BsonDocuments command = codes "holds BSON bytes, and no text; 'bson decode' reads them"
hint_text hint.JsonText command =
    codes "holds text, and no BSON bytes; 'bson lines " ++ command ++ codes "' reads a document per line"
hint_text hint.Utf16 command = codes "is UTF-16, and JSON is UTF-8; give it through 'iconv -f UTF-16 -t UTF-8'"
hint_text hint.Utf16LittleEndian command =
    codes "is UTF-16, and JSON is UTF-8; give it through 'iconv -f UTF-16LE -t UTF-8'"
hint_text hint.Utf16BigEndian command =
    codes "is UTF-16, and JSON is UTF-8; give it through 'iconv -f UTF-16BE -t UTF-8'"
hint_text hint.ByteOrderMark command = codes "begins with a byte order mark, which only a named file may"
hint_text hint.MultilineTexts command =
    codes "has texts over several lines; 'bson " ++ command ++ codes "' reads them"
hint_text hint.MultilineTextsToEncode command =
    codes "has texts over several lines; 'bson " ++ command ++ codes "' makes a line of each"
hint_text hint.ArrayToEncode command = codes "has a JSON array, whose documents are encoded with --array"
hint_text (hint.Advised given_advice) command = advice_text given_advice

-- the mode of a command that reads the input; lines that become bytes are texts for `canonical`
abbrev pub reading_mode : Input → Purpose → Output → List ℕ
reading_mode Lines purpose output.Bytes = codes "canonical"
reading_mode input purpose other_output = mode_arg purpose other_output

-- the option that sorts keys is set, and not another that sorts them
abbrev pub sorts_keys : Purpose → Doubles → KeyOrder → Bool
sorts_keys purpose.Output Finite Ascending = true
sorts_keys purpose doubles key_order = false

abbrev pub is_strict : Doubles → Bool
is_strict Special = true
is_strict Finite = false

abbrev pub options_of_preprocessing : (reads_v1 : Bool) → DuplicateKeys → List ℕ
options_of_preprocessing true LastWins = codes " --v1"
options_of_preprocessing false Reject = codes " --no-double-keys"
options_of_preprocessing true Reject = codes " --v1 --no-double-keys"
options_of_preprocessing false LastWins = []

abbrev pub preprocessing_options : Preprocessing → List ℕ
preprocessing_options preprocessing = options_of_preprocessing preprocessing.v1 preprocessing.duplicate_keys

abbrev pub option_if : (is_given : Bool) → (option : List ℕ) → List ℕ
option_if is_given option = if is_given then option else []

-- the mode and the options of a command that reads the input
abbrev pub reading_command : Invocation → List ℕ
reading_command invocation = reading_mode invocation.input invocation.purpose invocation.task.output
    ++ option_if (sorts_keys invocation.purpose invocation.options.doubles invocation.options.key_order)
    (codes " --sort-keys")
    ++ option_if (is_strict invocation.options.doubles) (codes " --strict") ++ preprocessing_options invocation.task.preprocessing

-- the line on standard error
abbrev pub hint_line : (file_name : List ℕ) → Hint → (command : List ℕ) → List ℕ
hint_line file_name given_hint command =
    codes "bson: " ++ shown_name file_name (codes "input") ++ codes " " ++ hint_text given_hint command

-- the line helps with an input whose first bytes these are, and with whose text this does
abbrev pub IsHelpFor : Invocation → (file_name first_bytes : List ℕ) → (given_advice : Option Advice) → (line : List ℕ)
    → Type 0
IsHelpFor invocation file_name first_bytes given_advice line = (rejected_input : RejectedInput) × (found_hint : Hint)
    × (rejected_input.input ≡ invocation.input)
    × (rejected_input.advice ≡ given_advice) × (hint_of rejected_input first_bytes ≡ Some found_hint)
    × (line ≡ hint_line file_name found_hint (reading_command invocation))

-- ---- how a run ended

-- the error is that of a text
abbrev pub is_text_error : Error → Bool
is_text_error error.CannotRead = false
is_text_error error.CannotWrite = false
is_text_error error.OutOfMemory = false
is_text_error fault = true

-- the error is that of a document
abbrev pub is_document_error : RunFault → Bool
is_document_error (run_fault.Malformed reason offset) = true
is_document_error run_fault.FiniteDouble = true
is_document_error fault = false

-- an input was rejected, or a part of it
abbrev pub is_rejected : Result Counts RunFailure → Bool
is_rejected (Ok counts) = nat_lt 0 counts.refused
is_rejected (Err (failure.Text file_name line_number fault position_message)) = is_text_error fault
is_rejected (Err (failure.Document file_name run_end)) = is_document_error run_end.fault
is_rejected (Err (failure.NotArray file_name)) = true
is_rejected (Err run_failure) = false
