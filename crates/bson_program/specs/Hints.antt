-- The actual format of a rejected input, by its first bytes.
use Rattle.std.specs.Prelude.{◌≡◌, ◌⊎◌, ◌==◌, ◌||◌, ◌&&◌, ◌+◌, ◌-◌, ◌*◌, ℕ, Result, Err, Bool, true, false, not, List, [], ◌∷◌, ◌++◌, Option, None, Some}
use Rattle.std.specs.Prelude.{if◌then◌else◌, codes, length, nat_eq, nat_le, nat_lt, slice_index, reverse, take, drop, is_some}
use Rattle.std.specs.List.{find, starts_with}
use Rattle.std.specs.Str.{bytes_eq}
use Rattle.bson.specs.Doubles.{Doubles}
use Rattle.bson.specs.Options.{Options}
use Rattle.bson.specs.Doubles.TheVariants.{Finite, Special}
use Rattle.bson_tree.specs.declared.place.Reason.{Reason}
use Rattle.bson_tree.specs.declared.place.Reason.TheVariants.{BadObjectId, WrongShape}
use Rattle.bson_codec.specs.declared.run_end.RunFault.{RunFault}
use Rattle.bson_codec.specs.declared.run_end.RunFault.TheVariants as run_fault
use Rattle.bson_convert.specs.Convert.{IsAccepted}
use Rattle.bson_convert.specs.declared.encode_error.NoBytes.TheVariants.{NoDocument}
use Rattle.bson_convert.specs.declared.error.Error.{Error}
use Rattle.bson_convert.specs.declared.error.Error.TheVariants as error
use Rattle.bson_run.specs.ErrorMessages.{BreaksRule, IsSubslice, located_text}
use Rattle.bson_run.specs.Preprocessed.{IsPreprocessedAs}
use Rattle.bson_run.specs.declared.lines.Counts.{Counts}
use Rattle.bson_run.specs.declared.task.Criterion.TheVariants as criterion
use Rattle.bson_run.specs.declared.task.Preprocessing.{Preprocessing}
use Rattle.bson_run.specs.declared.task.Output.{Output}
use Rattle.bson_run.specs.declared.task.Output.TheVariants as output
use Rattle.bson_run.specs.declared.rule.Rule.{Rule}
use Rattle.bson_run.specs.declared.rule.Rule.TheVariants.{ControlCharacter, TrailingData, Utf8}
use Rattle.bson_program.specs.Messages.{line_len}
use Rattle.bson_program.specs.SingleText.{IsTextRejected}
use Rattle.bson_program.specs.declared.advice.Advice.{Advice}
use Rattle.bson_program.specs.declared.advice.Advice.TheVariants as advice
use Rattle.bson_program.specs.declared.hints.Hint.{Hint}
use Rattle.bson_program.specs.declared.hints.Hint.TheVariants as hint
use Rattle.bson_program.specs.declared.hints.RejectedInput.{RejectedInput}
use Rattle.bson_program.specs.declared.invocation.Input.{Input}
use Rattle.bson_program.specs.declared.invocation.Input.TheVariants.{Text, Lines, Documents}
use Rattle.bson_program.specs.declared.invocation.Invocation.{Invocation}
use Rattle.bson_program.specs.declared.run.RunFailure.{RunFailure}
use Rattle.bson_program.specs.declared.run.RunFailure.TheVariants as failure

-- ---- bytes

abbrev pub is_whitespace : (byte : ℕ) → Bool
is_whitespace byte = (byte == 32) || ((byte == 9) || ((byte == 13) || (byte == 10)))

-- a bracket or a brace that opens
abbrev pub is_opening_bracket : (byte : ℕ) → Bool
is_opening_bracket byte = (byte == 91) || (byte == 123)

abbrev pub is_first_byte_opening : Option ℕ → Bool
is_first_byte_opening None = false
is_first_byte_opening (Some byte) = is_opening_bracket byte

abbrev pub is_byte : (wanted_byte : ℕ) → Option ℕ → Bool
is_byte wanted_byte None = false
is_byte wanted_byte (Some byte) = byte == wanted_byte

-- the first byte that is not blank opens an array
abbrev pub starts_json_array : (first_bytes : List ℕ) → Bool
starts_json_array first_bytes = is_byte 91 (find (λ byte. not (is_whitespace byte)) first_bytes)

-- the first byte that is not blank opens an array or an object
abbrev pub starts_json_text : (first_bytes : List ℕ) → Bool
starts_json_text first_bytes = is_first_byte_opening (find (λ byte. not (is_whitespace byte)) first_bytes)

abbrev pub is_last_byte_opening : Option ℕ → Bool
is_last_byte_opening None = false
is_last_byte_opening (Some byte) = is_opening_bracket byte || (byte == 44)

-- the line opens an array or an object, and ends with what opens another or with a comma
abbrev pub opens_multiline_text : (line : List ℕ) → Bool
opens_multiline_text line =
    is_last_byte_opening (find (λ byte. not (is_whitespace byte)) (reverse line)) && starts_json_text line

-- with its newline
abbrev pub first_line : (first_bytes : List ℕ) → List ℕ
first_line first_bytes = take (line_len first_bytes) first_bytes

abbrev pub after_first_line : (first_bytes : List ℕ) → List ℕ
after_first_line first_bytes = drop (line_len first_bytes) first_bytes

-- a byte is not blank
abbrev pub has_non_whitespace : (bytes : List ℕ) → Bool
has_non_whitespace bytes = is_some (find (λ byte. not (is_whitespace byte)) bytes)

-- ---- the table of files

-- what packs bytes, by the bytes with which its files begin
abbrev pub compression_hint : (first_bytes : List ℕ) → Option Hint
compression_hint first_bytes = if starts_with nat_eq first_bytes (31 ∷ 139 ∷ []) then Some hint.Gzip
    else (if starts_with nat_eq first_bytes (40 ∷ 181 ∷ 47 ∷ 253 ∷ []) then Some hint.Zstd
    else (if starts_with nat_eq first_bytes (66 ∷ 90 ∷ 104 ∷ []) then Some hint.Bzip2
    else (if starts_with nat_eq first_bytes (253 ∷ 55 ∷ 122 ∷ 88 ∷ []) then Some hint.Xz
    else (if starts_with nat_eq first_bytes (109 ∷ 226 ∷ 153 ∷ 129 ∷ []) then Some hint.MongodumpArchive
    else None))))

-- a document of this length begins with an element of this type: one of no elements has 5 bytes, and a document of more
-- than 128 MiB is not distinguished from text
abbrev pub is_document_length : (document_length element_type : ℕ) → Bool
is_document_length document_length element_type = if element_type == 0 then document_length == 5
    else (nat_le element_type 19 || ((element_type == 127) || (element_type == 255)))
    && (nat_lt 5 document_length && nat_le document_length 134217728)

-- the last of so many bytes is 0, or not there
abbrev pub ends_in_zero_byte : (document_length : ℕ) → (first_bytes : List ℕ) → Bool
ends_in_zero_byte document_length first_bytes =
    if (document_length == 0) || nat_lt (length first_bytes) document_length then true
    else slice_index first_bytes (document_length - 1) == 0

-- the number of these bytes, the lowest first
abbrev pub little_endian_number : (byte0 byte1 byte2 byte3 : ℕ) → ℕ
little_endian_number byte0 byte1 byte2 byte3 = byte0 + 256 * (byte1 + 256 * (byte2 + 256 * byte3))

abbrev pub first_document_length : (first_bytes : List ℕ) → ℕ
first_document_length first_bytes =
    little_endian_number (slice_index first_bytes 0) (slice_index first_bytes 1) (slice_index first_bytes 2)
    (slice_index first_bytes 3)

-- a document of BSON begins there: its length, and the type of its first element
abbrev pub is_dump : (first_bytes : List ℕ) → Bool
is_dump first_bytes = if nat_lt (length first_bytes) 5 then false
    else is_document_length (first_document_length first_bytes) (slice_index first_bytes 4)
    && ends_in_zero_byte (first_document_length first_bytes) first_bytes

-- a text begins there in UTF-16, the lower byte of each unit first
abbrev pub is_utf16_little_endian : (first_bytes : List ℕ) → Bool
is_utf16_little_endian first_bytes = if nat_lt (length first_bytes) 4 then false
    else (is_opening_bracket (slice_index first_bytes 0) && not (slice_index first_bytes 2 == 0))
    && ((slice_index first_bytes 1 == 0)
    && ((slice_index first_bytes 3 == 0) && (nat_lt (length first_bytes) 6 || (slice_index first_bytes 5 == 0))))

-- the same with the higher byte first
abbrev pub is_utf16_big_endian : (first_bytes : List ℕ) → Bool
is_utf16_big_endian first_bytes = if nat_lt (length first_bytes) 4 then false
    else (slice_index first_bytes 0 == 0)
    && (is_opening_bracket (slice_index first_bytes 1) && ((slice_index first_bytes 2 == 0)
    && not (slice_index first_bytes 3 == 0)))

-- a byte order mark of UTF-16, or of UTF-8
abbrev pub has_utf16_mark : (first_bytes : List ℕ) → Bool
has_utf16_mark first_bytes =
    starts_with nat_eq first_bytes (255 ∷ 254 ∷ []) || starts_with nat_eq first_bytes (254 ∷ 255 ∷ [])

abbrev pub has_utf8_mark : (first_bytes : List ℕ) → Bool
has_utf8_mark first_bytes = starts_with nat_eq first_bytes (239 ∷ 187 ∷ 191 ∷ [])

-- how a text is encoded that is no UTF-8, or that it is no text
abbrev pub hint_of_encoding : (first_bytes : List ℕ) → Option Hint
hint_of_encoding first_bytes =
    if has_utf16_mark first_bytes then Some hint.Utf16
    else (if is_utf16_little_endian first_bytes then Some hint.Utf16LittleEndian
    else (if is_utf16_big_endian first_bytes then Some hint.Utf16BigEndian
    else (if is_dump first_bytes then Some hint.BsonDocuments else None)))

-- ---- mistakes in a text

abbrev pub starts_with_word : (word remaining_bytes : List ℕ) → Bool
starts_with_word word remaining_bytes = starts_with nat_eq remaining_bytes word

abbrev pub is_comment : (remaining_bytes : List ℕ) → Bool
is_comment remaining_bytes =
    starts_with_word (codes "//") remaining_bytes || starts_with_word (codes "/*") remaining_bytes

-- a call of the mongo shell
abbrev pub is_shell_call : (remaining_bytes : List ℕ) → Bool
is_shell_call remaining_bytes =
    starts_with_word (codes "ObjectId(") remaining_bytes || (starts_with_word (codes "ISODate(") remaining_bytes
    || (starts_with_word (codes "NumberLong(") remaining_bytes || (starts_with_word (codes "NumberInt(") remaining_bytes
    || (starts_with_word (codes "NumberDecimal(") remaining_bytes
    || (starts_with_word (codes "Timestamp(") remaining_bytes
    || (starts_with_word (codes "BinData(") remaining_bytes
    || (starts_with_word (codes "UUID(") remaining_bytes || starts_with_word (codes "DBRef(") remaining_bytes)))))))

-- a value of the mongo shell: a regular expression, a key, or a call of a newer shell
abbrev pub is_shell_value : (remaining_bytes : List ℕ) → Bool
is_shell_value remaining_bytes =
    starts_with_word (codes "/") remaining_bytes || (starts_with_word (codes "new ") remaining_bytes
    || (starts_with_word (codes "MinKey") remaining_bytes || (starts_with_word (codes "MaxKey") remaining_bytes
    || (starts_with_word (codes "Long(") remaining_bytes || (starts_with_word (codes "Int32(") remaining_bytes
    || (starts_with_word (codes "Double(") remaining_bytes
    || starts_with_word (codes "Decimal128(") remaining_bytes))))))

abbrev pub is_not_finite : (remaining_bytes : List ℕ) → Bool
is_not_finite remaining_bytes =
    starts_with_word (codes "NaN") remaining_bytes
    || (starts_with_word (codes "Infinity") remaining_bytes || starts_with_word (codes "-Infinity") remaining_bytes)

-- a name of Python or JavaScript for a value of JSON
abbrev pub is_python_or_js_literal : (remaining_bytes : List ℕ) → Bool
is_python_or_js_literal remaining_bytes =
    starts_with_word (codes "True") remaining_bytes || (starts_with_word (codes "False") remaining_bytes
    || (starts_with_word (codes "None") remaining_bytes || starts_with_word (codes "undefined") remaining_bytes))

-- by the bytes from where a text is not JSON
abbrev pub advice_for_bytes : (remaining_bytes : List ℕ) → Option Advice
advice_for_bytes remaining_bytes = if is_comment remaining_bytes then Some advice.Comment
    else (if is_shell_call remaining_bytes || is_shell_value remaining_bytes then Some advice.MongoShellValue
    else (if is_not_finite remaining_bytes then Some advice.NotFinite
    else (if is_python_or_js_literal remaining_bytes then Some advice.PythonOrJsLiterals else None)))

-- by the bytes after a text: several texts are read without `--strict`, with white space between
abbrev pub advice_for_trailing_data : Input → Doubles → (remaining_bytes : List ℕ) → Option Advice
advice_for_trailing_data Text Special remaining_bytes = Some advice.SeveralTexts
advice_for_trailing_data input doubles remaining_bytes =
    if starts_json_text remaining_bytes then Some advice.SeveralTextsOnOneLine else advice_for_bytes remaining_bytes

-- by the rule that a text breaks, and the bytes from where it does
abbrev pub advice_for_rule : Input → Doubles → Rule → (remaining_bytes : List ℕ) → Option Advice
advice_for_rule input doubles Utf8 remaining_bytes = Some advice.NotUtf8
advice_for_rule input doubles ControlCharacter remaining_bytes = Some advice.ControlCharacter
advice_for_rule input doubles TrailingData remaining_bytes = advice_for_trailing_data input doubles remaining_bytes
advice_for_rule input doubles rule remaining_bytes = advice_for_bytes remaining_bytes

-- the text breaks a rule of JSON, and the bytes from some place on show the mistake
abbrev pub IsSyntaxAdvice : Invocation → (text : List ℕ) → Advice → Type 0
IsSyntaxAdvice invocation text given_advice = (rule : Rule) × (offset : ℕ)
    × BreaksRule (located_text invocation.task.preprocessing.v1 text) rule
    × (advice_for_rule invocation.input invocation.options.doubles rule (drop offset text) ≡ Some given_advice)

-- a text has to be canonical
abbrev pub is_canonical : Output → Bool
is_canonical (output.Nothing criterion.Canonical) = true
is_canonical other_output = false

-- the text that is read instead has a value
abbrev pub IsReadUpgraded : Options → Preprocessing → (text : List ℕ) → Type 0
IsReadUpgraded options preprocessing text =
    (upgraded : List ℕ) × IsPreprocessedAs preprocessing text upgraded × IsAccepted options upgraded

-- `--v1` is not set, and the text has a value with it
abbrev pub IsReadWithV1 : Invocation → (text : List ℕ) → Type 0
IsReadWithV1 invocation text = (invocation.task.preprocessing.v1 ≡ false)
    × (is_canonical invocation.task.output ≡ false)
    × IsReadUpgraded invocation.options (record invocation.task.preprocessing { v1 = true }) text

-- `NaN` or an infinity is not JSON, and the text has a value with `--v1`
abbrev pub IsBareWordAdvice : Invocation → (text : List ℕ) → Advice → Type 0
IsBareWordAdvice invocation text given_advice = (given_advice ≡ advice.NotFiniteV1)
    × IsSyntaxAdvice invocation text advice.NotFinite × IsReadWithV1 invocation text

-- what helps with a text that is rejected with the error
abbrev pub IsAdviceFor : Invocation → Error → (text : List ℕ) → Advice → Type 0
IsAdviceFor invocation error.NotJson text given_advice =
    IsSyntaxAdvice invocation text given_advice ⊎ IsBareWordAdvice invocation text given_advice
IsAdviceFor invocation (error.NotExtendedJson place) text given_advice =
    (given_advice ≡ advice.V1) × IsReadWithV1 invocation text
IsAdviceFor invocation (error.NoBytes reason) text given_advice = (reason ≡ NoDocument)
    × (given_advice ≡ advice.NotADocument)
IsAdviceFor invocation fault text given_advice = ⊥

-- what helps with a text among the bytes that is rejected
abbrev pub IsAdvice : Invocation → (bytes : List ℕ) → Advice → Type 0
IsAdvice invocation bytes given_advice = (fault : Error) × (text : List ℕ) × IsSubslice text bytes
    × IsTextRejected invocation.options invocation.task fault text × IsAdviceFor invocation fault text given_advice

-- the bytes are a text, what is between, and the others
abbrev pub IsSplit : (bytes text after_text : List ℕ) → Type 0
IsSplit bytes text after_text = (separator : List ℕ) × (bytes ≡ text ++ separator ++ after_text)

-- ---- numbers that are read without `--strict`

-- a value is a number that is not a 64-bit integer
abbrev pub is_number_reason : Reason → Bool
is_number_reason (WrongShape expected) = bytes_eq expected.now (codes "not a 64-bit integer")
is_number_reason (BadObjectId object_id_error) = false

abbrev pub is_number_error : Error → Bool
is_number_error (error.NotExtendedJson place) = is_number_reason place.reason
is_number_error fault = false

abbrev pub is_finite_double_fault : RunFault → Bool
is_finite_double_fault run_fault.FiniteDouble = true
is_finite_double_fault fault = false

abbrev pub is_finite_double_failure : Result Counts RunFailure → Bool
is_finite_double_failure (Err (failure.Text file_name line_number fault position_message)) = is_number_error fault
is_finite_double_failure (Err (failure.Document file_name run_end)) = is_finite_double_fault run_end.fault
is_finite_double_failure run_result = false

-- a strict run ended at a finite double
abbrev pub ends_at_finite_double : Doubles → Result Counts RunFailure → Bool
ends_at_finite_double Finite run_result = false
ends_at_finite_double Special run_result = is_finite_double_failure run_result

-- ---- what helps

abbrev pub advice_hint : Option Advice → Option Hint
advice_hint None = None
advice_hint (Some given_advice) = Some (hint.Advised given_advice)

-- where texts are expected
abbrev pub hint_of_texts : RejectedInput → (first_bytes : List ℕ) → Option Hint
hint_of_texts rejected_input first_bytes =
    if rejected_input.is_standard_stream && has_utf8_mark first_bytes then Some hint.ByteOrderMark
    else advice_hint rejected_input.advice

-- an array begins where bytes are made of each line
abbrev pub is_array_to_encode : RejectedInput → (first_bytes : List ℕ) → Bool
is_array_to_encode rejected_input first_bytes = rejected_input.writes_bson_bytes && starts_json_array first_bytes

abbrev pub hint_of_multiline_texts : RejectedInput → (first_bytes : List ℕ) → Hint
hint_of_multiline_texts rejected_input first_bytes =
    if is_array_to_encode rejected_input first_bytes then hint.ArrayToEncode
    else (if rejected_input.writes_bson_bytes then hint.MultilineTextsToEncode else hint.MultilineTexts)

-- no advice, or that the value is not a document
abbrev pub says_no_more : Option Advice → Bool
says_no_more None = true
says_no_more (Some advice.NotADocument) = true
says_no_more (Some given_advice) = false

-- if the first line is the only one, it can be an array
abbrev pub hint_of_one_line : RejectedInput → (first_bytes : List ℕ) → Option Hint
hint_of_one_line rejected_input first_bytes =
    if is_array_to_encode rejected_input first_bytes
    && (not (has_non_whitespace (after_first_line first_bytes)) && says_no_more rejected_input.advice)
    then Some hint.ArrayToEncode
    else advice_hint rejected_input.advice

-- where a text per line is
abbrev pub hint_of_lines : RejectedInput → (first_bytes : List ℕ) → Option Hint
hint_of_lines rejected_input first_bytes =
    if opens_multiline_text (first_line first_bytes) && has_non_whitespace (after_first_line first_bytes)
    then Some (hint_of_multiline_texts rejected_input first_bytes)
    else hint_of_one_line rejected_input first_bytes

-- where documents of BSON are
abbrev pub hint_of_dump : RejectedInput → (first_bytes : List ℕ) → Option Hint
hint_of_dump rejected_input first_bytes =
    if is_dump first_bytes then advice_hint rejected_input.advice
    else (if has_utf16_mark first_bytes then Some hint.Utf16
    else (if starts_json_text first_bytes || has_utf8_mark first_bytes then Some hint.JsonText
    else advice_hint rejected_input.advice))

-- the first that exists
abbrev pub or_else : (preferred otherwise : Option Hint) → Option Hint
or_else None otherwise = otherwise
or_else (Some hint) otherwise = Some hint

abbrev pub hint_of_input : Input → RejectedInput → (first_bytes : List ℕ) → Option Hint
hint_of_input Text rejected_input first_bytes =
    or_else (hint_of_encoding first_bytes) (hint_of_texts rejected_input first_bytes)
hint_of_input Lines rejected_input first_bytes =
    or_else (hint_of_encoding first_bytes) (hint_of_lines rejected_input first_bytes)
hint_of_input Documents rejected_input first_bytes = hint_of_dump rejected_input first_bytes

abbrev pub hint_of : RejectedInput → (first_bytes : List ℕ) → Option Hint
hint_of rejected_input first_bytes =
    or_else (compression_hint first_bytes) (hint_of_input rejected_input.input rejected_input first_bytes)
