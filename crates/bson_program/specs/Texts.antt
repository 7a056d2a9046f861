-- A run over the texts of an input. All its bytes are one JSON text, or else a sequence of texts with white space between;
-- or they are an array, of whose elements each is a text.
use Rattle.std.specs.Prelude.{◌≡◌, ◌⊎◌, ◌+◌, ℕ, Bool, true, false, List, [], ◌∷◌, ◌++◌, Option, IsUtf8, string_bytes}
use Rattle.std.specs.Prelude.{drop, length, nat_eq, nat_lt, take, if◌then◌else◌}
use Rattle.std.specs.List.{starts_with}
use Rattle.std.specs.Io.KnownBytes.{Appends, Keeps}
use Rattle.bson.specs.Doubles.{Doubles}
use Rattle.bson.specs.Doubles.TheVariants.{Finite, Special}
use Rattle.bson_json.specs.Sequence.{between_brackets, texts_in, IsArray}
use Rattle.bson_json.specs.declared.sequence.Separator.TheVariants.{Comma, WhiteSpace}
use Rattle.bson_convert.specs.Run.{ReadsAll}
use Rattle.bson_convert.specs.declared.error.Error.{Error}
use Rattle.bson_convert.specs.declared.error.Error.TheVariants.{NotJson, OutOfMemory}
use Rattle.bson_run.specs.Accepted.{IsUtf8Accepted, Outputs}
use Rattle.bson_run.specs.Lines.{WritesText}
use Rattle.bson_run.specs.declared.accepted.Accepted.{Accepted}
use Rattle.bson_run.specs.declared.task.Criterion.TheVariants as criterion
use Rattle.bson_run.specs.declared.task.Output as task
use Rattle.bson_run.specs.declared.task.Output.TheVariants.{Nothing}
use Rattle.bson_program.specs.Hints.{has_non_whitespace}
use Rattle.bson_program.specs.Messages.{is_standard_stream}
use Rattle.bson_program.specs.SingleText.{IsOutputOfText, IsTextRejected}
use Rattle.bson_program.specs.TextErrors.{IsErrorReport}
use Rattle.bson_program.specs.declared.invocation.Invocation.{Invocation}
use Rattle.bson_program.specs.declared.run.RunFailure.{RunFailure}
use Rattle.bson_program.specs.declared.run.RunFailure.TheVariants.{Input, NotArray, Output, Text}

-- ---- the bytes of an input

-- a named file may begin with a byte order mark, unless its text has to be canonical
abbrev pub byte_order_mark_for : task.Output → List ℕ
byte_order_mark_for (Nothing criterion.Canonical) = []
byte_order_mark_for output = 239 ∷ 187 ∷ 191 ∷ []

abbrev pub byte_order_mark_of : Invocation → (file_name : List ℕ) → List ℕ
byte_order_mark_of invocation file_name =
    if is_standard_stream file_name then [] else byte_order_mark_for invocation.task.output

abbrev pub after_byte_order_mark : (byte_order_mark bytes : List ℕ) → List ℕ
after_byte_order_mark byte_order_mark bytes =
    if starts_with nat_eq bytes byte_order_mark then drop (length byte_order_mark) bytes else bytes

-- the bytes after the mark
abbrev pub content_of : Invocation → (file_name bytes : List ℕ) → List ℕ
content_of invocation file_name bytes = after_byte_order_mark (byte_order_mark_of invocation file_name) bytes

-- ---- what they give

-- several texts are read, unless the run is strict or the text has to be canonical
abbrev pub reads_several : Doubles → task.Output → Bool
reads_several Special output = false
reads_several Finite (Nothing criterion.Canonical) = false
reads_several Finite output = true

-- they are two texts or more, and several are read
abbrev pub is_sequence : Invocation → (content : List ℕ) → Bool
is_sequence invocation content =
    if reads_several invocation.options.doubles invocation.task.output then nat_lt 1 (length (texts_in WhiteSpace content))
    else false

-- they are read as a sequence: they are not one JSON text
pub record IsSequence (invocation : Invocation) (content : List ℕ) : Type 0 where
  pub not_single_text : IsTextRejected invocation.options invocation.task NotJson content
  pub several : is_sequence invocation content ≡ true

-- the elements of an array, by the bytes between its brackets: none if these are white space alone
abbrev pub elements_in : (between : List ℕ) → List (List ℕ)
elements_in between = if has_non_whitespace between then texts_in Comma between else []

-- the outputs of texts, one after the other
pub data AreTextOutputs (invocation : Invocation) : (texts : List (List ℕ)) → (output : List ℕ) → Type 0 where
  no_texts : AreTextOutputs invocation [] []
  one_more_text : {texts : List (List ℕ)} {written : List ℕ} (text output : List ℕ)
      → AreTextOutputs invocation texts written
      → IsOutputOfText invocation text output
      → AreTextOutputs invocation (texts ++ text ∷ []) (written ++ output)

-- the content is an array, and the outputs of its elements are these
pub record HasOutputOfArray (invocation : Invocation) (content output : List ℕ) : Type 0 where
  pub opening : ℕ
  pub closing : ℕ
  pub is_array : IsArray content opening closing
  pub outputs : AreTextOutputs invocation (elements_in (between_brackets content opening closing)) output

-- the output of the one text, or those of the sequence, or those of the elements
abbrev pub HasOutputOfTexts : (reads_array : Bool) → Invocation → (content output : List ℕ) → Type 0
HasOutputOfTexts true invocation content output = HasOutputOfArray invocation content output
HasOutputOfTexts false invocation content output =
    IsOutputOfText invocation content output
    ⊎ (IsSequence invocation content × AreTextOutputs invocation (texts_in WhiteSpace content) output)

-- ---- a run
--
-- Before and after are the remaining bytes of the reader, and the other pair is the contents of the output writer,
-- before and after the run: None if they are not known.

-- all was read, and what the bytes give was written
pub record ConvertsTexts (invocation : Invocation) (file_name : List ℕ)
    (before after output_before output_after : Option (List ℕ)) : Type 0 where
  pub bytes : List ℕ
  pub output : List ℕ
  pub reads_all : ReadsAll before after bytes
  pub writes_output : HasOutputOfTexts invocation.reads_array invocation (content_of invocation file_name bytes) output
  pub utf8 : WritesText invocation.task.output → IsUtf8 output
  pub written : Appends output_before output_after output

-- the text has this output
pub record HasTextOutput (invocation : Invocation) (text output : List ℕ) : Type 0 where
  pub writes_output : IsOutputOfText invocation text output
  pub utf8 : WritesText invocation.task.output → IsUtf8 output

-- the text was rejected, and nothing of it was written; the report says where its error is
abbrev pub IsTextFailure : Invocation → Error → (report : List ℕ) → (line_number : ℕ) → (content : List ℕ)
    → (start : ℕ) → (text : List ℕ) → Type 0
IsTextFailure invocation OutOfMemory report line_number content start text = (line_number ≡ 0) × (report ≡ [])
IsTextFailure invocation fault report line_number content start text =
    IsTextRejected invocation.options invocation.task fault text
    × IsErrorReport invocation.task fault report line_number content start text

-- what each failure at a text says of it
abbrev pub FailsAtText : Invocation → RunFailure → (file_name content : List ℕ) → (start : ℕ) → (text : List ℕ)
    → (output_before output_after : Option (List ℕ)) → Type 0
FailsAtText invocation (Output failed_name error) file_name content start text output_before output_after =
    (failed_name.now ≡ string_bytes invocation.output) × ((output : List ℕ) × HasTextOutput invocation text output)
FailsAtText invocation
    (Text failed_name line_number fault position_message) file_name content start text output_before output_after =
    (failed_name.now ≡ file_name)
    × IsTextFailure invocation fault (string_bytes position_message) line_number content start text
    × Keeps output_before output_after
FailsAtText invocation failure file_name content start text output_before output_after = ⊥

abbrev pub IsNotJson : RunFailure → Type 0
IsNotJson (Text failed_name line_number NotJson position_message) = Unit {0}
IsNotJson failure = ⊥

-- all bytes are the text; if they are not JSON, they are not a sequence either
pub record IsWholeInput (invocation : Invocation) (failure : RunFailure) (content text written : List ℕ)
    (start : ℕ) : Type 0 where
  pub is_content : text ≡ content
  pub starts_at_zero : start ≡ 0
  pub nothing_written : written ≡ []
  pub not_sequence : IsNotJson failure → is_sequence invocation content ≡ false

-- the text is one of these, and the outputs of those before it were written
pub record IsTextAmong (invocation : Invocation) (texts : List (List ℕ)) (content text written : List ℕ)
    (start : ℕ) : Type 0 where
  pub texts_before : List (List ℕ)
  pub texts_after : List (List ℕ)
  pub is_among : texts ≡ texts_before ++ text ∷ texts_after
  pub is_text_at_start : take (length text) (drop start content) ≡ text
  pub outputs : AreTextOutputs invocation texts_before written

-- the text is all bytes, or one of a sequence
abbrev pub IsTextOfInput : Invocation → RunFailure → (content text written : List ℕ) → (start : ℕ) → Type 0
IsTextOfInput invocation failure content text written start = IsWholeInput invocation failure content text written start
    ⊎ (IsSequence invocation content × IsTextAmong invocation (texts_in WhiteSpace content) content text written start)

-- the text is an element of an array
abbrev pub IsArrayElement : Invocation → (content text written : List ℕ) → (start : ℕ) → Type 0
IsArrayElement invocation content text written start = (opening : ℕ) × (closing : ℕ) × IsArray content opening closing
    × IsTextAmong invocation (elements_in (between_brackets content opening closing)) content text written start

-- the text at which a run stops, and what was written before it
pub record StopsAt (IsStop : (text written : List ℕ) → (start : ℕ) → Type 0) (invocation : Invocation)
    (failure : RunFailure) (file_name content : List ℕ) (output_before output_after : Option (List ℕ)) : Type 0 where
  pub text : List ℕ
  pub start : ℕ
  pub written : List ℕ
  pub output_between : Option (List ℕ)
  pub is_stop : IsStop text written start
  pub written_before : Appends output_before output_between written
  pub fails_at_text : FailsAtText invocation failure file_name content start text output_between output_after

-- the content is not an array
abbrev pub IsArrayFailure : RunFailure → (file_name content : List ℕ) → (output_before output_after : Option (List ℕ))
    → Type 0
IsArrayFailure (NotArray failed_name) file_name content output_before output_after = (failed_name.now ≡ file_name)
    × ((opening closing : ℕ) → IsArray content opening closing → ⊥) × Keeps output_before output_after
IsArrayFailure failure file_name content output_before output_after = ⊥

-- why a run stops
abbrev pub StopsOn : (reads_array : Bool) → Invocation → RunFailure → (file_name content : List ℕ)
    → (output_before output_after : Option (List ℕ)) → Type 0
StopsOn true invocation failure file_name content output_before output_after =
    IsArrayFailure failure file_name content output_before output_after
    ⊎ StopsAt (IsArrayElement invocation content) invocation failure file_name content output_before output_after
StopsOn false invocation failure file_name content output_before output_after =
    StopsAt (IsTextOfInput invocation failure content) invocation failure file_name content output_before output_after

-- all was read before the run stopped
pub record FailsAfterReading (invocation : Invocation) (failure : RunFailure) (file_name : List ℕ)
    (before after output_before output_after : Option (List ℕ)) : Type 0 where
  pub bytes : List ℕ
  pub reads_all : ReadsAll before after bytes
  pub stops_on : StopsOn invocation.reads_array invocation failure file_name (content_of invocation file_name bytes)
      output_before output_after

-- the bytes could not be read, for a reader that failed or for lack of memory
abbrev pub CannotReadInput : RunFailure → (file_name : List ℕ) → (output_before output_after : Option (List ℕ)) → Type 0
CannotReadInput (Input failed_name error) file_name output_before output_after = (failed_name.now ≡ file_name)
    × Keeps output_before output_after
CannotReadInput (Text failed_name line_number OutOfMemory position_message) file_name output_before output_after =
    (failed_name.now ≡ file_name) × (line_number ≡ 0) × (string_bytes position_message ≡ [])
    × Keeps output_before output_after
CannotReadInput failure file_name output_before output_after = ⊥

abbrev pub FailsOnInput : Invocation → RunFailure → (file_name : List ℕ)
    → (before after output_before output_after : Option (List ℕ)) → Type 0
FailsOnInput invocation failure file_name before after output_before output_after =
    CannotReadInput failure file_name output_before output_after
    ⊎ FailsAfterReading invocation failure file_name before after output_before output_after

-- ---- for private clauses

-- what was accepted has an output, which was not written whole; or memory is lacking
abbrev pub CannotWriteAccepted : Invocation → RunFailure → (file_name : List ℕ) → Accepted
    → (output_before output_after : Option (List ℕ)) → Type 0
CannotWriteAccepted invocation (Output failed_name error) file_name accepted output_before output_after =
    (failed_name.now ≡ string_bytes invocation.output)
    × ((output : List ℕ) × Outputs invocation.options accepted output × (IsUtf8Accepted accepted → IsUtf8 output))
CannotWriteAccepted invocation
    (Text failed_name line_number OutOfMemory position_message) file_name accepted output_before output_after =
    (failed_name.now ≡ file_name) × (line_number ≡ 0) × (string_bytes position_message ≡ [])
    × Keeps output_before output_after
CannotWriteAccepted invocation failure file_name accepted output_before output_after = ⊥

-- what was accepted was written
pub record WritesAcceptedText (invocation : Invocation) (accepted : Accepted)
    (output_before output_after : Option (List ℕ)) : Type 0 where
  pub output : List ℕ
  pub outputs : Outputs invocation.options accepted output
  pub utf8 : IsUtf8Accepted accepted → IsUtf8 output
  pub written : Appends output_before output_after output

-- the outputs of all texts were written
pub record WritesAllTexts (invocation : Invocation) (texts : List (List ℕ))
    (output_before output_after : Option (List ℕ)) : Type 0 where
  pub output : List ℕ
  pub outputs : AreTextOutputs invocation texts output
  pub utf8 : WritesText invocation.task.output → IsUtf8 output
  pub written : Appends output_before output_after output

-- the output of a text was written
pub record WritesTextOutput (invocation : Invocation) (text : List ℕ)
    (output_before output_after : Option (List ℕ)) : Type 0 where
  pub output : List ℕ
  pub text_output : HasTextOutput invocation text output
  pub written : Appends output_before output_after output

-- the content is an array, and the outputs of its elements were written
pub record WritesElements (invocation : Invocation) (content : List ℕ)
    (output_before output_after : Option (List ℕ)) : Type 0 where
  pub opening : ℕ
  pub closing : ℕ
  pub is_array : IsArray content opening closing
  pub elements : WritesAllTexts invocation (elements_in (between_brackets content opening closing)) output_before output_after

-- a sequence is in the content, and ends after so many bytes
pub record IsWithin (content bytes : List ℕ) (end : ℕ) : Type 0 where
  pub before : List ℕ
  pub after : List ℕ
  pub split : content ≡ before ++ (bytes ++ after)
  pub is_end : end ≡ length before + length bytes
