-- The output of one text.
use Rattle.std.specs.Prelude.{◌≡◌, ◌⊎◌, ◌-◌, ℕ, List, [], Option, None, Some, length, nat_eq, take, if◌then◌else◌}
use Rattle.std.specs.List.{ends_with}
use Rattle.bson.specs.Options.{Options}
use Rattle.bson_convert.specs.Convert.{IsRejectedIn, IsUncanonicalIn, newline}
use Rattle.bson_run.specs.Encode.{Encodes, IsEncodeErrorBy}
use Rattle.bson_convert.specs.InOrder.{ConvertsBy}
use Rattle.bson_run.specs.Lines.{CriterionAccepts}
use Rattle.bson_run.specs.Indent.{mode_of, ConvertsIndented}
use Rattle.bson_run.specs.Preprocessed.{IsPreprocessedAs, IsPreprocessingError}
use Rattle.bson_convert.specs.declared.error.Error.{Error}
use Rattle.bson_convert.specs.declared.mode.Mode.{Mode}
use Rattle.bson_convert.specs.declared.mode.Mode.TheVariants.{Show}
use Rattle.bson_run.specs.declared.task.Criterion.{Criterion}
use Rattle.bson_run.specs.declared.task.Criterion.TheVariants as criterion
use Rattle.bson_run.specs.declared.task.Criterion.TheVariants.{Valid}
use Rattle.bson_run.specs.declared.task.Task.{Task}
use Rattle.bson_run.specs.declared.task.Output.{Output}
use Rattle.bson_run.specs.declared.task.Output.TheVariants.{Text, Bytes, Nothing}
use Rattle.bson_program.specs.declared.invocation.Invocation.{Invocation}

-- ---- what a text gives

-- the output in the mode, with spaces that of its form over several lines
abbrev pub WritesIndented : Options → (indent_width : Option ℕ) → Mode → (text output : List ℕ) → Type 0
WritesIndented options None mode text output = ConvertsBy options.key_order options mode text output
WritesIndented options (Some indent_width) Show text output = ConvertsBy options.key_order options Show text output
WritesIndented options (Some indent_width) mode text output =
    (form : _) × (mode ≡ mode_of form) × ConvertsIndented options.key_order options form indent_width text output

-- the bytes before a newline at their end
abbrev pub without_newline : (bytes : List ℕ) → List ℕ
without_newline bytes = if ends_with nat_eq bytes newline then take (length bytes - 1) bytes else bytes

-- the part of a text that the criterion checks; a newline may follow a canonical text
abbrev pub checked_part : Criterion → (text : List ℕ) → List ℕ
checked_part Valid text = text
checked_part criterion.Canonical text = without_newline text

-- nothing, of a text that the criterion accepts
abbrev pub ChecksText : Options → Criterion → (text output : List ℕ) → Type 0
ChecksText options criterion text output = CriterionAccepts options criterion (checked_part criterion text)
    × (output ≡ [])

-- why it accepts none
abbrev pub IsCheckFailure : Options → Criterion → Error → (text : List ℕ) → Type 0
IsCheckFailure options Valid fault text = IsRejectedIn options fault text
IsCheckFailure options criterion.Canonical fault text = IsUncanonicalIn options fault (without_newline text)

-- what is written of a text that was preprocessed
abbrev pub WritesPreprocessed : Invocation → Output → (text output : List ℕ) → Type 0
WritesPreprocessed invocation (Text mode) text output =
    WritesIndented invocation.options invocation.indent mode text output
WritesPreprocessed invocation Bytes text output = Encodes invocation.options.key_order invocation.options text output
WritesPreprocessed invocation (Nothing criterion) text output = ChecksText invocation.options criterion text output

-- what is written of a text, which is preprocessed first
abbrev pub IsOutputOfText : Invocation → (text output : List ℕ) → Type 0
IsOutputOfText invocation text output = (preprocessed : List ℕ)
    × IsPreprocessedAs invocation.task.preprocessing text preprocessed
    × WritesPreprocessed invocation invocation.task.output preprocessed output

-- why nothing is written of a text that was preprocessed
abbrev pub IsPreprocessedRejected : Options → Output → Error → (text : List ℕ) → Type 0
IsPreprocessedRejected options (Text mode) fault text = IsRejectedIn options fault text
IsPreprocessedRejected options Bytes fault text = IsEncodeErrorBy options.key_order options fault text
IsPreprocessedRejected options (Nothing criterion) fault text = IsCheckFailure options criterion fault text

-- why nothing is written of a text: it is rejected, or the text that is read in its place
abbrev pub IsTextRejected : Options → Task → Error → (text : List ℕ) → Type 0
IsTextRejected options task fault text = IsPreprocessingError task.preprocessing fault text
    ⊎ ((preprocessed : List ℕ) × IsPreprocessedAs task.preprocessing text preprocessed
    × IsPreprocessedRejected options task.output fault preprocessed)
