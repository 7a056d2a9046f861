-- The meaning of an argument, and what it changes.
use Rattle.std.proofs.Common.{◌≡◌, ℕ, Bool, true, false, List, [], ◌∷◌, Option, Some, None, refl, sym, subst, if◌then◌else◌, bytes_eq, codes, inl, inr, ◌==◌, slice_index, rules}
use Rattle.bson_run.specs.declared.task.Output.{Output}
use Rattle.bson_run.specs.declared.task.Output.TheVariants as output
use Rattle.bson_convert.specs.declared.mode.Mode.TheVariants as modes
use Rattle.bson_program.specs.Flags.{has_flag}
use Rattle.bson_program.specs.Invocation.{command_meaning, command_words, meaning_in, meaning_of, mode_meaning, mode_words, operand_meaning, option_words}
use Rattle.bson_program.specs.Invocation.{word_meaning, AreParsed, no_args, one_more_arg, Changes, IsJoined, IsSet, IsSetOnce, IsValueSet}
use Rattle.bson_program.specs.declared.arguments.ArgsSoFar.{ArgsSoFar}
use Rattle.bson_program.specs.declared.invocation.Flag.{Flag}
use Rattle.bson_program.specs.declared.invocation.Flag.TheVariants as flag
use Rattle.bson_program.specs.declared.invocation.Input.{Input}
use Rattle.bson_program.specs.declared.invocation.Input.TheVariants.{Text, Lines, Documents}
use Rattle.bson_program.specs.declared.invocation.Purpose.{Purpose}
use Rattle.bson_program.specs.declared.invocation.Purpose.TheVariants as purpose
use Rattle.bson_program.specs.declared.meanings.ExpectedArg.{ExpectedArg}
use Rattle.bson_program.specs.declared.meanings.ExpectedArg.TheVariants.{AnyArg, Value, Operand}
use Rattle.bson_program.specs.declared.meanings.Meaning.{Meaning}
use Rattle.bson_program.specs.declared.meanings.Meaning.TheVariants.{Help, Version, Fails, Expects, Sets, HasValue, Names, File}
use Rattle.bson_program.specs.declared.meanings.ParsedArg.TheVariants as parsed

-- no option has its value in the argument
pub unjoined : (arg : List ℕ) → ((value : List ℕ) → IsJoined flag.Indent value arg → ⊥) → ((value : List ℕ) → IsJoined flag.Jobs value arg → ⊥)
    → ((value : List ℕ) → IsJoined flag.Diagnostics value arg → ⊥) → ((value : List ℕ) → IsJoined flag.Output value arg → ⊥)
    → (it : Flag) (value : List ℕ) → IsJoined it value arg → ⊥
unjoined arg indent jobs format file flag.Indent value is = indent value is
unjoined arg indent jobs format file flag.Jobs value is = jobs value is
unjoined arg indent jobs format file flag.Diagnostics value is = format value is
unjoined arg indent jobs format file flag.Output value is = file value is
unjoined arg indent jobs format file other value is = absurd is

-- ---- digests and comparisons are of canonical text

-- a mode that is not named yet writes its output
abbrev pub Fits : Purpose → Option Output → Type 0
Fits purpose.Output named_kind = Unit {0}
Fits other (Some named_kind) = named_kind ≡ output.Text modes.Canonical
Fits other None = ⊥

abbrev FitsMeaning : (old : Purpose) → Meaning → Type 0
FitsMeaning old (Names input purpose named_kind) = Fits purpose named_kind
FitsMeaning old (File named_kind) = Fits old (Some named_kind)
FitsMeaning old meaning = Unit {0}

abbrev AllFit : (old : Purpose) → List (List ℕ × Meaning) → Type 0
AllFit old [] = Unit {0}
AllFit old (row ∷ rows) = FitsMeaning old row.1 × AllFit old rows

either : (old : Purpose) (b : Bool) (x y : Meaning) → FitsMeaning old x → FitsMeaning old y → FitsMeaning old (if b then x else y)
either old true x y fits other = fits
either old false x y fits other = other

in_rows : (old : Purpose) (rows : List (List ℕ × Meaning)) (arg : List ℕ) (otherwise : Meaning) → AllFit old rows → FitsMeaning old otherwise
    → FitsMeaning old (meaning_in rows arg otherwise)
in_rows old [] arg otherwise fit other = other
in_rows old (row ∷ rows) arg otherwise fit other =
    either old (bytes_eq arg row.0) row.1 (meaning_in rows arg otherwise) fit.0 (in_rows old rows arg otherwise fit.1 other)

commands_fit : (old : Purpose) (input : Input) (arg : List ℕ) → Fits old None → FitsMeaning old (command_meaning arg input)
commands_fit old Text arg fits = in_rows old (command_words Text) arg _ (tt, (tt, (tt, tt))) tt
commands_fit old Lines arg fits = tt
commands_fit purpose.Output Documents arg fits = tt
commands_fit purpose.Digests Documents arg fits = absurd fits
commands_fit purpose.Comparison Documents arg fits = absurd fits

modes_fit : (old : Purpose) (input : Input) (arg : List ℕ) → Fits old None → FitsMeaning old (mode_meaning arg input)
modes_fit old input arg fits = in_rows old (mode_words input) arg (command_meaning arg input) (tt, (tt, (tt, (tt, (refl, (refl, tt))))))
    (commands_fit old input arg fits)

operand_fits : (old : Purpose) (input : Input) (kind : Option Output) (arg : List ℕ) → Fits old kind → FitsMeaning old (operand_meaning arg input kind)
operand_fits old input None arg fits = modes_fit old input arg fits
operand_fits old input (Some kind) arg fits = fits

word_fits : (old : Purpose) (input : Input) (kind : Option Output) (arg : List ℕ) → Fits old kind → FitsMeaning old (word_meaning arg input kind)
word_fits old input None arg fits = either old (bytes_eq arg (codes "help")) Help (mode_meaning arg input) tt (modes_fit old input arg fits)
word_fits old input (Some kind) arg fits = fits

meaning_fits : (old : Purpose) (expected : ExpectedArg) (input : Input) (kind : Option Output) (arg : List ℕ) → Fits old kind
    → FitsMeaning old (meaning_of expected arg input kind)
meaning_fits old (Value flag) input kind arg fits = tt
meaning_fits old Operand input kind arg fits = operand_fits old input kind arg fits
meaning_fits old AnyArg input kind arg fits = in_rows old option_words arg _ (search rules)
    (either old (bytes_eq arg (codes "-")) (operand_meaning arg input kind) _ (operand_fits old input kind arg fits)
    (either old (slice_index arg 0 == 45) HasValue (word_meaning arg input kind) tt (word_fits old input kind arg fits)))

-- an option leaves the mode
abbrev Keeps : (old new : ArgsSoFar) → Type 0
Keeps old new = (new.purpose ≡ old.purpose) × (new.output_kind ≡ old.output_kind)

set_keeps : (it : Flag) (value : List ℕ) (old new : ArgsSoFar) → IsSet it value old new → Keeps old new
set_keeps flag.SortKeys value old new is = search rules
set_keeps flag.Strict value old new is = search rules
set_keeps flag.V1 value old new is = search rules
set_keeps flag.NoDuplicateKeys value old new is = search rules
set_keeps flag.Canonical value old new is = search rules
set_keeps flag.KeepGoing value old new is = search rules
set_keeps flag.Unordered value old new is = search rules
set_keeps flag.Array value old new is = search rules
set_keeps flag.Indent value old new is = search rules
set_keeps flag.Jobs value old new is = search rules
set_keeps flag.Diagnostics value old new is = search rules
set_keeps flag.Output value old new is = search rules

once_keeps : (is_set : Bool) (it : Flag) (value : List ℕ) (old new : ArgsSoFar) → IsSetOnce is_set it value old new parsed.AcceptedArg → Keeps old new
once_keeps true it value old new is = absurd cc
once_keeps false it value old new is = set_keeps it value old new is.0

value_keeps : (arg : List ℕ) (old new : ArgsSoFar) → IsValueSet arg old new parsed.AcceptedArg → Keeps old new
value_keeps arg old new (inl is) = once_keeps (has_flag is.0 old) is.0 is.1 old new is.3
value_keeps arg old new (inr is) = absurd cc

kept : (old new : ArgsSoFar) → Fits old.purpose old.output_kind → Keeps old new → Fits new.purpose new.output_kind
kept old new fits keeps = subst (λ it. Fits it new.output_kind) (sym keeps.0) (subst (Fits old.purpose) (sym keeps.1) fits)

changed_fits : (meaning : Meaning) (arg : List ℕ) (old new : ArgsSoFar) → Fits old.purpose old.output_kind → FitsMeaning old.purpose meaning
    → Changes meaning arg old new parsed.AcceptedArg → Fits new.purpose new.output_kind
changed_fits Help arg old new fits fit is = absurd cc
changed_fits Version arg old new fits fit is = absurd cc
changed_fits (Fails why) arg old new fits fit is = absurd cc
changed_fits (Expects expected) arg old new fits fit is = kept old new fits (search rules)
changed_fits (Sets flag) arg old new fits fit is =
    kept old new fits (once_keeps (has_flag flag old) flag arg (record old { expected_arg = AnyArg }) new is)
changed_fits HasValue arg old new fits fit is = kept old new fits (value_keeps arg old new is)
changed_fits (Names input purpose named_kind) arg old new fits fit is =
    subst (λ (it : ArgsSoFar). Fits it.purpose it.output_kind) (sym is.1) fit
changed_fits (File named_kind) arg old new fits fit is =
    subst (λ (it : ArgsSoFar). Fits it.purpose it.output_kind) (sym is.1) fit

pub all_fit : (all : List (List ℕ)) (args_so_far : ArgsSoFar) → AreParsed all args_so_far → Fits args_so_far.purpose args_so_far.output_kind
all_fit all args_so_far (no_args it first empty) = subst (λ (it : ArgsSoFar). Fits it.purpose it.output_kind) (sym first) tt
all_fit all args_so_far (one_more_arg {args} {old} arg new are is) =
    let fits = all_fit args old are in
    changed_fits (meaning_of old.expected_arg arg old.input old.output_kind) arg old new fits
    (meaning_fits old.purpose old.expected_arg old.input old.output_kind arg fits) is
