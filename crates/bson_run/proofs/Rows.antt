-- Rows of tables that no law rests on: the names, messages and bytes that a run over lines uses. A definition
-- that is changed together with its code is refused here.
use Rattle.std.proofs.Common.{◌≡◌, zero, suc, [], ◌∷◌, inl, inr, refl, arith}
use Rattle.std.specs.Char.{encode_utf8}
use Rattle.std.specs.Prelude.{codes}
use Rattle.bson_run.specs.Lines.{lines, line_text, IsBlank}
use Rattle.bson_run.specs.ErrorMessages.{escaped_char}
use Rattle.bson_run.specs.Preprocessed.{default_preprocessing, IsPreprocessedAs, IsRejectedByPreprocessing}
use Rattle.bson_run.specs.TaskNames.{output_name, rule_message}
use Rattle.bson_run.specs.declared.task.Output.TheVariants.{Bytes, Nothing}
use Rattle.bson_run.specs.declared.rule.Rule.TheVariants as rule

-- ---- names of outputs

outputs_named : ((criterion : _) → output_name (Nothing criterion) ≡ codes "check")
    × (output_name Bytes ≡ codes "encode")
outputs_named = (λ criterion. refl, refl)

-- ---- what is preprocessed by default

-- any text is accepted, and read itself
preprocessed_by_default : (text preprocessed : _)
    → (IsPreprocessedAs default_preprocessing text text)
    × (IsPreprocessedAs default_preprocessing text preprocessed → preprocessed ≡ text)
    × ((place : _) → ¬ IsRejectedByPreprocessing default_preprocessing place text)
preprocessed_by_default = λ text preprocessed. ((tt, refl), (λ is. is.1), λ place h. h)

-- ---- messages of rules of JSON

rules_told : (rule_message rule.Utf8 ≡ codes "invalid UTF-8")
    × (rule_message rule.UnexpectedEnd ≡ codes "unexpected end of input")
    × (rule_message rule.Quotes ≡ codes "keys and strings must be in double quotes")
    × (rule_message rule.ExpectedValue ≡ codes "expected a value")
    × (rule_message rule.Number ≡ codes "invalid number")
    × (rule_message rule.ControlCharacter ≡ codes "unescaped control character in a string")
    × (rule_message rule.Escape ≡ codes "invalid escape sequence")
    × (rule_message rule.Separator ≡ codes "expected a comma or a closing bracket")
    × (rule_message rule.ExpectedElement ≡ codes "expected an element after the comma")
    × (rule_message rule.ExpectedColonAndValue ≡ codes "expected a colon and a value after the key")
    × (rule_message rule.Depth ≡ codes "nested more than 127 levels deep")
    × (rule_message rule.TrailingData ≡ codes "unexpected data after the value")
    × (rule_message rule.OutOfRange ≡ codes "number out of range")
    × (rule_message rule.RewrittenDepth ≡ codes "the rewritten input is nested more than 127 levels deep")
rules_told = (refl, refl, refl, refl, refl, refl, refl, refl, refl, refl, refl, refl, refl, refl)

-- ---- escaped characters

characters_told : (escaped_char 0x1B ≡ codes "\\u001b")
    × (escaped_char 10 ≡ codes "\\u000a")
    × (escaped_char 0x9F ≡ codes "\\u009f")
    × (escaped_char 0x2028 ≡ codes "\\u2028")
    × (escaped_char 0x2029 ≡ codes "\\u2029")
    × (escaped_char 92 ≡ 92 ∷ [])
unfolding encode_utf8
characters_told = (refl, refl, refl, refl, refl, refl)

-- ---- lines

-- no line is after the last newline, and a byte order mark is skipped at the beginning of the first line
lines_cut : (lines (53 ∷ 10 ∷ 10 ∷ 54 ∷ []) ≡ (53 ∷ []) ∷ [] ∷ (54 ∷ []) ∷ [])
    × (lines (53 ∷ 10 ∷ []) ≡ (53 ∷ []) ∷ [])
    × (line_text 0 (239 ∷ 187 ∷ 191 ∷ 53 ∷ []) ≡ 53 ∷ [])
    × (line_text 1 (239 ∷ 187 ∷ 191 ∷ 53 ∷ []) ≡ 239 ∷ 187 ∷ 191 ∷ 53 ∷ [])
lines_cut = (refl, refl, refl, refl)

-- a space, a tab and a carriage return
blank_bytes : IsBlank (32 ∷ 9 ∷ 13 ∷ [])
blank_bytes zero d h = inl refl
blank_bytes (suc zero) d h = inr (inl refl)
blank_bytes (suc (suc zero)) d h = inr (inr refl)
blank_bytes (suc (suc (suc k))) d h = absurd (omega arith)

form_feed_not_blank : ¬ (IsBlank (12 ∷ []))
form_feed_not_blank h =
    elim (h 0 0 (omega arith)) [
      | inl e ↦ absurd (omega (arith, e))
      | inr more ↦ elim more [
        | inl e ↦ absurd (omega (arith, e))
        | inr e ↦ absurd (omega (arith, e))
      ]
    ]
