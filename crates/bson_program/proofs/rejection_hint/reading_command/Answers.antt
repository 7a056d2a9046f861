use Rattle.std.proofs.Common.{◌∙◌, ap, append_assoc}
use Rattle.std.specs.Prelude.{codes}
use Rattle.bson_program.specs.HintTexts.{option_if}
use Rattle.bson_program.proofs.Telling.{four}
use Rattle.bson_program.proofs.rejection_hint.reading_command.Goals as goal

pub returns : goal.returns
returns c = four c.format.result _ _ _ _ _ _ _ _ (simp append_assoc c.format.ensures.ok) c.mode_for-mode.ensures
    (c.option_if-sorts_keys.ensures ∙ ap (λ b. option_if b (codes " --sort-keys")) c.sorts_keys.ensures)
    (c.option_if-strict_option.ensures ∙ ap (λ b. option_if b (codes " --strict")) c.is_strict.ensures) c.preprocessing_options-preprocessing.ensures
