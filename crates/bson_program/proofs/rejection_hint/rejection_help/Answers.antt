use Rattle.std.proofs.Common.{ap, refl, sym, ◌∙◌}
use Rattle.bson_program.specs.HintTexts.{hint_line}
use Rattle.bson_program.proofs.rejection_hint.rejection_help.Goals as goal

pub returns-in-Ok-hint_line : goal.returns-in-Ok-hint_line
returns-in-Ok-hint_line c = (
  record {
    input = c.args.invocation.now.input;
    writes_bson_bytes = c.writes_bson_bytes.result;
    is_standard_stream = c.eq.result;
    advice = c.args.advice;
  },
  c.in_ok-hint.hint,
  refl,
  refl,
  sym c.in_ok-hint.ensures,
  c.in-Ok-hint_line.ensures ∙ ap (hint_line c.args.file_name.now c.in_ok-hint.hint) (c.as_str.ensures.value ∙ c.in-Ok.ensures),
)
