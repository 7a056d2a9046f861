use Rattle.std.proofs.Common.{inr, refl}
use Rattle.bson_program.proofs.Words.{unjoined}
use Rattle.bson_program.proofs.arguments.ArgsSoFar.parse_option_with_value.Goals as goal

pub returns-in-None : goal.returns-in-None
returns-in-None c = inr (
  unjoined c.args.arg.now c.in_default.ensures.cases c.in_default-strip_prefix.ensures.cases
      c.in_default-strip_prefix-2.ensures.cases (c.output_file_in.ensures.none c.in-None.is),
  refl,
)
