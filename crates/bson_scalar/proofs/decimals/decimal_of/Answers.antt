use Rattle.std.proofs.Common.{◌∙◌}
use Rattle.bson_scalar.proofs.DecimalLaws.{parsed_decimal}
use Rattle.bson_scalar.proofs.decimals.decimal_of.Goals as goal

pub returns : goal.returns
returns c = c.ok.ensures.value ∙ parsed_decimal c.args.text.now c.parse.result c.parse.ensures.value
