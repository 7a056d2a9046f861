use Rattle.std.proofs.Common.{◌∙◌, w32}
use Rattle.bson_scalar.proofs.IntText.{parsed_signed}
use Rattle.bson_scalar.proofs.ints.int32_of.Goals as goal

pub returns : goal.returns
returns c = c.ok.ensures.value ∙ parsed_signed w32 c.args.text.now c.parse.result c.parse.ensures.value.0
