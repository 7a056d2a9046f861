use Rattle.std.proofs.Common.{◌∙◌, w64}
use Rattle.bson_scalar.proofs.IntText.{parsed_signed}
use Rattle.bson_scalar.proofs.ints.int64_of.Goals as goal

pub returns : goal.returns
returns c = c.ok.ensures.value ∙ parsed_signed w64 c.args.text.now c.parse.result c.parse.ensures.value.0
