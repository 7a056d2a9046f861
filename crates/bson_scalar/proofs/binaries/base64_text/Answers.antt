use Rattle.std.proofs.Common.{rules}
use Rattle.bson_types.proofs.Offered.{padded}
use Rattle.bson_scalar.proofs.binaries.base64_text.Goals as goal

pub returns : goal.returns
returns c = rw (← padded c.args.bytes.now) (search rules)
