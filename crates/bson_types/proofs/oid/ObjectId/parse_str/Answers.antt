use Rattle.std.proofs.Common.{arith}
use Rattle.bson_types.proofs.HexLaws.{twice}
use Rattle.bson_types.proofs.oid.ObjectId.parse_str.Goals as goal

pub returns-then-text-ne0-clause-valid : goal.returns-then-text-ne0-clause-valid
returns-then-text-ne0-clause-valid c = λ id is. absurd (omega (arith, twice is.0, is.1, c.if-text-ne0.true))
