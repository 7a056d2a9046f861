use Rattle.std.proofs.Common.{arith, ap, length, length-take}
use Rattle.bson_decimal.proofs.parse.cut_to_34_digits.Goals as goal

pub returns-clause-short : goal.returns-clause-short
returns-clause-short c = omega (arith, ap length c.first.ensures, length-take 34 c.args.digits)
