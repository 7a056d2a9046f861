use Rattle.std.proofs.Common.{arith, rules}
use Rattle.bson_decimal.specs.ParseSteps.{coefficient}
use Rattle.bson_decimal.proofs.Tens.{tens-le}
use Rattle.bson_decimal.proofs.DigitTests.{test-false, test-from_AllDigits, scaled-lt}
use Rattle.bson_decimal.proofs.parse.coefficient.Goals as goal

pub returns-in_default : goal.returns-in_default
unfolding coefficient
returns-in_default c = let e = test-false c.args.digits.now c.in_default.ensures in rw e (search rules)

pub pow-requires : goal.pow-requires
pow-requires c = let fits = c.requires.fits in omega (arith, tens-le c.args.zeros 34 (omega arith))

pub overflow_mul-result : goal.overflow_mul-result
overflow_mul-result c =
    let small = scaled-lt c.args.digits.now c.args.zeros c.in-Some.ensures.0 c.requires.fits in
    rw (c.pow.ensures, c.in-Some.ensures.1) (omega arith)

pub returns : goal.returns
unfolding coefficient
returns c = let e = test-from_AllDigits c.args.digits.now c.in-Some.ensures.0 in
    rw (e, c.pow.ensures, c.in-Some.ensures.1) (search rules)
