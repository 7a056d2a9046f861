use Rattle.std.proofs.Common.{drop, length-drop}
use Rattle.bson_decimal.proofs.Zeros.{all_zeros}
use Rattle.bson_decimal.proofs.digits.Digits.has_only_zeros_after.Goals as goal

pub returns : goal.returns
returns c =
    rw (c.zeros_after.ensures.value, c.len.ensures, ← length-drop c.args.digit_count c.args.self.now)
    (all_zeros (drop c.args.digit_count c.args.self.now))
