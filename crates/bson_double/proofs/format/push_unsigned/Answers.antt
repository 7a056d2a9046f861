use Rattle.std.proofs.Common.{arith}
use Rattle.std.proofs.lemmas.Fmt.{length-decimal-le, decimal_nonempty}
use Rattle.bson_double.proofs.format.push_unsigned.Goals as goal

pub push_digits-requires-clause-digits : goal.push_digits-requires-clause-digits
push_digits-requires-clause-digits c =
    let small = c.shortest-digits.ensures.digits in
    rw c.format-written.ensures.text
    (decimal_nonempty _ (omega arith), length-decimal-le 20 _ (omega arith) (omega arith) (omega arith))
