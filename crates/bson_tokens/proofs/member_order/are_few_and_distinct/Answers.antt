use Rattle.std.proofs.Common.{arith}
use Rattle.bson_tokens.proofs.Distinct.{differ_distinct}
use Rattle.bson_tokens.proofs.member_order.are_few_and_distinct.Goals as goal

pub returns : goal.returns
returns c = λ yes. differ_distinct c.args.spans.now.items (λ j less. c.loop-span_index.invariant j (omega (arith, less)))
