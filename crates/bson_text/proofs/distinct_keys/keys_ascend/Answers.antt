use Rattle.std.proofs.Common.{◌-◌, arith}
use Rattle.bson_text.proofs.Keys.{distinct_from_ascend, less_than_next}
use Rattle.bson_text.proofs.distinct_keys.keys_ascend.Goals as goal

pub returns-then-not-is_lt-clause-sorted : goal.returns-then-not-is_lt-clause-sorted
returns-then-not-is_lt-clause-sorted c sorted apart =
    let ks = c.args.keys.now in
    let n = c.loop-next_index.next_index in
    let less = less_than_next ks sorted apart (n - 1) n (omega arith) c.loop-next_index-test.true in grind arith

pub returns-clause-distinct : goal.returns-clause-distinct
returns-clause-distinct c _ =
    distinct_from_ascend c.args.keys.now (λ i within. c.loop-next_index.invariant i (omega arith))
