use Rattle.std.proofs.Common.{◌≡◌, ◌≤◌, suc, length, take, arith, take_all}
use Rattle.bson_types.proofs.vector.int8_bytes.Goals as goal

pub returns-clause-range : goal.returns-clause-range
returns-clause-range c =
    let past : length c.args.items.now ≤ c.items.item-index = omega (arith, c.items-test.false) in
    let all : take c.items.item-index c.args.items.now ≡ c.args.items.now =
    take_all c.items.item-index c.args.items.now past in
    let are = rw (c.as_slice.ensures.value, c.items.invariant, all) at c.bytes_are_below_256.ensures in
    λ i. are (suc (suc i))
