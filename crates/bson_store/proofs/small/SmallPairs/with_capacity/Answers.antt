use Rattle.std.specs.List.{IsDistinct}
use Rattle.bson_store.proofs.AscendingLaws.{ascend_none}
use Rattle.bson_store.proofs.small.SmallPairs.with_capacity.Goals as goal

pub invariant_of-result : goal.invariant_of-result
unfolding IsDistinct
invariant_of-result g c = rw c.in_ok-with_capacity.ensures.items (tt, λ more. ascend_none)
