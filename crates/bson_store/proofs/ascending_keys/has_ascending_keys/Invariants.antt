use Rattle.std.proofs.Common.{take, length, ◌-◌, ◌≤◌}
use Rattle.bson_store.specs.KeyIndex.{stored_pairs, HasAscendingKeys}
use Rattle.bson_store.proofs.ascending_keys.has_ascending_keys.Given as goal

abbrev pub decreases-pairs : goal.decreases-pairs
decreases-pairs g l = length l.pairs.items - l.count

abbrev pub invariant-pairs : goal.invariant-pairs
invariant-pairs g l = (l.count ≤ length l.pairs.items) × HasAscendingKeys (take l.count (stored_pairs l.pairs.items))
