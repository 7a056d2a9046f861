use Rattle.std.proofs.Common.{Some, length, ◌≤◌, ◌-◌}
use Rattle.bson_store.specs.AscendingKeys.{NoKeyAboveBefore, AllKeysAboveFrom}
use Rattle.bson_store.specs.KeyIndex.{stored_pairs}
use Rattle.bson_store.proofs.ascending_keys.first_key_above.Given as goal

abbrev pub invariant-binary_search : goal.invariant-binary_search
invariant-binary_search g l =
    let ps = stored_pairs l.pairs.items in
    (l.low ≤ l.high) × (l.high ≤ length ps) × NoKeyAboveBefore (Some l.key) ps l.low × AllKeysAboveFrom (Some l.key) ps l.high

abbrev pub decreases-binary_search : goal.decreases-binary_search
decreases-binary_search g l = l.high - l.low
