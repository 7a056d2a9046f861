use Rattle.std.proofs.Common.{take}
use Rattle.bson_store.specs.KeyIndex.{stored_pairs, MapsKeysToPositions}
use Rattle.bson_store.proofs.key_index.index_all_keys.Given as goal

abbrev pub invariant-loop-pair_position : goal.invariant-loop-pair_position
invariant-loop-pair_position g l = MapsKeysToPositions l.positions (take l.pair_position (stored_pairs l.pairs.items))
