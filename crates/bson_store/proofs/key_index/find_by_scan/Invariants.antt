use Rattle.std.proofs.Common.{◌≡◌, None, take}
use Rattle.bson_store.specs.Pairs.{position_of}
use Rattle.bson_store.specs.KeyIndex.{stored_pairs}
use Rattle.bson_store.proofs.key_index.find_by_scan.Given as goal

abbrev pub invariant-loop-pair_position : goal.invariant-loop-pair_position
invariant-loop-pair_position g l = position_of l.key (take l.pair_position (stored_pairs l.pairs.items)) ≡ None
