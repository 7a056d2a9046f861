use Rattle.std.proofs.Common.{◌≡◌, ℕ, List, option_map}
use Rattle.std.specs.BTreeMap.{get_by_text}
use Rattle.bson_store.specs.Pairs.{position_of}
use Rattle.bson_store.specs.KeyIndex.{stored_pairs}
use Rattle.bson_store.specs.PositionsAfterRemoval.{position_before_removal}
use Rattle.bson_store.proofs.key_index.shift_positions.Given as goal

abbrev pub invariant-loop-pair_position : goal.invariant-loop-pair_position
invariant-loop-pair_position g l =
    (k : List ℕ) → get_by_text l.positions k
    ≡ option_map (position_before_removal l.pair_position) (position_of k (stored_pairs l.pairs.items))
