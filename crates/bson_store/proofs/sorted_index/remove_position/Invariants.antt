use Rattle.std.proofs.Common.{◌≡◌, ◌++◌, map, take, drop}
use Rattle.bson_store.specs.PositionsAfterRemoval.{position_after_removal}
use Rattle.bson_store.proofs.sorted_index.remove_position.Given as goal

abbrev pub invariant-loop-index : goal.invariant-loop-index
invariant-loop-index l =
    l.positions.items ≡ map (position_after_removal l.removed_position) (take l.index l.initial.positions.items) ++ drop l.index l.initial.positions.items
