use Rattle.std.proofs.Common.{◌≡◌, map, take}
use Rattle.bson.specs.View.{bson_view}
use Rattle.bson.proofs.Copied.{viewed}
use Rattle.bson.proofs.clone.+clone.Given as goal

abbrev pub invariant-copy_values-loop-value : goal.invariant-copy_values-loop-value
invariant-copy_values-loop-value l = map bson_view l.copies.items ≡ map bson_view (take l.value-index l.value-items)

abbrev pub invariant-copy_pairs-loop-pair_index : goal.invariant-copy_pairs-loop-pair_index
invariant-copy_pairs-loop-pair_index l = viewed l.pairs ≡ viewed (take l.pair_index l.document.pairs)
