use Rattle.std.proofs.Common.{◌≡◌, map, take}
use Rattle.bson.specs.View.{bson_view}
use Rattle.bson.proofs.bson.Bson.from_slice.Given as goal

abbrev pub invariant-loop-value : goal.invariant-loop-value
invariant-loop-value l = map bson_view l.copies.items ≡ map bson_view (take l.value-index l.fn.values)
