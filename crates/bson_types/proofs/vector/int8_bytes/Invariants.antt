use Rattle.std.proofs.Common.{◌≡◌, ◌∷◌, map, take, w8}
use Rattle.std.specs.Int.{cast_unsigned}
use Rattle.bson_types.proofs.vector.int8_bytes.Given as goal

abbrev pub invariant-items : goal.invariant-items
invariant-items l = l.bytes.items ≡ 3 ∷ 0 ∷ map (cast_unsigned w8) (take l.item-index l.items)
