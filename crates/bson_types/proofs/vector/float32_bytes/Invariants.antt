use Rattle.std.proofs.Common.{◌≡◌, ◌∷◌, take}
use Rattle.bson_types.specs.VectorBytes.{u32_le_bytes}
use Rattle.bson_types.proofs.vector.float32_bytes.Given as goal

abbrev pub invariant-items : goal.invariant-items
invariant-items l = l.bytes.items ≡ 39 ∷ 0 ∷ u32_le_bytes (take l.item-index l.items)
