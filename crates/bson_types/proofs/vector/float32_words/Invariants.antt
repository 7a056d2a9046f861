use Rattle.std.proofs.Common.{◌≡◌, ◌++◌, ◌%◌, length}
use Rattle.bson_types.specs.VectorBytes.{u32_le_bytes}
use Rattle.bson_types.proofs.vector.float32_words.Given as goal

abbrev pub invariant-float32_words : goal.invariant-float32_words
invariant-float32_words l = (u32_le_bytes l.float32_words.items ++ l.remaining_bytes ≡ l.fn.data) × (length l.remaining_bytes % 4 ≡ 0)

abbrev pub decreases-float32_words : goal.decreases-float32_words
decreases-float32_words l = length l.remaining_bytes
