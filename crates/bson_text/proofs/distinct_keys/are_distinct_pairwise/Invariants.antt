use Rattle.std.proofs.Common.{ℕ, ◌<◌}
use Rattle.json.proofs.Unique.Keys.{DifferAt}
use Rattle.bson_text.proofs.distinct_keys.are_distinct_pairwise.Given as goal

abbrev pub invariant-loop-key_index : goal.invariant-loop-key_index
invariant-loop-key_index l = (i j : ℕ) → i < j → j < l.key_index → DifferAt l.keys i j
