use Rattle.std.proofs.Common.{ℕ, ◌+◌, ◌<◌}
use Rattle.std.specs.List.{slice_index}
use Rattle.bson_scalar.proofs.key_hash.are_increasing.Given as goal

abbrev pub invariant-loop-hash_index : goal.invariant-loop-hash_index
invariant-loop-hash_index l = (i : ℕ) → i + 1 < l.hash_index → slice_index l.hashes i < slice_index l.hashes (i + 1)
