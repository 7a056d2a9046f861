use Rattle.std.proofs.Common.{◌≡◌}
use Rattle.bson_scalar.specs.KeyHash.{hash_of_first_bytes}
use Rattle.bson_scalar.proofs.key_hash.hash_key.Given as goal

abbrev pub invariant-bytes : goal.invariant-bytes
invariant-bytes l = l.hash ≡ hash_of_first_bytes l.key l.byte_index
