use Rattle.std.proofs.Common.{◌≡◌, map, take}
use Rattle.bson_scalar.specs.KeyHash.{key_hash}
use Rattle.bson_text.proofs.distinct_keys.hashes_of.Given as goal

abbrev pub invariant-keys : goal.invariant-keys
invariant-keys l = l.hashes.items ≡ map key_hash (map (λ k. k.now) (take l.key_index l.keys))
