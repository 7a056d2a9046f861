use Rattle.bson_scalar.proofs.KeyHashes.{moved_differ}
use Rattle.bson_scalar.proofs.key_hash.are_distinct_hashes.Goals as goal

pub returns : goal.returns
returns c all = moved_differ c.args.hashes.now c.sort_unstable.new.self c.sort_unstable.ensures.permutation (c.are_increasing.ensures all)
