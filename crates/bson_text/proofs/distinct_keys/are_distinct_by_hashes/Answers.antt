use Rattle.std.proofs.Common.{◌≢◌, map, subst}
use Rattle.std.specs.List.{AllPairs}
use Rattle.bson_text.proofs.KeyHashes.{distinct_from_hashes}
use Rattle.bson_text.proofs.distinct_keys.are_distinct_by_hashes.Goals as goal

pub returns-in-Ok : goal.returns-in-Ok
returns-in-Ok c all =
    distinct_from_hashes (map (λ k. k.now) c.args.keys.now) c.in-Ok.hashes.items c.in-Ok.ensures
    (subst (AllPairs (λ x y. x ≢ y)) c.as_mut_slice.ensures.value (c.are_distinct_hashes.ensures all))
