use Rattle.json.proofs.Unique.Keys.{AreDistinct-permutation, AreDistinct-permutation_back}
use Rattle.bson_text.proofs.distinct_keys.are_distinct.Goals as goal

pub returns : goal.returns
returns c =
    let old = c.args.keys.now in
    let new = c.sort_unstable.new.self in
    let moved = c.sort_unstable.ensures.permutation in (
      λ yes. AreDistinct-permutation_back old new moved (c.keys_ascend-2.ensures.distinct yes),
      λ apart. c.keys_ascend-2.ensures.sorted c.sort_unstable.ensures.sorted (AreDistinct-permutation old new moved apart),
    )
