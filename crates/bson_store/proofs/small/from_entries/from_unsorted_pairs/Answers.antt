use Rattle.std.proofs.Common.{IfSome, sym, ap, subst, ◌∙◌}
use Rattle.bson_store.specs.Pairs.{HasDistinctKeys}
use Rattle.bson_store.specs.KeyIndex.{stored_pairs, AreSortedPositions}
use Rattle.bson_store.proofs.PutInTurn.{put_distinct}
use Rattle.bson_store.proofs.small.from_entries.from_unsorted_pairs.Goals as goal

pub returns : goal.returns
returns g c =
    let ps = stored_pairs c.args.pairs.items in
    let found = subst (λ r. IfSome r (λ positions. HasDistinctKeys ps × AreSortedPositions positions.items ps)) c.in-Some.is
    c.in_ok-positions.ensures in
    ap stored_pairs c.shrink_to_fit.ensures.items ∙ sym (put_distinct ps found.0)
