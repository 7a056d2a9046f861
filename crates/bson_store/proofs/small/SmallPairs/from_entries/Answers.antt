use Rattle.std.proofs.Common.{sym, ◌∙◌}
use Rattle.bson_store.specs.KeyIndex.{stored_pairs}
use Rattle.bson_store.proofs.Adjacent.{distinct_from}
use Rattle.bson_store.proofs.PutInTurn.{put_distinct}
use Rattle.bson_store.proofs.small.SmallPairs.from_entries.Goals as goal

pub returns-in-Ok : goal.returns-in-Ok
returns-in-Ok g c =
    let ps = stored_pairs c.args.pairs.items in
    c.in-Ok.ensures.ok ∙ sym (put_distinct ps (distinct_from ps c.in-Ok.ensures.ascending))
