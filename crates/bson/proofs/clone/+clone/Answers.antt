use Rattle.std.proofs.Common.{◌∙◌, ap}
use Rattle.bson.proofs.Copied.{viewed, copy_lacks, copy_next}
use Rattle.bson.proofs.clone.+clone.Goals as goal

pub copy_pairs-push-requires : goal.copy_pairs-push-requires
copy_pairs-push-requires t c =
    copy_lacks c.loop-pair_index.pairs c.args.document.now.pairs c.loop-pair_index.pair_index _ _ c.value_at.result.now
    (c.in_ok-key.ensures.ok ∙ c.as_str.ensures.value) c.key_at.ensures c.value_at.ensures c.loop-pair_index.invariant
    c.len-pair_index-end.ensures.distinct

pub copy_pairs-loop-pair_index-preserved : goal.copy_pairs-loop-pair_index-preserved
copy_pairs-loop-pair_index-preserved t c =
    ap viewed c.in-Ok.ensures.ok
    ∙ copy_next c.loop-pair_index.pairs c.args.document.now.pairs c.loop-pair_index.pair_index _ _ c.value_at.result.now
    (c.in_ok-key.ensures.ok ∙ c.as_str.ensures.value) c.key_at.ensures c.value_at.ensures c.loop-pair_index.invariant
    c.in_ok-value.value c.in_ok-value.ensures
