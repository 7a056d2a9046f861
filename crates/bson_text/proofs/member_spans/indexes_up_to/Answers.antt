use Rattle.std.proofs.Common.{◌∷◌, [], ◌++◌, add-one, sym, ap, ◌∙◌}
use Rattle.bson_text.proofs.Placing.{next_place}
use Rattle.bson_text.proofs.member_spans.indexes_up_to.Goals as goal

pub loop-index-preserved : goal.loop-index-preserved
loop-index-preserved c =
    let index = c.loop-index.index in
    rw (add-one index)
    (c.in_ok-push.ensures.items ∙ ap (λ l. l ++ index ∷ []) c.loop-index.invariant ∙ sym (next_place index))
