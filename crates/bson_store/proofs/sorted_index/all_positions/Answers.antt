use Rattle.std.proofs.Common.{◌++◌, ◌∷◌, [], add-one, sym, ap, ◌∙◌, arith}
use Rattle.std.specs.List.{range_with_len}
use Rattle.bson_store.proofs.SortedPlaces.{range_last}
use Rattle.bson_store.proofs.sorted_index.all_positions.Goals as goal

pub loop-position-preserved : goal.loop-position-preserved
loop-position-preserved c = c.in_ok-push.ensures.items ∙ ap (λ l. l ++ c.loop-position.position ∷ []) c.loop-position.invariant
    ∙ sym (ap (range_with_len 0) (add-one c.loop-position.position) ∙ range_last 0 c.loop-position.position ∙ ap (λ n. range_with_len 0 c.loop-position.position ++ n ∷ []) (omega arith))
