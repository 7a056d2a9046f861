use Rattle.std.proofs.Common.{sym, subst, ◌∙◌, arith}
use Rattle.bson_store.specs.AscendingOrder.{sorted_by_key}
use Rattle.bson_store.specs.KeyIndex.{stored_pairs, HasNeededIndex, IsIndexOf}
use Rattle.bson_store.proofs.Placed.{length-seen}
use Rattle.bson_store.proofs.Turns.{where_key-all}
use Rattle.bson_store.proofs.Walks.{ascending_walk, sorted_walk, map_sorted}
use Rattle.bson_store.proofs.small.iter.cursor_by_key.Goals as goal
use Rattle.bson_store.proofs.small.iter.cursor_by_key.Goals.{then-len-gt-MAX_UNINDEXED, else-len-gt-MAX_UNINDEXED}

pub returns-in-Sorted : goal.returns-in-Sorted
returns-in-Sorted g c =
    let ps = stored_pairs c.args.pairs.now.items in
    let placed = subst (HasNeededIndex ps) c.in-Some.is c.requires.1 in
    let sorted = subst (λ x. IsIndexOf x ps) (sym c.deref.ensures ∙ c.in-Sorted.is) placed.1 in
    sorted_walk _ _ ps (c.iter.ensures.rest ∙ c.deref-in-Sorted.ensures.value) sorted

pub returns-in-Map : goal.returns-in-Map
returns-in-Map g c =
    let ps = stored_pairs c.args.pairs.now.items in
    let placed = subst (HasNeededIndex ps) c.in-Some.is c.requires.1 in
    let mapped = subst (λ x. IsIndexOf x ps) (sym c.deref.ensures ∙ c.in-Map.is) placed.1 in
    sorted_walk _ _ ps c.values.ensures.rest (map_sorted c.in-Map.map ps mapped c.values.ensures.ordered)

pub returns-in-None : goal.returns-in-None
returns-in-None g c =
    let xs = c.args.pairs.now.items in
    let ps = stored_pairs xs in (
      omega arith,
      ascending_walk ps (elim c.if-len-gt-MAX_UNINDEXED.branch [
        | then-len-gt-MAX_UNINDEXED w ↦ subst (HasNeededIndex ps) c.in-None.is c.requires.1
            (omega (arith, w.if-len-gt-MAX_UNINDEXED.true, c.len.ensures, c.args.pairs.now.ok.0, length-seen xs))
        | else-len-gt-MAX_UNINDEXED w ↦ w.has_ascending_keys.ensures (sym w.value-is ∙ c.if-has_ascending_keys.true)
      ]),
    )

pub returns-in-None-2 : goal.returns-in-None-2
returns-in-None-2 g c = (tt, where_key-all (sorted_by_key (stored_pairs c.args.pairs.now.items)))
