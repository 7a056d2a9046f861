use Rattle.std.proofs.Common.{None, cond, option_map, subst, sym, ap, ◌∙◌}
use Rattle.std.specs.Str.{bytes_eq}
use Rattle.std.proofs.lemmas.Map.Text.{btree_map_updates_text}
use Rattle.bson_store.specs.Pairs.{position_of, HasDistinctKeys}
use Rattle.bson_store.specs.PositionsAfterRemoval.{position_before_removal}
use Rattle.bson_store.specs.KeyIndex.{IsIndexOf}
use Rattle.bson_store.proofs.Placed.{distinct-remove, place-removed}
use Rattle.bson_store.proofs.SortedPlaces.{sorted-without}
use Rattle.bson_store.proofs.key_index.unindex_key.Goals as goal

pub shift_positions-requires-clause-distinct : goal.shift_positions-requires-clause-distinct
shift_positions-requires-clause-distinct g c =
    subst HasDistinctKeys (sym c.requires.3) (distinct-remove c.requires.0 c.args.removed_position c.requires.4)

pub shift_positions-requires-clause-raised : goal.shift_positions-requires-clause-raised
shift_positions-requires-clause-raised g c = λ k.
    let ps = c.requires.0 in
    let key = c.args.key.now in
    let was = subst (λ x. IsIndexOf x ps) c.in-Map.is c.requires.5 in
    btree_map_updates_text key c.in-Map.map c.remove.new.self None c.remove.ensures.updates k
    ∙ (λ j. cond (bytes_eq key k) None (was k j))
    ∙ place-removed ps c.args.removed_position (key, c.requires.1) c.requires.4 c.requires.2 k
    ∙ ap (λ qs. option_map (position_before_removal c.args.removed_position) (position_of k qs)) (sym c.requires.3)

pub returns-in-Sorted : goal.returns-in-Sorted
returns-in-Sorted g c =
    let ps = c.requires.0 in
    let is = c.in-Sorted.positions.items in
    let old = subst (λ x. IsIndexOf x ps) c.in-Sorted.is c.requires.5 in
    rw (c.remove_position.ensures, c.requires.3)
    (sorted-without is ps c.args.removed_position (c.args.key.now, c.requires.1) c.requires.4 c.requires.2 old)
