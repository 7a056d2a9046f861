use Rattle.std.proofs.Common.{◌≤◌, ◌==◌, ◌++◌, map, not, set, length, ap, ◌∙◌, arith, rules}
use Rattle.std.proofs.lemmas.Fn.{filter_same}
use Rattle.std.proofs.lemmas.List.Edits.{map_over_more}
use Rattle.std.proofs.lemmas.List.{take_all, drop_all, append-nil}
use Rattle.bson_store.specs.PositionsAfterRemoval.{position_after_removal}
use Rattle.bson_store.proofs.sorted_index.remove_position.Goals as goal

pub loop-index-preserved : goal.loop-index-preserved
loop-index-preserved c =
    let xs = c.retain.new.self.items in
    ap (set c.loop-index.positions.items c.loop-index.index) c.shifted_position.ensures
    ∙ map_over_more (position_after_removal c.args.removed_position) xs c.loop-index.positions.items c.loop-index.index c.index.result.now
    (omega (arith, c.loop-index-test.true, c.len-index-end.ensures, c.retain.new.self.ok.0)) c.loop-index.invariant c.index.ensures

pub returns : goal.returns
returns c =
    let xs = c.retain.new.self.items in
    let f = position_after_removal c.args.removed_position in
    let past : length xs ≤ c.loop-index.index =
    omega (arith, c.loop-index-test.false, c.len-index-end.ensures, c.retain.new.self.ok.0) in
    c.loop-index.invariant ∙ (λ j. map f (take_all c.loop-index.index xs past j) ++ drop_all c.loop-index.index xs past j)
    ∙ append-nil (map f xs)
    ∙ ap (map f) (filter_same _ (λ i. not (i == c.args.removed_position)) _ (λ x b q h. search rules) _ _ c.retain.ensures.filtered)
