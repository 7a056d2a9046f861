use Rattle.std.proofs.Common.{◌≡◌, length, subst, ap, ◌∙◌, arith, rules}
use Rattle.std.specs.List.{range_with_len}
use Rattle.std.specs.List.Sorted.{IsPermutation}
use Rattle.std.proofs.lemmas.Bool.{MatchBool-at_true}
use Rattle.std.proofs.lemmas.Fn.{always_returns_same}
use Rattle.std.proofs.lemmas.List.Sorted.{IsPermutation-trans}
use Rattle.bson_store.specs.KeyIndex.{stored_pairs, key_positions, HasAscendingKeys}
use Rattle.bson_store.proofs.Placed.{length-seen}
use Rattle.bson_store.proofs.SortedPlaces.{below, ascend-keyed, sorted-from}
use Rattle.bson_store.proofs.sorted_index.sorted_positions.Goals as goal

pub returns-then-is_sorted_by : goal.returns-then-is_sorted_by
returns-then-is_sorted_by g c =
    let ps = stored_pairs c.args.pairs.now.items in
    let is = c.sort_by_cached_key.new.self.items in
    let n : c.len.result ≡ length ps =
    omega (arith, c.len.ensures, c.args.pairs.now.ok.0, length-seen c.args.pairs.now.items) in
    let moved = subst (λ xs. IsPermutation xs is) (c.in_ok-positions.ensures ∙ ap (range_with_len 0) n)
    c.in_ok-sort_by_cached_key.ensures.permutation in
    let tested = c.is_sorted_by.ensures.cases (below ps) (always_returns_same _ _ _ (λ a r f q. search rules)) in
    let next = MatchBool-at_true _ _ c.if-is_sorted_by.true tested in
    sorted-from is ps moved
    (subst (λ xs. HasAscendingKeys (key_positions xs ps)) c.deref.ensures.value (ascend-keyed c.deref.result.now ps next))

pub returns-then-is_sorted_by-2 : goal.returns-then-is_sorted_by-2
returns-then-is_sorted_by-2 g c =
    let ps = stored_pairs c.args.pairs.now.items in
    let is = c.sort_by.new.self.items in
    let n : c.len.result ≡ length ps =
    omega (arith, c.len.ensures, c.args.pairs.now.ok.0, length-seen c.args.pairs.now.items) in
    let moved = subst (λ xs. IsPermutation xs is) (c.in_ok-positions.ensures ∙ ap (range_with_len 0) n)
    (IsPermutation-trans c.in_ok-positions.positions.items c.sort_by_cached_key.new.self.items is
    c.in_ok-sort_by_cached_key.ensures.permutation c.in_ok-sort_by.ensures.permutation) in
    let tested = c.is_sorted_by-2.ensures.cases (below ps) (always_returns_same _ _ _ (λ a r f q. search rules)) in
    let next = MatchBool-at_true _ _ c.if-is_sorted_by-2.true tested in
    sorted-from is ps moved
    (subst (λ xs. HasAscendingKeys (key_positions xs ps)) c.deref-2.ensures.value (ascend-keyed c.deref-2.result.now ps next))
