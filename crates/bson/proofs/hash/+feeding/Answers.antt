use Rattle.std.proofs.Common.{string_bytes, ◌≡◌, ◌∙◌, sym, ap, subst, length, drop, fold, arith}
use Rattle.std.proofs.Common.{[]}
use Rattle.std.proofs.lemmas.List.{drop_all}
use Rattle.bson_store.specs.AscendingOrder.{sorted_by_key}
use Rattle.bson_model.specs.HashInput.{sorted_hash_input as words_of}
use Rattle.bson_model.specs.Value.{document, array}
use Rattle.bson.specs.View.{values_view, pairs_view}
use Rattle.bson_model.specs.declared.options.KeyOrder.TheVariants.{Ascending}
use Rattle.bson.proofs.Feeds.{turn_words, list_words, document_words, array_words, feeds_pair, feeds_all}
use Rattle.bson.proofs.Sizes.{NoLarger, walk_larger, next_smaller, rest_larger}
use Rattle.bson.proofs.hash.+feeding.Goals as goal

pub feed_items-returns : goal.feed_items-returns
feed_items-returns g t c =
    let vs = c.args.items.now.items in
    let value = c.deref-item-items.ensures.value in
    let over : drop c.loop-item.item-index c.deref-item-items.result.now ≡ [] = drop_all c.loop-item.item-index _ c.loop-item-test.false in
    let kept = c.loop-item.invariant ∙ ap (λ xs. fold g.H.Hasher.write c.loop-item.state (list_words xs)) over in
    feeds_all g.H.Hasher.write c.args.state.now c.write_usize.new.self c.loop-item.state (list_words vs) c.len.result
    (length vs) (words_of (array (values_view vs))) c.write_usize.ensures
    (c.len.ensures ∙ sym c.deref-item-items.ensures.len ∙ ap length value)
    (ap (λ xs. fold g.H.Hasher.write c.write_usize.new.self (list_words xs)) (sym value) ∙ kept) (array_words vs)

pub feed_pairs-pairs-init : goal.feed_pairs-pairs-init
feed_pairs-pairs-init g t c =
    let all = c.into_iter-key-iterator.ensures.into_iter_gives ∙ c.by_key-key-items.ensures.pairs in
    record {
      fed = ap (λ es. fold g.H.Hasher.write c.write_usize.new.self (turn_words es)) (sym all);
      larger = subst (λ es. NoLarger es c.args.document.now) (sym all) (walk_larger Ascending c.args.document.now);
    }

pub feed_pairs-feed-requires : goal.feed_pairs-feed-requires
feed_pairs-feed-requires g t c κs within =
    let at = c.pairs in
    let h = next_smaller c.args.document.now at.key-iterator c.next.new.self (string_bytes c.in-Some.key.now)
    c.in-Some.value.now c.in-Some.ensures.steps at.invariant.larger in
    (omega (arith, h, c.decreases), within)

pub feed_pairs-pairs-preserved : goal.feed_pairs-pairs-preserved
feed_pairs-pairs-preserved g t c =
    let ps = c.args.document.now.pairs in
    let at = c.pairs in
    let k = string_bytes c.in-Some.key.now in
    let v = c.in-Some.value.now in
    let next = c.in-Some.ensures.steps in
    record {
      fed = feeds_pair g.H.Hasher.write c.write_usize.new.self at.state c.hash.new.state c.feed.new.state
          (sorted_by_key ps) _ _ k v next c.hash.ensures c.feed.ensures at.invariant.fed;
      larger = rest_larger c.args.document.now _ c.next.new.self k v next at.invariant.larger;
    }

pub feed_pairs-returns : goal.feed_pairs-returns
feed_pairs-returns g t c =
    let ps = c.args.document.now.pairs in
    let none = c.in-None.ensures.steps.0 in
    feeds_all g.H.Hasher.write c.args.state.now c.write_usize.new.self c.pairs.state (turn_words (sorted_by_key ps))
    c.len.result (length ps) (words_of (document (pairs_view ps))) c.write_usize.ensures c.len.ensures.len
    (c.pairs.invariant.fed ∙ ap (λ es. fold g.H.Hasher.write c.pairs.state (turn_words es)) none)
    (document_words ps c.len.ensures.distinct)
