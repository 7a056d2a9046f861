use Rattle.std.proofs.Common.{◌≡◌, ◌<◌, Some, None, length, string_bytes, sym, ap, ◌∙◌, arith, below_more}
use Rattle.std.proofs.lemmas.Bool.{eq-eqb, ne_eqb}
use Rattle.std.proofs.lemmas.Option.{slice_get-get_or}
use Rattle.bson_store.specs.Pairs as store
use Rattle.bson_store.proofs.Offered.{place-within, get-place, get-absent}
use Rattle.bson_model.proofs.Offered.{option_same}
use Rattle.bson.specs.View.{bson_view}
use Rattle.bson.proofs.Places.{IsSameAt-from, not_same, lengths_differ, lacking, differing, all_places, pair_from}
use Rattle.bson.proofs.Places.{pair_of_key, get-bson_view, items_differ, items_differ_at, items_all}
use Rattle.bson.proofs.Sizes.{value_smaller}
use Rattle.bson.proofs.equality.+same.Goals as goal
use Rattle.bson.proofs.equality.+same.Goals.{same_lists-then-items-test+else-same_values, same_lists-else-items-test}

pub same_documents-returns-then-len : goal.same_documents-returns-then-len
same_documents-returns-then-len t c =
    let n : length c.args.left.now.pairs ≡ length c.args.right.now.pairs → ⊥ =
    λ e. c.if-len.true (c.len.ensures.len ∙ e ∙ sym c.len-2.ensures.len) in
    not_same _ (lengths_differ c.args.left.now.pairs c.args.right.now.pairs c.len.ensures.distinct c.len-2.ensures.distinct n)

pub same_documents-returns-in-None : goal.same_documents-returns-in-None
same_documents-returns-in-None t c =
    let ps = c.args.left.now.pairs in
    let qs = c.args.right.now.pairs in
    let p = pair_of_key ps c.loop-left_index.left_index (string_bytes c.key_at.result.now) c.key_at.ensures in
    not_same _ (lacking ps qs c.loop-left_index.left_index (string_bytes c.key_at.result.now, p.0) c.len.ensures.distinct p.1
    (ap (λ k. store.get k qs) (sym c.as_str.ensures.value) ∙ get-absent c.as_str.result.now qs (sym c.in-None.ensures)))

pub same_documents-value_at-requires-in-Some : goal.same_documents-value_at-requires-in-Some
same_documents-value_at-requires-in-Some t c = place-within c.as_str.result.now c.args.right.now.pairs c.in-Some.right_index
    (sym c.in-Some.ensures)

pub same_documents-same_values-requires : goal.same_documents-same_values-requires
same_documents-same_values-requires t c =
    let h = value_smaller c.args.left.now c.loop-left_index.left_index c.value_at.result.now (sym c.value_at.ensures) in
    (omega (arith, h, c.decreases), tt)

pub same_documents-returns-then-not-same_values : goal.same_documents-returns-then-not-same_values
same_documents-returns-then-not-same_values t c =
    let ps = c.args.left.now.pairs in
    let qs = c.args.right.now.pairs in
    let p = pair_from ps c.loop-left_index.left_index (string_bytes c.key_at.result.now) c.value_at.result.now c.key_at.ensures
    c.value_at.ensures in
    let f = ap (λ k. store.get k qs) (sym c.as_str.ensures.value)
    ∙ sym (get-place c.as_str.result.now qs c.in-Some.right_index (sym c.in-Some.ensures)) ∙ sym c.value_at-in-Some.ensures in
    not_same _ (differing ps qs c.loop-left_index.left_index (string_bytes c.key_at.result.now, c.value_at.result.now)
    c.value_at-in-Some.result.now c.len.ensures.distinct p f (sym c.if-not-same_values.ensures))

pub same_documents-loop-left_index-preserved : goal.same_documents-loop-left_index-preserved
same_documents-loop-left_index-preserved t c =
    let ps = c.args.left.now.pairs in
    let qs = c.args.right.now.pairs in
    let v = c.value_at.result.now in
    let p = pair_from ps c.loop-left_index.left_index (string_bytes c.key_at.result.now) v c.key_at.ensures c.value_at.ensures in
    let f = ap (λ k. store.get k qs) (sym c.as_str.ensures.value)
    ∙ sym (get-place c.as_str.result.now qs c.in-Some.right_index (sym c.in-Some.ensures)) ∙ sym c.value_at-in-Some.ensures in
    let g = get-bson_view (string_bytes c.key_at.result.now) qs in
    below_more _ _ c.loop-left_index.invariant
    (IsSameAt-from ps qs c.loop-left_index.left_index (string_bytes c.key_at.result.now, v) p
    (ap (option_same (Some (bson_view v))) (g ∙ ap (λ o. elim o [ None ↦ None | Some w ↦ Some (bson_view w) ]) f)
    ∙ sym c.if-not-same_values.ensures))

pub same_documents-returns : goal.same_documents-returns
same_documents-returns t c =
    let ps = c.args.left.now.pairs in
    let qs = c.args.right.now.pairs in
    let n : length ps ≡ length qs = sym c.len.ensures.len ∙ c.if-len.false ∙ c.len-2.ensures.len in
    sym (all_places ps qs n c.len.ensures.distinct
    (λ left_index l. c.loop-left_index.invariant left_index (omega (arith, l, c.loop-left_index-test.false))))

pub same_lists-returns-then-len : goal.same_lists-returns-then-len
same_lists-returns-then-len t c =
    let n : length c.args.left.now.items ≡ length c.args.right.now.items → ⊥ =
    λ e. c.if-len.true (omega (arith, e, c.args.left.now.ok.0, c.args.right.now.ok.0)) in
    not_same _ (items_differ c.args.left.now.items c.args.right.now.items n)

pub same_lists-returns : goal.same_lists-returns
same_lists-returns t c =
    let xs = c.args.left.now.items in
    let ys = c.args.right.now.items in
    let item_index = c.items.item_index in
    let n : length xs ≡ length ys = omega (arith, c.args.left.now.ok.0, c.args.right.now.ok.0) in
    elim c.items-test.branch [
      | same_lists-then-items-test+else-same_values w ↦
          let in_xs : item_index < length xs = omega (arith, w.items-test.true, c.args.left.now.ok.0) in
          let v = w.index.result.now in
          let u = w.index-in-items.result.now in
          ne_eqb item_index _ (λ e. omega (arith, e, w.items-test.true))
          ∙ not_same _ (items_differ_at xs ys item_index v u
          (slice_get-get_or xs item_index v in_xs ∙ ap Some (sym w.index.ensures))
          (slice_get-get_or ys item_index u (omega (arith, in_xs, n)) ∙ ap Some (sym w.index-in-items.ensures))
          (sym w.if-same_values.ensures))
      | same_lists-else-items-test w ↦
          eq-eqb item_index _ (omega (arith, w.items-test.false, c.items.invariant.0))
          ∙ sym (items_all xs ys n (λ left_index d l. c.items.invariant.1 left_index d (omega (arith, l, w.items-test.false))))
    ]
