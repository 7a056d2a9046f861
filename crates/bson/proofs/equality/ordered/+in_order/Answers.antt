use Rattle.std.proofs.Common.{◌≡◌, ◌+◌, ◌<◌, length, arith, sym, subst, ◌∙◌, string_bytes, false}
use Rattle.std.proofs.lemmas.Bool.{eq-eqb, ne_eqb}
use Rattle.bson.specs.Iter.{remaining_entries}
use Rattle.bson.specs.View.{bson_view, values_view}
use Rattle.bson.specs.declared.bson.Bson.{Bson}
use Rattle.bson.proofs.SameSteps.{whole, one_longer, other_key, other_value, next_pair, lighter, ended, lengths_differ}
use Rattle.bson.proofs.SameSteps.{equal, not_equal, none_left, next_item, other_item, items_ended}
use Rattle.bson.proofs.Weights.{weight, weight_items, lighter_item}
use Rattle.bson.proofs.equality.ordered.+in_order.Goals as goal
use Rattle.bson.proofs.equality.ordered.+in_order.Goals.{same_lists_in_order-then-items-test+else-same_values_in_order}
use Rattle.bson.proofs.equality.ordered.+in_order.Goals.{same_lists_in_order-else-items-test}

pub same_documents_in_order-returns-in-None : goal.same_documents_in_order-returns-in-None
same_documents_in_order-returns-in-None t c =
    whole c.args.left.now c.args.right.now (remaining_entries c.pairs.left_pairs) (remaining_entries c.pairs.right_pairs) false c.pairs.invariant.same
    (one_longer (string_bytes c.in-Some.key.now) c.in-Some.value.now (remaining_entries c.pairs.left_pairs) (remaining_entries c.pairs.right_pairs)
    (remaining_entries c.next.new.self) c.in-Some.ensures.steps c.in-None.ensures.steps.0)

pub same_documents_in_order-returns-then-ne : goal.same_documents_in_order-returns-then-ne
same_documents_in_order-returns-then-ne t c =
    whole c.args.left.now c.args.right.now (remaining_entries c.pairs.left_pairs) (remaining_entries c.pairs.right_pairs) false c.pairs.invariant.same
    (other_key (string_bytes c.in-Some.key.now) (string_bytes c.in-Some-next.other_key.now) c.in-Some.value.now
    c.in-Some-next.other_value.now (remaining_entries c.pairs.left_pairs) (remaining_entries c.pairs.right_pairs) (remaining_entries c.next.new.self)
    (remaining_entries c.next-in-Some.new.self) c.in-Some.ensures.steps c.in-Some-next.ensures.steps
    (not_equal _ c.if-ne.ensures))

pub same_documents_in_order-returns-then-not-same_values_in_order : goal.same_documents_in_order-returns-then-not-same_values_in_order
same_documents_in_order-returns-then-not-same_values_in_order t c =
    whole c.args.left.now c.args.right.now (remaining_entries c.pairs.left_pairs) (remaining_entries c.pairs.right_pairs) false c.pairs.invariant.same
    (other_value (string_bytes c.in-Some.key.now) (string_bytes c.in-Some-next.other_key.now) c.in-Some.value.now
    c.in-Some-next.other_value.now (remaining_entries c.pairs.left_pairs) (remaining_entries c.pairs.right_pairs) (remaining_entries c.next.new.self)
    (remaining_entries c.next-in-Some.new.self) c.in-Some.ensures.steps c.in-Some-next.ensures.steps
    (sym c.if-not-same_values_in_order.ensures))

pub same_documents_in_order-pairs-preserved : goal.same_documents_in_order-pairs-preserved
same_documents_in_order-pairs-preserved t c =
    let less = lighter (string_bytes c.in-Some.key.now) c.in-Some.value.now (remaining_entries c.pairs.left_pairs)
    (remaining_entries c.next.new.self) c.in-Some.ensures.steps in
    record {
      same = next_pair (string_bytes c.in-Some.key.now) (string_bytes c.in-Some-next.other_key.now) c.in-Some.value.now
          c.in-Some-next.other_value.now (remaining_entries c.pairs.left_pairs) (remaining_entries c.pairs.right_pairs) (remaining_entries c.next.new.self)
          (remaining_entries c.next-in-Some.new.self) _ c.in-Some.ensures.steps c.in-Some-next.ensures.steps
          (equal _ c.if-ne.ensures) (sym c.if-not-same_values_in_order.ensures) c.pairs.invariant.same;
      lighter = omega (arith, less, c.pairs.invariant.lighter);
    }

pub same_documents_in_order-returns : goal.same_documents_in_order-returns
same_documents_in_order-returns t c =
    whole c.args.left.now c.args.right.now (remaining_entries c.pairs.left_pairs) (remaining_entries c.pairs.right_pairs) c.is_none.result
    c.pairs.invariant.same
    (ended (λ p. (string_bytes p.0.now, p.1.now)) c.next-2.result (remaining_entries c.pairs.left_pairs) (remaining_entries c.pairs.right_pairs)
    (remaining_entries c.next-2.new.self) c.in_default.ensures.steps.0 c.next-2.ensures.steps ∙ none_left _ _ (sym c.is_none.ensures))

pub same_lists_in_order-returns-then-len : goal.same_lists_in_order-returns-then-len
same_lists_in_order-returns-then-len t c =
    lengths_differ c.args.left.now.items c.args.right.now.items
    (λ e. c.if-len.true (omega (arith, e, c.args.left.now.ok.0, c.args.right.now.ok.0)))

pub same_lists_in_order-same_values_in_order-requires : goal.same_lists_in_order-same_values_in_order-requires
same_lists_in_order-same_values_in_order-requires t c =
    let items = c.args.left.now.items in
    let v = c.index.result.now in
    let below : c.items.item_index < length items = omega (arith, c.items-test.true, c.args.left.now.ok.0) in
    let h : 1 + weight (bson_view v) < weight_items (values_view items) =
    subst (λ (w : Bson). 1 + weight (bson_view w) < weight_items (values_view items)) (sym c.index.ensures)
    (lighter_item items c.items.item_index v below) in
    (omega (arith, h, c.decreases), tt)

pub same_lists_in_order-items-preserved : goal.same_lists_in_order-items-preserved
same_lists_in_order-items-preserved t c =
    let vs = c.args.left.now.items in
    let ws = c.args.right.now.items in
    let n : length vs ≡ length ws = omega (arith, c.if-len.false, c.args.left.now.ok.0, c.args.right.now.ok.0) in
    let below : c.items.item_index < length vs = omega (arith, c.items-test.true, c.args.left.now.ok.0) in
    record {
      same = next_item vs ws c.items.item_index c.index.result.now c.index-in-items.result.now _ below (omega (arith, n, below))
          c.index.ensures c.index-in-items.ensures (sym c.if-same_values_in_order.ensures) c.items.invariant.same;
      within = omega (arith, below);
    }

pub same_lists_in_order-returns : goal.same_lists_in_order-returns
same_lists_in_order-returns t c =
    let vs = c.args.left.now.items in
    let ws = c.args.right.now.items in
    let item_index = c.items.item_index in
    let n : length vs ≡ length ws = omega (arith, c.if-len.false, c.args.left.now.ok.0, c.args.right.now.ok.0) in
    elim c.items-test.branch [
      | same_lists_in_order-then-items-test+else-same_values_in_order w ↦
          let below : item_index < length vs = omega (arith, w.items-test.true, c.args.left.now.ok.0) in
          ne_eqb item_index _ (λ e. omega (arith, e, w.items-test.true))
          ∙ other_item vs ws item_index w.index.result.now w.index-in-items.result.now _ below (omega (arith, n, below))
          w.index.ensures w.index-in-items.ensures (sym w.if-same_values_in_order.ensures) c.items.invariant.same
      | same_lists_in_order-else-items-test w ↦
          eq-eqb item_index _ (omega (arith, w.items-test.false, c.items.invariant.within, c.args.left.now.ok.0))
          ∙ items_ended vs ws item_index _ (omega (arith, w.items-test.false, c.args.left.now.ok.0))
          (omega (arith, n, w.items-test.false, c.args.left.now.ok.0)) c.items.invariant.same
    ]
