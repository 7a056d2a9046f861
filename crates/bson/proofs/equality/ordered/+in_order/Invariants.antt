use Rattle.std.proofs.Common.{◌≡◌, ◌+◌, ◌-◌, ◌≤◌, length, drop}
use Rattle.bson.specs.Iter.{remaining_entries}
use Rattle.bson.specs.View.{bson_view, document_view, code_with_scope_view, values_view, pairs_view, contents}
use Rattle.bson.specs.SameInOrder.{same_items_in_order, same_pairs_in_order}
use Rattle.bson.proofs.Weights.{weight, weight_items, weight_pairs}
use Rattle.bson.proofs.equality.ordered.+in_order.Given as goal

abbrev pub decreases-same_values_in_order : goal.decreases-same_values_in_order
decreases-same_values_in_order l = 1 + weight (bson_view l.left.now)

abbrev pub decreases-same_code_in_order : goal.decreases-same_code_in_order
decreases-same_code_in_order l = weight (code_with_scope_view l.left.now)

abbrev pub decreases-same_documents_in_order : goal.decreases-same_documents_in_order
decreases-same_documents_in_order l = weight_pairs (document_view l.left.now)

abbrev pub decreases-same_lists_in_order : goal.decreases-same_lists_in_order
decreases-same_lists_in_order l = weight_items (values_view l.left.now.items)

-- what is left of both is the same just if all is
abbrev pub invariant-same_documents_in_order-pairs : goal.invariant-same_documents_in_order-pairs
invariant-same_documents_in_order-pairs l = record {
  same : same_pairs_in_order (pairs_view (remaining_entries l.left_pairs)) (pairs_view (remaining_entries l.right_pairs))
      ≡ same_pairs_in_order (pairs_view (contents l.left)) (pairs_view (contents l.right));
  lighter : weight_pairs (pairs_view (remaining_entries l.left_pairs)) ≤ weight_pairs (pairs_view (contents l.left));
}

abbrev pub decreases-same_documents_in_order-pairs : goal.decreases-same_documents_in_order-pairs
decreases-same_documents_in_order-pairs l = length (remaining_entries l.left_pairs)

abbrev pub invariant-same_lists_in_order-items : goal.invariant-same_lists_in_order-items
invariant-same_lists_in_order-items l = record {
  same : same_items_in_order (values_view (drop l.item_index l.left.items)) (values_view (drop l.item_index l.right.items))
      ≡ same_items_in_order (values_view l.left.items) (values_view l.right.items);
  within : l.item_index ≤ length l.left.items;
}

abbrev pub decreases-same_lists_in_order-items : goal.decreases-same_lists_in_order-items
decreases-same_lists_in_order-items l = length l.left.items - l.item_index
