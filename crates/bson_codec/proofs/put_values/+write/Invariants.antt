use Rattle.std.proofs.Common.{◌≡◌, ◌≤◌, ◌+◌, length, drop}
use Rattle.bson_bytes.specs.PutSteps.{put_array_elements, put_elements}
use Rattle.bson_bytes.specs.Writing.{AreWellTyped, PairsAreWellTyped}
use Rattle.bson.specs.Iter.{remaining_entries}
use Rattle.bson.specs.View.{bson_view, code_with_scope_view, document_view, values_view, pairs_view, contents}
use Rattle.bson.proofs.Offered.{weight, weight_items, weight_pairs}
use Rattle.bson_codec.proofs.put_values.+write.Given as goal

abbrev pub decreases-put_value : goal.decreases-put_value
decreases-put_value l = 1 + weight (bson_view l.value.now)

abbrev pub decreases-put_code_with_scope : goal.decreases-put_code_with_scope
decreases-put_code_with_scope l = weight (code_with_scope_view l.scoped_code.now)

abbrev pub decreases-put_document : goal.decreases-put_document
decreases-put_document l = weight_pairs (document_view l.document.now)

abbrev pub decreases-put_array : goal.decreases-put_array
decreases-put_array l = weight_items (values_view l.values.now.items)

-- what is left, written after what was written, is all that is written
abbrev pub invariant-put_document-elements : goal.invariant-put_document-elements
invariant-put_document-elements l = record {
  put : put_elements (pairs_view (remaining_entries l.pairs)) l.output.items ≡ put_elements (pairs_view (contents l.document)) l.initial.output.items;
  lighter : weight_pairs (pairs_view (remaining_entries l.pairs)) ≤ weight_pairs (pairs_view (contents l.document));
  room : l.length_start + 4 ≤ length l.output.items;
  typed : PairsAreWellTyped (pairs_view (remaining_entries l.pairs)) → PairsAreWellTyped (pairs_view (contents l.document));
}

abbrev pub decreases-put_document-elements : goal.decreases-put_document-elements
decreases-put_document-elements l = length (remaining_entries l.pairs)

abbrev pub invariant-put_array-loop-index : goal.invariant-put_array-loop-index
invariant-put_array-loop-index l = record {
  put : put_array_elements l.index (values_view (drop l.index l.value-items)) l.output.items ≡ put_array_elements 0 (values_view l.value-items) l.initial.output.items;
  room : l.length_start + 4 ≤ length l.output.items;
  typed : AreWellTyped (values_view (drop l.index l.value-items)) → AreWellTyped (values_view l.value-items);
}
