use Rattle.std.proofs.Common.{◌≡◌, ◌++◌, List, map, length}
use Rattle.std.specs.Vec.Iter.{into_iter_items, into_iter_len}
use Rattle.serde_json.specs.View.{view, members_view}
use Rattle.bson_model.specs.Normal.{ItemsInRange, PairsInRange}
use Rattle.bson_model.specs.Writing.{writes_items_in, writes_pairs_in}
use Rattle.bson.specs.View.{values_view, document_view, pairs_view}
use Rattle.bson.proofs.Seen.{Entry}
use Rattle.bson.proofs.OntoTree.{onto_items, onto_members}
use Rattle.bson.proofs.extjson.write.+write.Given as goal

abbrev pub invariant-write_items-loop-value : goal.invariant-write_items-loop-value
invariant-write_items-loop-value l = record {
  left : into_iter_len l.value-iterator ≡ length (into_iter_items l.value-iterator);
  written : onto_items (map view l.items.items)
      (writes_items_in l.fn.doubles l.fn.form (values_view (into_iter_items l.value-iterator)))
      ≡ writes_items_in l.fn.doubles l.fn.form (values_view l.fn.values.items);
  within_type_range : ItemsInRange (values_view (into_iter_items l.value-iterator)) → ItemsInRange (values_view l.fn.values.items);
}

abbrev pub invariant-write_pairs-loop-key : goal.invariant-write_pairs-loop-key
invariant-write_pairs-loop-key l = record {
  split : (front : List Entry) × (l.fn.document.pairs ≡ front ++ l.key-iterator);
  written : onto_members l.fn.doubles l.fn.form l.key-iterator (members_view l.members.entries)
      ≡ writes_pairs_in l.fn.doubles l.fn.form (document_view l.fn.document);
  within_type_range : PairsInRange (pairs_view l.key-iterator) → PairsInRange (document_view l.fn.document);
}
