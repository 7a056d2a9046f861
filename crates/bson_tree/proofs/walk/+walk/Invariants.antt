use Rattle.std.proofs.Common.{◌≡◌, ◌+◌, length}
use Rattle.std.specs.Vec.Iter.{into_iter_items, into_iter_len}
use Rattle.serde_json.specs.View.{items_view, members_view}
use Rattle.bson_tree.proofs.SoFar.{ItemsRead, PairsRead}
use Rattle.bson_tree.proofs.walk.+walk.Given as goal

abbrev pub invariant-read_items-loop-item : goal.invariant-read_items-loop-item
invariant-read_items-loop-item g l = record {
  left : into_iter_len l.item-iterator ≡ length (into_iter_items l.item-iterator);
  counted : l.item_index + length (into_iter_items l.item-iterator) ≡ length l.fn.items.items;
  built_so_far : ItemsRead l.fn.doubles g.B.ValueBuilder.represents_items l.built_so_far l.item_index (items_view (into_iter_items l.item-iterator))
      (items_view l.fn.items.items);
}

abbrev pub invariant-read_members-loop-key : goal.invariant-read_members-loop-key
invariant-read_members-loop-key g l = PairsRead l.fn.doubles g.B.ValueBuilder.represents_pairs l.built_so_far
    (members_view l.key-iterator) (members_view l.fn.members.entries)
