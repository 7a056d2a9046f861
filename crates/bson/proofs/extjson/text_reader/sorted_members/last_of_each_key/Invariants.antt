use Rattle.std.proofs.Common.{◌≡◌, length}
use Rattle.std.specs.Vec.Iter.{into_iter_items, into_iter_len}
use Rattle.bson_model.specs.Sorted.{KeysAscend}
use Rattle.bson_model.specs.Value.{no_pairs}
use Rattle.bson.specs.SortedMembers.{pairs_of_members, insert_members}
use Rattle.bson.proofs.extjson.text_reader.sorted_members.last_of_each_key.Given as goal

abbrev pub invariant-members : goal.invariant-members
invariant-members l = record {
  left : into_iter_len l.key-iterator ≡ length (into_iter_items l.key-iterator);
  ascends : KeysAscend (pairs_of_members l.unique_members.items);
  all : insert_members (into_iter_items l.key-iterator) (pairs_of_members l.unique_members.items) ≡ insert_members l.fn.members.items no_pairs;
}
