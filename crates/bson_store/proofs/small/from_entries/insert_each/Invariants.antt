use Rattle.std.proofs.Common.{◌≡◌, [], length}
use Rattle.std.specs.Vec.Iter.{into_iter_items, into_iter_len}
use Rattle.bson_store.specs.Pairs.{insert_pairs}
use Rattle.bson_store.specs.KeyIndex.{stored_pairs}
use Rattle.bson_store.proofs.small.from_entries.insert_each.Given as goal

abbrev pub invariant-pairs : goal.invariant-pairs
invariant-pairs g l = record {
  remaining_pairs : into_iter_len l.key-iterator ≡ length (into_iter_items l.key-iterator);
  all : insert_pairs (stored_pairs (into_iter_items l.key-iterator)) l.store ≡ insert_pairs (stored_pairs l.fn.pairs.items) [];
}
