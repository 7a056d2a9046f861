-- Pairs inserted one after another.
use Rattle.std.specs.Prelude.{ℕ, List, [], ◌∷◌, String, string_bytes}
use Rattle.std.specs.declared.alloc.Global.{Global}
use Rattle.bson_store.specs.Pairs.{insert_pair}
use Rattle.bson_store.specs.declared.small.Pair.{Pair}

-- the list after each item is inserted, from the first on
abbrev pub insert_all_pairs : {V : Type 0} → (added_pairs : List (String Global × V)) → (pair_list : List (List ℕ × V))
    → List (List ℕ × V)
insert_all_pairs [] pair_list = pair_list
insert_all_pairs (added_pair ∷ added_pairs) pair_list =
    insert_all_pairs added_pairs (insert_pair (string_bytes added_pair.0) added_pair.1 pair_list)

-- the same for stored pairs
abbrev pub insert_entries : {V : Type 0} → (entries : List (Pair V)) → (pair_list : List (List ℕ × V))
    → List (List ℕ × V)
insert_entries [] pair_list = pair_list
insert_entries (entry ∷ entries) pair_list =
    insert_entries entries (insert_pair (string_bytes entry.key) entry.value pair_list)
