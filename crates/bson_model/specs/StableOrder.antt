-- Members with a key and a value each, in any order, and the pairs that they become in ascending key order.
use Rattle.std.specs.Prelude.{◌≡◌, ℕ, Bool, List, [], ◌∷◌}
use Rattle.std.specs.List.{filter}
use Rattle.std.specs.Str.{bytes_eq}
use Rattle.bson_model.specs.Sorted.{insert_sorted_pair}
use Rattle.bson_model.specs.Value.{Value, Pairs, no_pairs, pair}

module _ {Member : Type 0} (key_of : Member → List ℕ) where
  -- they have one key
  abbrev pub have_equal_keys : (one_member other_member : Member) → Bool
  have_equal_keys one_member other_member = bytes_eq (key_of one_member) (key_of other_member)

  -- the members of each key have the same order in both lists
  abbrev pub IsStableByKey : (member_list other_members : List Member) → Type 0
  IsStableByKey member_list other_members = (one_member : Member)
      → filter (have_equal_keys one_member) other_members ≡ filter (have_equal_keys one_member) member_list

  module _ (value_of : Member → Value) where
    -- the pairs after each member is inserted, one after another
    abbrev pub insert_each : List Member → Pairs → Pairs
    insert_each [] pair_list = pair_list
    insert_each (one_member ∷ member_list) pair_list =
        insert_each member_list (insert_sorted_pair (key_of one_member) (value_of one_member) pair_list)

    abbrev pub pairs_of : List Member → Pairs
    pairs_of [] = no_pairs
    pairs_of (one_member ∷ member_list) = pair (key_of one_member) (value_of one_member) (pairs_of member_list)
