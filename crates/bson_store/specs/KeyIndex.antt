-- Pairs with an index from each key to its position. There is one only if there are more than sixteen pairs and their keys
-- do not ascend.
use Rattle.std.specs.Prelude.{◌≡◌, ℕ, ◌<◌, List, [], map, length, Option, None, Some, String, Box, string_bytes}
use Rattle.std.specs.Prelude.{slice_index_or}
use Rattle.std.specs.BTreeMap.{BTreeMap, get_by_text}
use Rattle.std.specs.List.Sorted.{IsStrictlySortedBy}
use Rattle.std.specs.declared.alloc.Global.{Global}
use Rattle.bson_store.specs.declared.key_index.Index.{Index}
use Rattle.bson_store.specs.declared.key_index.Index.TheVariants.{Sorted, Map}
use Rattle.bson_store.specs.declared.small.Pair.{Pair}
use Rattle.bson_store.specs.AscendingOrder.{key_cmp}
use Rattle.bson_store.specs.Pairs.{keys, get, position_of, HasDistinctKeys}

-- a map from keys to positions
abbrev pub PositionMap : Type 0
PositionMap = BTreeMap (String Global) ℕ

-- the index, if there is one
abbrev pub OptionalIndex : Type 0
OptionalIndex = Option (Box Index Global)

module _ {V : Type 0} where
  -- the pairs, each as the bytes of its key and its value
  abbrev pub stored_pairs : List (Pair V) → List (List ℕ × V)
  stored_pairs pair_list = map (λ stored_pair. (string_bytes stored_pair.key, stored_pair.value)) pair_list

  -- the map has each key with its position, and no other key
  abbrev pub MapsKeysToPositions : PositionMap → List (List ℕ × V) → Type 0
  MapsKeysToPositions position_map pair_list = (key_bytes : List ℕ)
      → get_by_text position_map key_bytes ≡ position_of key_bytes pair_list

  -- each key is below the keys after it
  abbrev pub HasAscendingKeys : List (List ℕ × V) → Type 0
  HasAscendingKeys pair_list = IsStrictlySortedBy key_cmp (keys pair_list)

module _ {V : Type 0} where
  -- the key at each position, with the position
  abbrev pub key_positions : (position_list : List ℕ) → List (List ℕ × V) → List (List ℕ × ℕ)
  key_positions position_list pair_list =
      map (λ pair_position. (slice_index_or (keys pair_list) pair_position [], pair_position)) position_list

  -- the keys at the positions ascend, and the positions are those of all keys
  abbrev pub AreSortedPositions : (position_list : List ℕ) → List (List ℕ × V) → Type 0
  AreSortedPositions position_list pair_list = HasAscendingKeys (key_positions position_list pair_list)
      × ((key_bytes : List ℕ) → get key_bytes (key_positions position_list pair_list) ≡ position_of key_bytes pair_list)

  -- the index has each key with its position, and no other key
  abbrev pub IsIndexOf : Index → List (List ℕ × V) → Type 0
  IsIndexOf (Sorted index_positions) pair_list = AreSortedPositions index_positions.items pair_list
  IsIndexOf (Map position_map) pair_list = MapsKeysToPositions position_map pair_list

  -- without an index, the keys of more than sixteen pairs ascend; with an index, there are more than sixteen pairs
  abbrev pub HasNeededIndex : List (List ℕ × V) → OptionalIndex → Type 0
  HasNeededIndex pair_list None = 16 < length pair_list → HasAscendingKeys pair_list
  HasNeededIndex pair_list (Some boxed_index) = (16 < length pair_list) × IsIndexOf boxed_index.value pair_list

  -- the invariant of the pairs and their index
  abbrev pub StoreInvariant : List (List ℕ × V) → OptionalIndex → Type 0
  StoreInvariant pair_list index = HasDistinctKeys pair_list × HasNeededIndex pair_list index
