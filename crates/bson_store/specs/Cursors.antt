-- The pairs that an iterator over a small store has not returned yet.
use Rattle.std.specs.Prelude.{◌≡◌, ℕ, ◌<◌, ◌≤◌, List, [], ◌∷◌, drop, length, Option, Some, MatchOption, option_map}
use Rattle.std.specs.Prelude.{slice_get, filter_map, string_bytes}
use Rattle.std.specs.FinMap.Entries.{where_key}
use Rattle.std.specs.Slice.Iter.{iter_rest}
use Rattle.bson_store.specs.AscendingOrder.{key_cmp, is_key_above, sorted_by_key}
use Rattle.bson_store.specs.declared.small.iter.Cursor.{Cursor}
use Rattle.bson_store.specs.declared.small.iter.Cursor.TheVariants.{From, Sorted, Mapped, Above}

module _ {V : Type 0} where
  -- the pairs at the positions
  abbrev pub pairs_at_positions : (position_list : List ℕ) → List (List ℕ × V) → List (List ℕ × V)
  pairs_at_positions position_list pair_list = filter_map (slice_get pair_list) position_list

  -- the pairs that remain
  abbrev pub remaining_pairs : Cursor → List (List ℕ × V) → List (List ℕ × V)
  remaining_pairs (From pair_position) pair_list = drop pair_position pair_list
  remaining_pairs (Sorted position_iter) pair_list = pairs_at_positions (iter_rest position_iter) pair_list
  remaining_pairs (Mapped position_list) pair_list = pairs_at_positions position_list pair_list
  remaining_pairs (Above previous_key) pair_list =
      where_key key_cmp (is_key_above (option_map (λ key_reference. string_bytes key_reference.now) previous_key))
      (sorted_by_key pair_list)

  -- each position is the position of a pair
  abbrev pub ArePositionsInBounds : (position_list : List ℕ) → List (List ℕ × V) → Type 0
  ArePositionsInBounds position_list pair_list = (list_index pair_position : ℕ)
      → slice_get position_list list_index ≡ Some pair_position → pair_position < length pair_list

  abbrev pub IsCursorInBounds : Cursor → List (List ℕ × V) → Type 0
  IsCursorInBounds (From pair_position) pair_list = pair_position ≤ length pair_list
  IsCursorInBounds (Sorted position_iter) pair_list = ArePositionsInBounds (iter_rest position_iter) pair_list
  IsCursorInBounds (Mapped position_list) pair_list = ArePositionsInBounds position_list pair_list
  IsCursorInBounds (Above previous_key) pair_list = Unit {0}

  -- all pairs remain, in ascending key order
  abbrev pub IsCursorByKey : Cursor → List (List ℕ × V) → Type 0
  IsCursorByKey cursor pair_list = IsCursorInBounds cursor pair_list
      × (remaining_pairs cursor pair_list ≡ sorted_by_key pair_list)

  -- the first of the remaining pairs is at the position, and the others remain
  abbrev pub IsNextPair : (pair_list remaining_before remaining_after : List (List ℕ × V))
      → (result_position : Option ℕ) → Type 0
  IsNextPair pair_list remaining_before remaining_after result_position =
      MatchOption result_position ((remaining_before ≡ []) × (remaining_after ≡ []))
      (λ pair_position. (next_pair : List ℕ × V) × (slice_get pair_list pair_position ≡ Some next_pair)
      × (remaining_before ≡ next_pair ∷ remaining_after))

  abbrev pub IsCursorStep : List (List ℕ × V) → (cursor_before : Cursor) → (result_position : Option ℕ)
      → (cursor_after : Cursor) → Type 0
  IsCursorStep pair_list cursor_before result_position cursor_after = IsCursorInBounds cursor_after pair_list
      × IsNextPair pair_list (remaining_pairs cursor_before pair_list)
      (remaining_pairs cursor_after pair_list) result_position
