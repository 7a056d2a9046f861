-- Pairs in ascending key order, and the least key above another. Keys are compared by their bytes, as strings in Rust.
use Rattle.std.specs.Prelude.{◌≡◌, ℕ, List, [], ◌∷◌, Option, Some, None, Bool, true}
use Rattle.std.specs.Ordering.{nat_cmp, is_lt}
use Rattle.std.specs.declared.cmp.Ordering.{Ordering}
use Rattle.std.specs.declared.cmp.Ordering.TheVariants.{Less}
use Rattle.std.specs.Cmp.Lexicographic.{slice_cmp}
use Rattle.std.specs.FinMap.{put, find}

-- the order of two keys
abbrev pub key_cmp : List ℕ → List ℕ → Ordering
key_cmp = slice_cmp nat_cmp

-- the pairs in ascending key order; of a duplicate key only the first pair
abbrev pub sorted_by_key : {X : Type 0} → List (List ℕ × X) → List (List ℕ × X)
sorted_by_key [] = []
sorted_by_key (first_pair ∷ pair_list) = put key_cmp first_pair.0 first_pair.1 (sorted_by_key pair_list)

-- the key is above the last one, if there is a last one
abbrev pub is_key_above : Option (List ℕ) → List ℕ → Bool
is_key_above None key = true
is_key_above (Some last_key) key = is_lt (key_cmp last_key key)

-- the key is below the key of the pair, if there is a pair
abbrev pub is_below_found_key : {X : Type 0} → Option (List ℕ × X) → List ℕ → Bool
is_below_found_key None key = true
is_below_found_key (Some pair) key = is_lt (key_cmp key pair.0)

-- the first of the pairs with the least key above the last one
abbrev pub IsLeastKeyAbove : {X : Type 0} → (previous_key : Option (List ℕ)) → List (List ℕ × X) → Option (List ℕ × X)
    → Type 0
IsLeastKeyAbove previous_key pair_list None = (key : List ℕ) → is_key_above previous_key key ≡ true
    → find key_cmp key pair_list ≡ None
IsLeastKeyAbove previous_key pair_list (Some pair) = (is_key_above previous_key pair.0 ≡ true)
    × (find key_cmp pair.0 pair_list ≡ Some pair.1)
    × ((key : List ℕ) → is_key_above previous_key key ≡ true → key_cmp key pair.0 ≡ Less
    → find key_cmp key pair_list ≡ None)
