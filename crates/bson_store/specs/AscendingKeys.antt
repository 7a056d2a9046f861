-- The position of a key among pairs whose keys ascend.
use Rattle.std.specs.Prelude.{◌≡◌, ℕ, ◌<◌, ◌≤◌, List, length, Option, Some, slice_get, true, false}
use Rattle.bson_store.specs.AscendingOrder.{is_key_above}
use Rattle.bson_store.specs.Pairs.{keys}

module _ {V : Type 0} where
  -- no key before the position is above the given one
  abbrev pub NoKeyAboveBefore : (given_key : Option (List ℕ)) → List (List ℕ × V) → (found_position : ℕ) → Type 0
  NoKeyAboveBefore given_key pair_list found_position = (other_position : ℕ) (other_key : List ℕ)
      → other_position < found_position → slice_get (keys pair_list) other_position ≡ Some other_key
      → is_key_above given_key other_key ≡ false

  -- each key from the position on is above the given one
  abbrev pub AllKeysAboveFrom : (given_key : Option (List ℕ)) → List (List ℕ × V) → (found_position : ℕ) → Type 0
  AllKeysAboveFrom given_key pair_list found_position = (other_position : ℕ) (other_key : List ℕ)
      → found_position ≤ other_position → slice_get (keys pair_list) other_position ≡ Some other_key
      → is_key_above given_key other_key ≡ true

  -- the position of the first key above the given one, or the number of pairs
  abbrev pub IsFirstKeyAbove : (given_key : Option (List ℕ)) → List (List ℕ × V) → (found_position : ℕ) → Type 0
  IsFirstKeyAbove given_key pair_list found_position = (found_position ≤ length pair_list)
      × NoKeyAboveBefore given_key pair_list found_position × AllKeysAboveFrom given_key pair_list found_position
