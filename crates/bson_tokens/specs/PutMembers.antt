-- Items with a key, a position and a value each, as the members of an object. For private clauses.
use Rattle.std.specs.Prelude.{◌≡◌, ◌≤◌, ◌+◌, ℕ, List, [], ◌∷◌, if◌then◌else◌, Option, Some, None}
use Rattle.std.specs.Cmp.Lexicographic.{slice_cmp}
use Rattle.std.specs.Ordering.{nat_cmp}
use Rattle.std.specs.Str.{bytes_eq}
use Rattle.std.specs.declared.cmp.Ordering.TheVariants.{Less}
use Rattle.json.specs.Json.{Json, Members, no_members, member}
use Rattle.bson_tokens.specs.Normalized.{put_member}
use Rattle.bson_model.specs.declared.options.KeyOrder.{KeyOrder}

-- ---- keys

-- the key is greater than the last one, by bytes
abbrev pub KeyIsGreater : (previous_key : Option (List ℕ)) → (next_key : List ℕ) → Type 0
KeyIsGreater None key_bytes = Unit {0}
KeyIsGreater (Some previous) key_bytes = slice_cmp nat_cmp previous key_bytes ≡ Less

-- each key is greater than the one before it
abbrev pub KeysAscendFrom : (previous_key : Option (List ℕ)) → (later_keys : List (List ℕ)) → Type 0
KeysAscendFrom previous_key [] = Unit {0}
KeysAscendFrom previous_key (key_bytes ∷ later_keys) = KeyIsGreater previous_key key_bytes
    × KeysAscendFrom (Some key_bytes) later_keys

-- ---- places

module _ {Entry : Type 0} (place_of : Entry → ℕ) where
  -- each position is after the one before it, and the first is not before the lowest
  abbrev pub PositionsAscend : (least_position : ℕ) → List Entry → Type 0
  PositionsAscend least_position [] = Unit {0}
  PositionsAscend least_position (entry ∷ entries) = (least_position ≤ place_of entry)
      × PositionsAscend (place_of entry + 1) entries

-- ---- members

module _ {Entry : Type 0} (key_of : Entry → List ℕ) where
  module _ (value_of : Entry → Json) where
    abbrev pub members_of : List Entry → Members
    members_of [] = no_members
    members_of (entry ∷ entries) = member (key_of entry) (value_of entry) (members_of entries)

    -- the members after each item is inserted
    abbrev pub put_all_members : KeyOrder → List Entry → Members → Members
    put_all_members key_order [] members_so_far = members_so_far
    put_all_members key_order (entry ∷ entries) members_so_far =
        put_all_members key_order entries (put_member key_order (key_of entry) (value_of entry) members_so_far)

  -- adjacent items with one key, merged into one
  module _ (merge : Entry → Entry → Entry) where
    abbrev pub merged_from : Entry → List Entry → List Entry
    merged_from entry [] = entry ∷ []
    merged_from entry (next_entry ∷ later_entries) =
        if bytes_eq (key_of next_entry) (key_of entry) then merged_from (merge entry next_entry) later_entries
        else entry ∷ merged_from next_entry later_entries

    abbrev pub merged : List Entry → List Entry
    merged [] = []
    merged (entry ∷ entries) = merged_from entry entries
