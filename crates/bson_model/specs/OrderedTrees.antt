-- Trees in the order of a text: the data of `serde_json`, with the members of each object as the text has them.
use Rattle.std.specs.Prelude.{◌≡◌, ℕ, List, Bool, false, if◌then◌else◌, ◌||◌, Option, Some, option_map}
use Rattle.std.specs.Prelude.{option_and_then}
use Rattle.std.specs.Str.{bytes_eq}
use Rattle.json.specs.Json as json
use Rattle.json.specs.Lex.{tokens}
use Rattle.serde_json.specs.Data.{Data, null, boolean, number, string, array, object, Items, no_items, item, Members}
use Rattle.serde_json.specs.Data.{no_members, member, put}
use Rattle.serde_json.specs.Read.{number_of, max_depth}
use Rattle.bson_model.specs.Texts.{NumberFits}

-- ---- reading

-- the members with the tree at the key: at the position of the key if it is present, otherwise last
abbrev pub put_at_key_position : (key_text : List ℕ) → Data → Members → Members
put_at_key_position key_text subtree no_members = member key_text subtree no_members
put_at_key_position key_text subtree (member other_key other_subtree member_list) = if bytes_eq key_text other_key then member other_key subtree member_list else member other_key other_subtree (put_at_key_position key_text subtree member_list)

-- the tree of parsed JSON: its members are inserted one after another, so a duplicate key has its last value at its first
-- position
abbrev mutual
  pub tree_of_json : json.Json → Option Data
  tree_of_json json.null = Some null
  tree_of_json (json.boolean truth_value) = Some (boolean truth_value)
  tree_of_json (json.number text_bytes) = option_map number (number_of text_bytes)
  tree_of_json (json.string text_bytes) = Some (string text_bytes)
  tree_of_json (json.array json_items) = option_map array (items_of_json json_items)
  tree_of_json (json.object member_list) = option_map object (members_of_json member_list no_members)

  pub items_of_json : json.Items → Option Items
  items_of_json json.no_items = Some no_items
  items_of_json (json.item json_value json_items) =
      option_and_then (λ subtree. option_map (item subtree) (items_of_json json_items)) (tree_of_json json_value)

  pub members_of_json : json.Members → Members → Option Members
  members_of_json json.no_members members_so_far = Some members_so_far
  members_of_json (json.member key_text json_value member_list) members_so_far =
      option_and_then (λ subtree. members_of_json member_list (put_at_key_position key_text subtree members_so_far))
      (tree_of_json json_value)

-- the tree that a text is, in the order of the text
abbrev pub read_in_order : List ℕ → Option Data
read_in_order text =
    option_and_then tree_of_json
    (option_and_then (λ parsed_rest. json.if_last parsed_rest.0 parsed_rest.1) (json.value max_depth (tokens text)))

-- ---- the tree with sorted keys

-- the tree with the keys of each object in it in ascending order, as `serde_json` has them
abbrev mutual
  pub tree_sorted_by_key : Data → Data
  tree_sorted_by_key null = null
  tree_sorted_by_key (boolean truth_value) = boolean truth_value
  tree_sorted_by_key (number json_number) = number json_number
  tree_sorted_by_key (string text_bytes) = string text_bytes
  tree_sorted_by_key (array item_list) = array (items_sorted_by_key item_list)
  tree_sorted_by_key (object member_list) = object (members_sorted_by_key member_list)

  pub items_sorted_by_key : Items → Items
  items_sorted_by_key no_items = no_items
  items_sorted_by_key (item subtree item_list) = item (tree_sorted_by_key subtree) (items_sorted_by_key item_list)

  pub members_sorted_by_key : Members → Members
  members_sorted_by_key no_members = no_members
  members_sorted_by_key (member key_text subtree member_list) =
      put key_text (tree_sorted_by_key subtree) (members_sorted_by_key member_list)

-- ---- the trees that a text can have

abbrev pub has_key : (key_text : List ℕ) → Members → Bool
has_key key_text no_members = false
has_key key_text (member other_key subtree member_list) = bytes_eq key_text other_key || has_key key_text member_list

-- each key occurs once
abbrev pub KeysDiffer : Members → Type 0
KeysDiffer no_members = Unit {0}
KeysDiffer (member key_text subtree member_list) = (has_key key_text member_list ≡ false) × KeysDiffer member_list

abbrev mutual
  -- each number is in the range of its Rust type, and each object has each key once
  pub IsTreeInOrder : Data → Type 0
  IsTreeInOrder null = Unit {0}
  IsTreeInOrder (boolean truth_value) = Unit {0}
  IsTreeInOrder (number json_number) = NumberFits json_number
  IsTreeInOrder (string text_bytes) = Unit {0}
  IsTreeInOrder (array item_list) = ItemsAreTreesInOrder item_list
  IsTreeInOrder (object member_list) = KeysDiffer member_list × MembersAreTreesInOrder member_list

  pub ItemsAreTreesInOrder : Items → Type 0
  ItemsAreTreesInOrder no_items = Unit {0}
  ItemsAreTreesInOrder (item subtree item_list) = IsTreeInOrder subtree × ItemsAreTreesInOrder item_list

  pub MembersAreTreesInOrder : Members → Type 0
  MembersAreTreesInOrder no_members = Unit {0}
  MembersAreTreesInOrder (member key_text subtree member_list) = IsTreeInOrder subtree
      × MembersAreTreesInOrder member_list
