-- The normalized tree: each key once in its object, at its first position or in ascending key order. Keys are compared
-- by their unescaped bytes.
use Rattle.std.specs.Prelude.{◌≡◌, ℕ, List, Some, if◌then◌else◌}
use Rattle.std.specs.Cmp.Lexicographic.{slice_cmp}
use Rattle.std.specs.Ordering.{match_ordering, nat_cmp}
use Rattle.std.specs.Str.{bytes_eq}
use Rattle.json.specs.Json.{Json, null, boolean, number, string, array, object, Items, no_items, item, Members}
use Rattle.json.specs.Json.{no_members, member}
use Rattle.json.specs.Print.{print}
use Rattle.json.specs.Tree.{json_tokens}
use Rattle.serde_json.specs.Data.{Num}
use Rattle.serde_json.specs.Read.{number_of}
use Rattle.bson_tokens.specs.DuplicateKeys.{json_of}
use Rattle.bson_model.specs.declared.options.KeyOrder.{KeyOrder}
use Rattle.bson_model.specs.declared.options.KeyOrder.TheVariants.{AsGiven, Ascending}

-- the members with value j at key k: at the position of k if it is present, otherwise last
abbrev pub put_at_first_position : (member_key : List ℕ) → Json → Members → Members
put_at_first_position member_key json_value no_members = member member_key json_value no_members
put_at_first_position member_key json_value (member first_key first_value json_members) = if bytes_eq member_key first_key then member first_key json_value json_members else member first_key first_value (put_at_first_position member_key json_value json_members)

-- the members with value j at key k, in ascending key order
abbrev pub put_ascending : (member_key : List ℕ) → Json → Members → Members
put_ascending member_key json_value no_members = member member_key json_value no_members
put_ascending member_key json_value (member first_key first_value json_members) =
    match_ordering (slice_cmp nat_cmp member_key first_key) (member member_key json_value (member first_key first_value json_members)) (member first_key json_value json_members)
    (member first_key first_value (put_ascending member_key json_value json_members))

abbrev pub put_member : KeyOrder → (member_key : List ℕ) → Json → Members → Members
put_member AsGiven = put_at_first_position
put_member Ascending = put_ascending

-- the tree with each key once in its object: members are inserted one after another, so the last value of a key wins
abbrev mutual
  pub normalized : KeyOrder → Json → Json
  normalized key_order null = null
  normalized key_order (boolean truth) = boolean truth
  normalized key_order (number scalar_text) = number scalar_text
  normalized key_order (string scalar_text) = string scalar_text
  normalized key_order (array json_items) = array (normalized_items key_order json_items)
  normalized key_order (object json_members) = object (normalized_members key_order json_members no_members)

  pub normalized_items : KeyOrder → Items → Items
  normalized_items key_order no_items = no_items
  normalized_items key_order (item json_value json_items) = item (normalized key_order json_value) (normalized_items key_order json_items)

  -- members after those that are normalized
  pub normalized_members : KeyOrder → Members → (normalized_before : Members) → Members
  normalized_members key_order no_members normalized_before = normalized_before
  normalized_members key_order (member member_key json_value json_members) normalized_before = normalized_members key_order json_members (put_member key_order member_key (normalized key_order json_value) normalized_before)

abbrev mutual
  -- each number is in the range of its Rust type: an integer of 64 bits, or a finite double
  pub HasNumbersInRange : Json → Type 0
  HasNumbersInRange null = Unit {0}
  HasNumbersInRange (boolean truth) = Unit {0}
  HasNumbersInRange (number scalar_text) = (number_value : Num) × (number_of scalar_text ≡ Some number_value)
  HasNumbersInRange (string scalar_text) = Unit {0}
  HasNumbersInRange (array json_items) = ItemsHaveNumbersInRange json_items
  HasNumbersInRange (object json_members) = MembersHaveNumbersInRange json_members

  pub ItemsHaveNumbersInRange : Items → Type 0
  ItemsHaveNumbersInRange no_items = Unit {0}
  ItemsHaveNumbersInRange (item json_value json_items) = HasNumbersInRange json_value
      × ItemsHaveNumbersInRange json_items

  pub MembersHaveNumbersInRange : Members → Type 0
  MembersHaveNumbersInRange no_members = Unit {0}
  MembersHaveNumbersInRange (member member_key json_value json_members) = HasNumbersInRange json_value
      × MembersHaveNumbersInRange json_members

-- the compact text of the normalized tree of a text, each number of which is in range; it is read as that tree
pub record IsNormalizedText (key_order : KeyOrder) (text written : List ℕ) : Type 0 where
  pub tree : Json
  pub is_tree : json_of text ≡ Some tree
  pub numbers : HasNumbersInRange tree
  pub compact : written ≡ print (json_tokens (normalized key_order tree))
  pub read_again : json_of written ≡ Some (normalized key_order tree)
