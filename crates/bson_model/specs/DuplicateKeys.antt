-- The position and the value of a duplicate key: the position of the first, and the value of the last (as
-- `insert` of this library, the Rust crate `bson`, and the objects of Python and JavaScript have it).
use Rattle.std.specs.Prelude.{◌≡◌, ℕ, List, [], ◌∷◌, filter, not, if◌then◌else◌, Option, Some, None}
use Rattle.std.specs.Prelude.{option_and_then}
use Rattle.std.specs.Str.{bytes_eq}
use Rattle.json.specs.Json as json
use Rattle.serde_json.specs.Data.{Data, Members, no_members, member}
use Rattle.bson_model.specs.OrderedTrees.{tree_of_json}

-- the keys of an object as its text has them, and those of a tree
abbrev pub written_keys : json.Members → List (List ℕ)
written_keys json.no_members = []
written_keys (json.member key_text json_value member_list) = key_text ∷ written_keys member_list

abbrev pub tree_keys : Members → List (List ℕ)
tree_keys no_members = []
tree_keys (member key_text subtree member_list) = key_text ∷ tree_keys member_list

-- the keys without one
abbrev pub without_key : (key_text : List ℕ) → (key_list : List (List ℕ)) → List (List ℕ)
without_key key_text key_list = filter (λ other_key. not (bytes_eq key_text other_key)) key_list

-- each key once, at its first position
abbrev pub first_occurrences : List (List ℕ) → List (List ℕ)
first_occurrences [] = []
first_occurrences (key_text ∷ key_list) = key_text ∷ without_key key_text (first_occurrences key_list)

-- the second of two, or else the first
abbrev pub last_of_two : (first_value later_value : Option json.Json) → Option json.Json
last_of_two first_value None = first_value
last_of_two first_value (Some json_value) = Some json_value

-- what was written last at the key
abbrev pub last_value_at_key : (key_text : List ℕ) → json.Members → Option json.Json
last_value_at_key key_text json.no_members = None
last_value_at_key key_text (json.member other_key json_value member_list) =
    last_of_two (if bytes_eq key_text other_key then Some json_value else None) (last_value_at_key key_text member_list)

-- what the tree has at the key
abbrev pub tree_at_key : (key_text : List ℕ) → Members → Option Data
tree_at_key key_text no_members = None
tree_at_key key_text (member other_key subtree member_list) =
    if bytes_eq key_text other_key then Some subtree else tree_at_key key_text member_list

-- the members of an object's tree: each key of the text once, at its first place, with the last value
pub record HasFirstPositions (json_members : json.Members) (member_list : Members) : Type 0 where
  pub keys_at_first_positions : tree_keys member_list ≡ first_occurrences (written_keys json_members)
  pub last_values : (key_text : List ℕ)
      → tree_at_key key_text member_list ≡ option_and_then tree_of_json (last_value_at_key key_text json_members)
