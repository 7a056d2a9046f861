-- The path to the first duplicate key, as a function. For private clauses.
use Rattle.std.specs.Prelude.{◌≡◌, ◌++◌, ◌+◌, ℕ, List, [], ◌∷◌, Option, Some, None, Bool, true, false, not, option_map}
use Rattle.std.specs.Prelude.{Vec}
use Rattle.std.specs.List.{list_any}
use Rattle.std.specs.Str.{bytes_eq}
use Rattle.std.specs.declared.alloc.Global.{Global}
use Rattle.json.specs.Token.{Token}
use Rattle.json.specs.Json.{Json, Items, no_items, item, Members, no_members, member}
use Rattle.json.specs.Json as json
use Rattle.bson_tree.specs.Place.{PathSegment, key, element}
use Rattle.bson_tree.specs.declared.place.Segment.{Segment}
use Rattle.bson_tokens.specs.DuplicateKeys.{segments_of}

-- a path, or none
abbrev pub DuplicatePath : Type 0
DuplicatePath = Option (List PathSegment)

abbrev pub append_segment : PathSegment → DuplicatePath → DuplicatePath
append_segment segment None = None
append_segment segment (Some path) = Some (path ++ segment ∷ [])

abbrev pub first_path : DuplicatePath → (later_path : DuplicatePath) → DuplicatePath
first_path None later_path = later_path
first_path (Some path) later_path = Some path

-- the path of a member, whose key is new or duplicated
abbrev pub member_path : (is_new : Bool) → (member_key : List ℕ) → (path_in_value : DuplicatePath) → DuplicatePath
member_path true member_key path_in_value = append_segment (key member_key) path_in_value
member_path false member_key path_in_value = Some (key member_key ∷ [])

abbrev pub is_among : (earlier_keys : List (List ℕ)) → (member_key : List ℕ) → Bool
is_among earlier_keys member_key = list_any (λ earlier_key. bytes_eq earlier_key member_key) earlier_keys

abbrev mutual
  pub first_duplicate : Json → DuplicatePath
  first_duplicate json.null = None
  first_duplicate (json.boolean truth) = None
  first_duplicate (json.number scalar_text) = None
  first_duplicate (json.string scalar_text) = None
  first_duplicate (json.array json_items) = first_duplicate_in_items 0 json_items
  first_duplicate (json.object json_members) = first_duplicate_in_members [] json_members

  -- among elements, the first of which has this index in its array
  pub first_duplicate_in_items : (item_index : ℕ) → Items → DuplicatePath
  first_duplicate_in_items item_index no_items = None
  first_duplicate_in_items item_index (item json_value json_items) =
      first_path (append_segment (element item_index) (first_duplicate json_value))
      (first_duplicate_in_items (item_index + 1) json_items)

  -- among members after others with these keys
  pub first_duplicate_in_members : (earlier_keys : List (List ℕ)) → Members → DuplicatePath
  first_duplicate_in_members earlier_keys no_members = None
  first_duplicate_in_members earlier_keys (member member_key json_value json_members) =
      first_path (member_path (not (is_among earlier_keys member_key)) member_key (first_duplicate json_value))
      (first_duplicate_in_members (member_key ∷ earlier_keys) json_members)

-- the path that a function returned
abbrev pub path_of_result : Option (Vec Segment Global) → DuplicatePath
path_of_result path = option_map segments_of path

-- one or more values were read, these tokens remain, and the returned path is that of the values
abbrev pub FindsDuplicate : {D : Type 0} → (duplicate_in : D → DuplicatePath) → (parse_result : Option (D × List Token))
    → (path : Option (Vec Segment Global)) → (remaining_tokens : List Token)
    → Type 0
FindsDuplicate {D} duplicate_in parse_result path remaining_tokens = (parsed_value : D)
    × (parse_result ≡ Some (parsed_value, remaining_tokens)) × (path_of_result path ≡ duplicate_in parsed_value)
