-- The first duplicate key of a JSON text. Keys are compared by their unescaped bytes.
use Rattle.std.specs.Prelude.{◌≡◌, ◌++◌, ◌+◌, ℕ, List, [], ◌∷◌, map, Option, Some, MatchOption, option_and_then, Vec}
use Rattle.std.specs.Prelude.{Contains}
use Rattle.std.specs.declared.alloc.Global.{Global}
use Rattle.json.specs.Json.{Json, Items, item, Members, member, if_last, value}
use Rattle.json.specs.Json as json
use Rattle.json.specs.Lex.{tokens}
use Rattle.json.specs.Strict.{HasUniqueKeys}
use Rattle.serde_json.specs.Read.{max_depth}
use Rattle.bson_tree.specs.Place.{PathSegment, key, element, segment_of}
use Rattle.bson_tree.specs.declared.place.Segment.{Segment}

-- the value of a text whose arrays and objects nest at most 127 deep, with its keys in input order (RFC 8259)
abbrev pub json_of : (text : List ℕ) → Option Json
json_of text = option_and_then (λ parse_result. if_last parse_result.0 parse_result.1) (value max_depth (tokens text))

mutual
  -- the first duplicate key, in the order of the text, and the path from it outward
  pub data DuplicateAt : Json → List PathSegment → Type 0 where
    array : {path : List PathSegment} (json_items : Items) → DuplicateInItems 0 json_items path
        → DuplicateAt (json.array json_items) path
    object : {path : List PathSegment} (json_members : Members) → DuplicateInMembers [] json_members path
        → DuplicateAt (json.object json_members) path

  -- among elements, the first of which has this index in its array
  pub data DuplicateInItems : (first_index : ℕ) → Items → (path : List PathSegment) → Type 0 where
    in_this_item : {path : List PathSegment} (item_index : ℕ) (json_value : Json) (json_items : Items)
        → DuplicateAt json_value path
        → DuplicateInItems item_index (item json_value json_items) (path ++ element item_index ∷ [])
    in_later_item : {path : List PathSegment} (item_index : ℕ) (json_value : Json) (json_items : Items)
        → HasUniqueKeys json_value → DuplicateInItems (item_index + 1) json_items path
        → DuplicateInItems item_index (item json_value json_items) path

  -- among members after others with these keys
  pub data DuplicateInMembers : (earlier_keys : List (List ℕ)) → Members → (path : List PathSegment) → Type 0 where
    duplicate_key : (earlier_keys : List (List ℕ)) (member_key : List ℕ) (json_value : Json) (json_members : Members)
        → Contains earlier_keys member_key
        → DuplicateInMembers earlier_keys (member member_key json_value json_members) (key member_key ∷ [])
    in_member_value : {path : List PathSegment} (earlier_keys : List (List ℕ)) (member_key : List ℕ) (json_value : Json)
        (json_members : Members)
        → ¬ (Contains earlier_keys member_key) → DuplicateAt json_value path
        → DuplicateInMembers earlier_keys (member member_key json_value json_members) (path ++ key member_key ∷ [])
    in_later_member : {path : List PathSegment} (earlier_keys : List (List ℕ)) (member_key : List ℕ) (json_value : Json)
        (json_members : Members)
        → ¬ (Contains earlier_keys member_key) → HasUniqueKeys json_value
        → DuplicateInMembers (member_key ∷ earlier_keys) json_members path
        → DuplicateInMembers earlier_keys (member member_key json_value json_members) path

-- the text is a value in which no object has a duplicate key
abbrev pub HasNoDuplicateKeys : (text : List ℕ) → Type 0
HasNoDuplicateKeys text = (json_value : Json) × (json_of text ≡ Some json_value) × HasUniqueKeys json_value

-- the text is a value, whose first duplicate key has this path
abbrev pub HasDuplicateKey : (text : List ℕ) → (path : List PathSegment) → Type 0
HasDuplicateKey text path = (json_value : Json) × (json_of text ≡ Some json_value) × DuplicateAt json_value path

abbrev pub segments_of : Vec Segment Global → List PathSegment
segments_of path = map segment_of path.items

-- the text has no duplicate key, or this is the path to the first one
abbrev pub IsFirstDuplicate : (text : List ℕ) → (path : Option (Vec Segment Global)) → Type 0
IsFirstDuplicate text path =
    MatchOption path (HasNoDuplicateKeys text) (λ duplicate_path. HasDuplicateKey text (segments_of duplicate_path))
