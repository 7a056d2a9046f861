-- Extended JSON v1 as a relation, a production per shape: MongoDB Extended JSON v1, "BSON Data Types and Associated
-- Representations", strict mode (https://www.mongodb.com/docs/manual/reference/mongodb-extended-json-v1/); and the trees
-- of v2, in which no object has a shape of v1.
use Rattle.std.specs.Prelude.{◌≡◌, ℕ, Bool, true, List, Some, codes}
use Rattle.json.specs.Json.{Json, Items, no_items, item, Members, no_members, member}
use Rattle.json.specs.Json as json
use Rattle.bson_tokens.specs.Normalized.{normalized}
use Rattle.bson_tokens.specs.DuplicateKeys.{json_of}
use Rattle.bson_model.specs.declared.options.KeyOrder.TheVariants.{AsGiven}
use Rattle.bson_v1.specs.Upgraded.{binary_json, date_json, ends_in_offset, is_plain_uuid, lacks_seconds, regex_json, uuid_json}

-- two members that are strings
abbrev pub two_string_members : (first_key first_text second_key second_text : List ℕ) → Members
two_string_members first_key first_text second_key second_text =
    member first_key (json.string first_text) (member second_key (json.string second_text) no_members)

-- the members are those of an object of v1, which denotes the tree of v2
pub data IsVersion1 : Members → Json → Type 0 where
  binary : (base64 sub_type : List ℕ)
      → IsVersion1 (two_string_members (codes "$binary") base64 (codes "$type") sub_type) (binary_json base64 sub_type)
  binary_type_first : (base64 sub_type : List ℕ)
      → IsVersion1 (two_string_members (codes "$type") sub_type (codes "$binary") base64) (binary_json base64 sub_type)
  regex : (pattern options : List ℕ)
      → IsVersion1 (two_string_members (codes "$regex") pattern (codes "$options") options) (regex_json pattern options)
  regex_options_first : (pattern options : List ℕ)
      → IsVersion1 (two_string_members (codes "$options") options (codes "$regex") pattern) (regex_json pattern options)
  date_without_colon : (text_bytes : List ℕ) → ends_in_offset text_bytes ≡ true
      → IsVersion1 (member (codes "$date") (json.string text_bytes) no_members) (date_json text_bytes)
  date_without_seconds : (text_bytes : List ℕ) → lacks_seconds text_bytes ≡ true
      → IsVersion1 (member (codes "$date") (json.string text_bytes) no_members) (date_json text_bytes)
  uuid : (text_bytes : List ℕ) → is_plain_uuid text_bytes ≡ true
      → IsVersion1 (member (codes "$uuid") (json.string text_bytes) no_members) (uuid_json text_bytes)

abbrev pub IsNotVersion1 : Members → Type 0
IsNotVersion1 json_members = (v2_value : Json) → IsVersion1 json_members v2_value → ⊥

mutual
  -- no object of the tree has a shape of v1, except scopes
  pub data IsVersion2 : Json → Type 0 where
    null : IsVersion2 json.null
    boolean : (truth : Bool) → IsVersion2 (json.boolean truth)
    number : (text_bytes : List ℕ) → IsVersion2 (json.number text_bytes)
    string : (text_bytes : List ℕ) → IsVersion2 (json.string text_bytes)
    array : (json_items : Items) → ItemsAreVersion2 json_items → IsVersion2 (json.array json_items)
    object : (json_members : Members) → IsNotVersion1 json_members → MembersAreVersion2 json_members
        → IsVersion2 (json.object json_members)

  pub data ItemsAreVersion2 : Items → Type 0 where
    none : ItemsAreVersion2 no_items
    next_item : (json_value : Json) (json_items : Items) → IsVersion2 json_value → ItemsAreVersion2 json_items
        → ItemsAreVersion2 (item json_value json_items)

  -- the same of what an object contains, whatever its own keys are
  pub data MembersAreVersion2 : Members → Type 0 where
    no_scope : (json_members : Members) → EachMemberIsVersion2 json_members → MembersAreVersion2 json_members
    scope_last : (text_bytes : List ℕ) (scope json_members : Members) → MembersAreVersion2 scope
        → EachMemberIsVersion2 json_members
        → MembersAreVersion2
        (member (codes "$code") (json.string text_bytes) (member (codes "$scope") (json.object scope) json_members))
    scope_first : (text_bytes : List ℕ) (scope json_members : Members) → MembersAreVersion2 scope
        → EachMemberIsVersion2 json_members
        → MembersAreVersion2
        (member (codes "$scope") (json.object scope) (member (codes "$code") (json.string text_bytes) json_members))

  pub data EachMemberIsVersion2 : Members → Type 0 where
    no_more : EachMemberIsVersion2 no_members
    next_member : (member_key : List ℕ) (json_value : Json) (json_members : Members) → IsVersion2 json_value
        → EachMemberIsVersion2 json_members → EachMemberIsVersion2 (member member_key json_value json_members)

-- each key of the text's objects has its last value, and then the tree is one of v2
abbrev pub IsTextOfVersion2 : (text : List ℕ) → Type 0
IsTextOfVersion2 text = (json_value : Json) → json_of text ≡ Some json_value
    → IsVersion2 (normalized AsGiven json_value)
