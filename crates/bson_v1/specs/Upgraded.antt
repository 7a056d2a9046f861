-- The tree of Extended JSON v2 that a tree of v1 denotes (MongoDB Extended JSON v1; the Extended JSON specification,
-- "Parsers", which lets readers accept the shapes of v1). Members keep their order, also those with a duplicate key.
use Rattle.std.specs.Prelude.{ℕ, ◌-◌, List, ◌++◌, length, take, drop, slice_index, slice_range, Bool, ◌&&◌, ◌||◌, ◌==◌}
use Rattle.std.specs.Prelude.{codes, false, nat_le, if◌then◌else◌}
use Rattle.std.specs.List.{list_all}
use Rattle.std.specs.Str.{bytes_eq}
use Rattle.json.specs.Json.{Json, Items, no_items, item, Members, no_members, member}
use Rattle.json.specs.Json as json

-- the text with a part inserted at a place
abbrev pub inserted : (text : List ℕ) → (place : ℕ) → (part : List ℕ) → List ℕ
inserted text place part = take place text ++ part ++ drop place text

-- ---- dates

abbrev pub is_sign : (byte : ℕ) → Bool
is_sign byte = (byte == 43) || (byte == 45)

abbrev pub is_digit : (byte : ℕ) → Bool
is_digit byte = nat_le 48 byte && nat_le byte 57

-- a sign and four digits are at the end, as in 2020-06-01T00:42:40+0200
abbrev pub ends_in_offset : (text : List ℕ) → Bool
ends_in_offset text =
    nat_le 5 (length text) && is_sign (slice_index text (length text - 5))
    && is_digit (slice_index text (length text - 4))
    && is_digit (slice_index text (length text - 3)) && is_digit (slice_index text (length text - 2))
    && is_digit (slice_index text (length text - 1))

-- a sign, two digits, a colon and two digits are at the end, as RFC 3339 (section 5.6) has it
abbrev pub ends_in_colon_offset : (text : List ℕ) → Bool
ends_in_colon_offset text =
    nat_le 6 (length text) && is_sign (slice_index text (length text - 6))
    && is_digit (slice_index text (length text - 5))
    && is_digit (slice_index text (length text - 4)) && (slice_index text (length text - 3) == 58)
    && is_digit (slice_index text (length text - 2)) && is_digit (slice_index text (length text - 1))

-- the text, with a colon in the offset of four digits
abbrev pub with_colon : (text : List ℕ) → List ℕ
with_colon text = if ends_in_offset text then inserted text (length text - 2) (codes ":") else text

-- how many bytes the offset at the end has: `Z`, or a sign and four digits, with a colon or without; 0 if there is none
abbrev pub offset_length : (text : List ℕ) → ℕ
offset_length text =
    if nat_le 1 (length text) && (slice_index text (length text - 1) == 90) then 1
    else if ends_in_offset text then 5
    else if ends_in_colon_offset text then 6
    else 0

-- `T`, an hour and a minute are before the place, as in 2020-06-01T00:42
abbrev pub has_minutes_before : (text : List ℕ) → (place : ℕ) → Bool
has_minutes_before text place =
    nat_le 6 place && (slice_index text (place - 6) == 84) && is_digit (slice_index text (place - 5))
    && is_digit (slice_index text (place - 4)) && (slice_index text (place - 3) == 58)
    && is_digit (slice_index text (place - 2)) && is_digit (slice_index text (place - 1))

-- there is an offset after an hour and a minute
abbrev pub lacks_seconds : (text : List ℕ) → Bool
lacks_seconds text =
    nat_le 1 (offset_length text) && has_minutes_before text (length text - offset_length text)

-- the text, with 0 seconds before the offset, if it has no seconds
abbrev pub with_seconds : (text : List ℕ) → List ℕ
with_seconds text =
    if lacks_seconds text then inserted text (length text - offset_length text) (codes ":00") else text

-- ---- hexadecimal digits

abbrev pub is_hex_digit : (byte : ℕ) → Bool
is_hex_digit byte = is_digit byte || (nat_le 65 byte && nat_le byte 70) || (nat_le 97 byte && nat_le byte 102)

abbrev pub is_one_hex_digit : (text : List ℕ) → Bool
is_one_hex_digit text = (length text == 1) && is_hex_digit (slice_index text 0)

-- a subtype of one digit, with a 0 before it
abbrev pub two_digit_subtype : (text : List ℕ) → List ℕ
two_digit_subtype text = if is_one_hex_digit text then codes "0" ++ text else text

abbrev pub is_plain_uuid : (text : List ℕ) → Bool
is_plain_uuid text = (length text == 32) && list_all is_hex_digit text

-- 32 digits, with the hyphens of a UUID (RFC 9562, section 4)
abbrev pub hyphenated : (text : List ℕ) → List ℕ
hyphenated text =
    if is_plain_uuid text
    then slice_range text 0 8 ++ codes "-" ++ slice_range text 8 12 ++ codes "-" ++ slice_range text 12 16 ++ codes "-"
    ++ slice_range text 16 20 ++ codes "-" ++ drop 20 text
    else text

-- ---- the shapes of v1

-- what an object of v1 denotes: a binary of this base64 text and subtype, a regular expression of this pattern and
-- these options, a date of this text, a UUID of this text; or itself
pub data V1Shape : Type 0 where
  binary : (base64 sub_type : List ℕ) → V1Shape
  regex : (pattern options : List ℕ) → V1Shape
  date : (text : List ℕ) → V1Shape
  uuid : (text : List ℕ) → V1Shape
  not_v1 : V1Shape

-- the shape of two keys whose values are texts, in either order
abbrev pub shape_of_two_strings : (key text second_key second_text : List ℕ) → V1Shape
shape_of_two_strings key text second_key second_text =
    if bytes_eq key (codes "$binary") && bytes_eq second_key (codes "$type") then binary text second_text
    else if bytes_eq key (codes "$type") && bytes_eq second_key (codes "$binary") then binary second_text text
    else if bytes_eq key (codes "$regex") && bytes_eq second_key (codes "$options") then regex text second_text
    else if bytes_eq key (codes "$options") && bytes_eq second_key (codes "$regex") then regex second_text text
    else not_v1

abbrev pub shape_of_two_members : (key : List ℕ) → Json → (second_key : List ℕ) → Json → V1Shape
shape_of_two_members key (json.string text) second_key (json.string second_text) =
    shape_of_two_strings key text second_key second_text
shape_of_two_members key _ second_key _ = not_v1

abbrev pub shape_of_one_member : (key : List ℕ) → Json → V1Shape
shape_of_one_member key (json.string text) =
    if bytes_eq key (codes "$date") then date text
    else if bytes_eq key (codes "$uuid") then uuid text
    else not_v1
shape_of_one_member key _ = not_v1

abbrev pub v1_shape : Members → V1Shape
v1_shape no_members = not_v1
v1_shape (member key value no_members) = shape_of_one_member key value
v1_shape (member key value (member second_key second_value no_members)) =
    shape_of_two_members key value second_key second_value
v1_shape (member key value (member second_key second_value (member third_key third_value json_members))) = not_v1

-- ---- what they denote

abbrev pub object_of_member : (key : List ℕ) → Json → Json
object_of_member key value = json.object (member key value no_members)

abbrev pub object_of_two_texts : (key text second_key second_text : List ℕ) → Json
object_of_two_texts key text second_key second_text =
    json.object (member key (json.string text) (member second_key (json.string second_text) no_members))

abbrev pub binary_json : (base64 sub_type : List ℕ) → Json
binary_json base64 sub_type =
    object_of_member (codes "$binary") (object_of_two_texts (codes "base64") base64 (codes "subType") (two_digit_subtype sub_type))

abbrev pub regex_json : (pattern options : List ℕ) → Json
regex_json pattern options =
    object_of_member (codes "$regularExpression")
    (object_of_two_texts (codes "pattern") pattern (codes "options") options)

abbrev pub date_json : (text : List ℕ) → Json
date_json text = object_of_member (codes "$date") (json.string (with_colon (with_seconds text)))

abbrev pub uuid_json : (text : List ℕ) → Json
uuid_json text = object_of_member (codes "$uuid") (json.string (hyphenated text))

abbrev pub upgraded_wrapper : V1Shape → Members → Json
upgraded_wrapper (binary base64 sub_type) json_members = binary_json base64 sub_type
upgraded_wrapper (regex pattern options) json_members = regex_json pattern options
upgraded_wrapper (date text) json_members = date_json text
upgraded_wrapper (uuid text) json_members = uuid_json text
upgraded_wrapper not_v1 json_members = json.object json_members

-- ---- scopes

-- code is a string at `$code`
abbrev pub is_code : (key : List ℕ) → (value : Json) → Bool
is_code key (json.string text) = bytes_eq key (codes "$code")
is_code key _ = false

abbrev pub is_scope : (key : List ℕ) → Bool
is_scope key = bytes_eq key (codes "$scope")

-- ---- whole trees

-- each object of a shape of v1 becomes that of v2, except a scope, whose keys are free; everything else stays
abbrev mutual
  pub upgraded : Json → Json
  upgraded json.null = json.null
  upgraded (json.boolean truth) = json.boolean truth
  upgraded (json.number text) = json.number text
  upgraded (json.string text) = json.string text
  upgraded (json.array json_items) = json.array (upgraded_items json_items)
  upgraded (json.object json_members) = upgraded_wrapper (v1_shape json_members) (upgraded_object json_members)

  -- what is at `$scope` next to code
  pub upgraded_scope : Json → Json
  upgraded_scope json.null = json.null
  upgraded_scope (json.boolean truth) = json.boolean truth
  upgraded_scope (json.number text) = json.number text
  upgraded_scope (json.string text) = json.string text
  upgraded_scope (json.array json_items) = json.array (upgraded_items json_items)
  upgraded_scope (json.object json_members) = json.object (upgraded_object json_members)

  -- the members of an object of no shape of v1, which may begin with code and its scope, in either order
  pub upgraded_object : Members → Members
  upgraded_object no_members = no_members
  upgraded_object (member key value no_members) = member key (upgraded value) no_members
  upgraded_object (member key value (member second_key second_value json_members)) =
      if is_code key value && is_scope second_key
      then member key (upgraded value)
      (member second_key (upgraded_scope second_value) (upgraded_members json_members))
      else if is_scope key && is_code second_key second_value
      then member key (upgraded_scope value) (member second_key (upgraded second_value) (upgraded_members json_members))
      else member key (upgraded value) (member second_key (upgraded second_value) (upgraded_members json_members))

  pub upgraded_items : Items → Items
  upgraded_items no_items = no_items
  upgraded_items (item value json_items) = item (upgraded value) (upgraded_items json_items)

  pub upgraded_members : Members → Members
  upgraded_members no_members = no_members
  upgraded_members (member key value json_members) = member key (upgraded value) (upgraded_members json_members)
