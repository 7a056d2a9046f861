-- A sequence of JSON texts (RFC 8259): values with white space between, or the elements of an array. A text of values with
-- white space between is its bytes without white space around them.
use Rattle.std.specs.Prelude.{◌≡◌, ◌==◌, ◌||◌, ◌<◌, ◌-◌, ℕ, zero, suc, Bool, true, false, List, [], ◌∷◌, ◌++◌, if◌then◌else◌}
use Rattle.std.specs.Prelude.{drop, get_or, length, take}
use Rattle.json.specs.Json.{Json}
use Rattle.json.specs.Word.{is_space}
use Rattle.bson_json.specs.Grammar.{IsWs, IsJson}
use Rattle.bson_json.specs.declared.sequence.ScanState as declared
use Rattle.bson_json.specs.declared.sequence.Separator.{Separator}
use Rattle.bson_json.specs.declared.sequence.Separator.TheVariants.{Comma, WhiteSpace}
use Rattle.bson_json.specs.declared.sequence.ScanState.TheVariants as scans

-- no white space begins or ends the bytes
pub record IsTrimmed (text : List ℕ) : Type 0 where
  pub front : (ws later_bytes : List ℕ) → text ≡ ws ++ later_bytes → IsWs ws → ws ≡ []
  pub back : (earlier_bytes ws : List ℕ) → text ≡ earlier_bytes ++ ws → IsWs ws → ws ≡ []

mutual
  -- texts = ws [ text ( end / ws-byte texts ) ]
  pub data AreTexts : (content : List ℕ) → (text_list : List (List ℕ)) → Type 0 where
    no_texts : {ws : List ℕ} → IsWs ws → AreTexts ws []
    texts : {ws_before first_text later_content : List ℕ} {json_value : Json} {later_texts : List (List ℕ)}
        → IsWs ws_before → IsJson first_text json_value → IsTrimmed first_text → MoreTexts later_content later_texts
        → AreTexts (ws_before ++ (first_text ++ later_content)) (first_text ∷ later_texts)

  pub data MoreTexts : (content : List ℕ) → (text_list : List (List ℕ)) → Type 0 where
    no_more_texts : MoreTexts [] []
    more_texts : {ws_byte : ℕ} {later_content : List ℕ} {later_texts : List (List ℕ)} → IsWs (ws_byte ∷ [])
        → AreTexts later_content later_texts → MoreTexts (ws_byte ∷ later_content) later_texts

-- elements = text / text comma elements
pub data AreElements : (content : List ℕ) → (text_list : List (List ℕ)) → Type 0 where
  last_element : {last_text : List ℕ} {json_value : Json} → IsJson last_text json_value
      → AreElements last_text (last_text ∷ [])
  more_elements : {first_text later_content : List ℕ} {json_value : Json} {later_texts : List (List ℕ)}
      → IsJson first_text json_value → AreElements later_content later_texts
      → AreElements (first_text ++ 0x2C ∷ later_content) (first_text ∷ later_texts)

-- the content has brackets at these indexes, and only white space around them
pub record IsArray (content : List ℕ) (opening closing : ℕ) : Type 0 where
  pub in_order : opening < closing
  pub in_content : closing < length content
  pub opening_bracket : get_or content opening 0 ≡ 0x5B
  pub closing_bracket : get_or content closing 0 ≡ 0x5D
  pub ws_before : (index : ℕ) → index < opening → is_space (get_or content index 0) ≡ true
  pub ws_after : (index : ℕ) → closing < index → index < length content → is_space (get_or content index 0) ≡ true

-- the bytes between them
abbrev pub between_brackets : (content : List ℕ) → (opening closing : ℕ) → List ℕ
between_brackets content opening closing = take (closing - suc opening) (drop (suc opening) content)

-- ---- where a text ends, in any bytes

-- the number of open brackets; the next byte is outside of strings, in a string, or after a backslash in one
pub data ScanState : Type 0 where
  outside : (open_brackets : ℕ) → ScanState
  in_string : (open_brackets : ℕ) → ScanState
  in_escape : (open_brackets : ℕ) → ScanState

abbrev pub is_opener : (byte : ℕ) → Bool
is_opener byte = (byte == 0x5B) || (byte == 0x7B)

abbrev pub is_closer : (byte : ℕ) → Bool
is_closer byte = (byte == 0x5D) || (byte == 0x7D)

-- the number minus 1, or 0
abbrev pub one_bracket_less : (open_brackets : ℕ) → ℕ
one_bracket_less zero = zero
one_bracket_less (suc open_brackets) = open_brackets

abbrev pub scan : ScanState → (byte : ℕ) → ScanState
scan (outside open_brackets) byte = if byte == 0x22 then in_string open_brackets
    else (if is_opener byte then outside (suc open_brackets)
    else (if is_closer byte then outside (one_bracket_less open_brackets) else outside open_brackets))
scan (in_string open_brackets) byte =
    if byte == 0x22 then outside open_brackets
    else (if byte == 0x5C then in_escape open_brackets else in_string open_brackets)
scan (in_escape open_brackets) byte = in_string open_brackets

abbrev pub is_separator : Separator → (byte : ℕ) → Bool
is_separator WhiteSpace byte = is_space byte
is_separator Comma byte = byte == 0x2C

-- a separator outside of all brackets and strings
abbrev pub separates : Separator → ScanState → (byte : ℕ) → Bool
separates separator (outside zero) byte = is_separator separator byte
separates separator other_state byte = false

abbrev pub prepend_to_part : (byte : ℕ) → (part_list : List (List ℕ)) → List (List ℕ)
prepend_to_part byte [] = (byte ∷ []) ∷ []
prepend_to_part byte (part ∷ parts) = (byte ∷ part) ∷ parts

abbrev pub split_or_prepend_byte : (separates_texts : Bool) → (byte : ℕ) → (parts_after parts_with : List (List ℕ))
    → List (List ℕ)
split_or_prepend_byte true byte parts_after parts_with = [] ∷ parts_after
split_or_prepend_byte false byte parts_after parts_with = prepend_to_part byte parts_with

-- the parts between these separators; some parts are empty
unfoldable pub parts : Separator → ScanState → List ℕ → List (List ℕ)
parts separator scan_state [] = [] ∷ []
parts separator scan_state (byte ∷ later_bytes) =
    split_or_prepend_byte (separates separator scan_state byte) byte (parts separator (outside zero) later_bytes)
    (parts separator (scan scan_state byte) later_bytes)

-- a part is a text, unless it is empty between white space
abbrev pub keeps_part : Separator → (part : List ℕ) → Bool
keeps_part WhiteSpace [] = false
keeps_part separator part = true

abbrev pub prepend_text : Separator → (part : List ℕ) → (later_texts : List (List ℕ)) → List (List ℕ)
prepend_text separator part later_texts = if keeps_part separator part then part ∷ later_texts else later_texts

unfoldable pub texts_of_parts : Separator → List (List ℕ) → List (List ℕ)
texts_of_parts separator [] = []
texts_of_parts separator (part ∷ later_parts) = prepend_text separator part (texts_of_parts separator later_parts)

-- the parts that are texts
abbrev pub texts_in : Separator → (content : List ℕ) → List (List ℕ)
texts_in separator content = texts_of_parts separator (parts separator (outside zero) content)

-- the texts after the first part, if a separator comes after it
abbrev pub texts_after : Separator → (has_more : Bool) → (later_bytes : List ℕ) → List (List ℕ)
texts_after separator true later_bytes = texts_in separator later_bytes
texts_after separator false later_bytes = []

-- ---- for private clauses

abbrev pub scan_state_of : declared.ScanState → ScanState
scan_state_of (scans.Outside open_brackets) = outside open_brackets
scan_state_of (scans.InString open_brackets) = in_string open_brackets
scan_state_of (scans.InEscape open_brackets) = in_escape open_brackets

abbrev pub open_brackets_of : declared.ScanState → ℕ
open_brackets_of (scans.Outside open_brackets) = open_brackets
open_brackets_of (scans.InString open_brackets) = open_brackets
open_brackets_of (scans.InEscape open_brackets) = open_brackets
