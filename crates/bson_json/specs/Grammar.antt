-- Which bytes are which value: JSON (RFC 8259), a production a line, over the bytes of the text in UTF-8. A key and a
-- string are given unescaped, as bytes, and a number as its text. Quoted before each family is its rule of the RFC.
use Rattle.std.specs.Prelude.{◌≡◌, ℕ, ◌+◌, ◌-◌, ◌*◌, ◌<◌, ◌≤◌, ◌≢◌, List, [], ◌∷◌, ◌++◌, codes, true, false, Some}
use Rattle.std.specs.Char.{encode_utf8}
use Rattle.json.specs.Json.{Json, Items, no_items, item, Members, no_members, member}
use Rattle.json.specs.Json as json
use Rattle.json.specs.Tree.{depth}
use Rattle.serde_json.specs.Data.{Data}
use Rattle.serde_json.specs.Read.{of_json, max_depth}

-- ---- section 2: white space and structural characters

-- ws = *( %x20 / %x09 / %x0A / %x0D )
pub data IsWs : (text : List ℕ) → Type 0 where
  no_ws : IsWs []
  space : {later_ws : List ℕ} → IsWs later_ws → IsWs (0x20 ∷ later_ws)
  tab : {later_ws : List ℕ} → IsWs later_ws → IsWs (0x09 ∷ later_ws)
  line_feed : {later_ws : List ℕ} → IsWs later_ws → IsWs (0x0A ∷ later_ws)
  carriage_return : {later_ws : List ℕ} → IsWs later_ws → IsWs (0x0D ∷ later_ws)

-- begin-array = ws %x5B ws, and so each of the six structural characters
pub data IsStructural (structural_char : ℕ) : (text : List ℕ) → Type 0 where
  mark : {ws_before ws_after : List ℕ} → IsWs ws_before → IsWs ws_after
      → IsStructural structural_char (ws_before ++ structural_char ∷ ws_after)

abbrev pub IsBeginArray : List ℕ → Type 0
IsBeginArray = IsStructural 0x5B

abbrev pub IsBeginObject : List ℕ → Type 0
IsBeginObject = IsStructural 0x7B

abbrev pub IsEndArray : List ℕ → Type 0
IsEndArray = IsStructural 0x5D

abbrev pub IsEndObject : List ℕ → Type 0
IsEndObject = IsStructural 0x7D

abbrev pub IsNameSeparator : List ℕ → Type 0
IsNameSeparator = IsStructural 0x3A

abbrev pub IsValueSeparator : List ℕ → Type 0
IsValueSeparator = IsStructural 0x2C

-- ---- section 6: numbers

-- DIGIT = %x30-39
abbrev pub IsDigit : (byte : ℕ) → Type 0
IsDigit byte = (0x30 ≤ byte) × (byte ≤ 0x39)

-- *DIGIT
pub data AreDigits : (text : List ℕ) → Type 0 where
  no_digits : AreDigits []
  digit : {digit_byte : ℕ} {later_digits : List ℕ} → IsDigit digit_byte → AreDigits later_digits
      → AreDigits (digit_byte ∷ later_digits)

-- 1*DIGIT
pub data IsDigits : (text : List ℕ) → Type 0 where
  digits : {digit_byte : ℕ} {later_digits : List ℕ} → IsDigit digit_byte → AreDigits later_digits
      → IsDigits (digit_byte ∷ later_digits)

-- [ minus ]
pub data IsMinus : (text : List ℕ) → Type 0 where
  no_minus : IsMinus []
  minus : IsMinus (0x2D ∷ [])

-- int = zero / ( digit1-9 *DIGIT )
pub data IsInt : (text : List ℕ) → Type 0 where
  zero_alone : IsInt (0x30 ∷ [])
  from_one : {digit_byte : ℕ} {later_digits : List ℕ} → IsDigit digit_byte → digit_byte ≢ 0x30 → AreDigits later_digits → IsInt (digit_byte ∷ later_digits)

-- [ frac ], frac = decimal-point 1*DIGIT
pub data IsFrac : (text : List ℕ) → Type 0 where
  no_frac : IsFrac []
  frac : {fraction_digits : List ℕ} → IsDigits fraction_digits → IsFrac (0x2E ∷ fraction_digits)

-- [ minus / plus ]
pub data IsSign : (text : List ℕ) → Type 0 where
  no_sign : IsSign []
  minus_sign : IsSign (0x2D ∷ [])
  plus_sign : IsSign (0x2B ∷ [])

-- [ exp ], exp = e [ minus / plus ] 1*DIGIT, e = %x65 / %x45
pub data IsExp : (text : List ℕ) → Type 0 where
  no_exp : IsExp []
  lower_exp : {sign_text exponent_digits : List ℕ} → IsSign sign_text → IsDigits exponent_digits → IsExp (0x65 ∷ (sign_text ++ exponent_digits))
  upper_exp : {sign_text exponent_digits : List ℕ} → IsSign sign_text → IsDigits exponent_digits
      → IsExp (0x45 ∷ (sign_text ++ exponent_digits))

-- number = [ minus ] int [ frac ] [ exp ]
pub data IsNumber : (text : List ℕ) → Type 0 where
  number : {minus_text int_text frac_text exp_text : List ℕ} → IsMinus minus_text → IsInt int_text → IsFrac frac_text
      → IsExp exp_text → IsNumber (minus_text ++ (int_text ++ (frac_text ++ exp_text)))

-- ---- section 7: strings

-- HEXDIG: the digit and what it counts
pub data IsHex : (hex_byte digit_value : ℕ) → Type 0 where
  hex_digit : {digit_value : ℕ} → digit_value < 10 → IsHex (0x30 + digit_value) digit_value
  hex_upper : {digit_value : ℕ} → digit_value < 6 → IsHex (0x41 + digit_value) (10 + digit_value)
  hex_lower : {digit_value : ℕ} → digit_value < 6 → IsHex (0x61 + digit_value) (10 + digit_value)

-- 4HEXDIG: the digits and the code unit that they spell
pub data IsCode : (hex_digits : List ℕ) → (code_unit : ℕ) → Type 0 where
  code : {hex_one hex_two hex_three hex_four value_one value_two value_three value_four : ℕ} → IsHex hex_one value_one
      → IsHex hex_two value_two → IsHex hex_three value_three → IsHex hex_four value_four
      → IsCode (hex_one ∷ hex_two ∷ hex_three ∷ hex_four ∷ [])
      (value_one * 4096 + value_two * 256 + value_three * 16 + value_four)

abbrev pub IsHighSurrogate : (code_unit : ℕ) → Type 0
IsHighSurrogate code_unit = (0xD800 ≤ code_unit) × (code_unit < 0xDC00)

abbrev pub IsLowSurrogate : (code_unit : ℕ) → Type 0
IsLowSurrogate code_unit = (0xDC00 ≤ code_unit) × (code_unit < 0xE000)

-- unescaped = %x20-21 / %x23-5B / %x5D-10FFFF, a byte at a time. The law `unescaped_is_by_character` has the characters.
abbrev pub IsUnescaped : (byte : ℕ) → Type 0
IsUnescaped byte = (0x20 ≤ byte) × (byte ≢ 0x22) × (byte ≢ 0x5C)

-- char = unescaped / escape ( %x22 / %x5C / %x2F / %x62 / %x66 / %x6E / %x72 / %x74 / %x75 4HEXDIG ): its bytes, and those
-- that it spells. A character past the Basic Multilingual Plane is a surrogate pair; a surrogate alone is no character.
pub data IsChar : (text unescaped_bytes : List ℕ) → Type 0 where
  unescaped : {byte : ℕ} → IsUnescaped byte → IsChar (byte ∷ []) (byte ∷ [])
  quotation_mark : IsChar (0x5C ∷ 0x22 ∷ []) (0x22 ∷ [])
  reverse_solidus : IsChar (0x5C ∷ 0x5C ∷ []) (0x5C ∷ [])
  solidus : IsChar (0x5C ∷ 0x2F ∷ []) (0x2F ∷ [])
  escaped_b : IsChar (0x5C ∷ 0x62 ∷ []) (0x08 ∷ [])
  escaped_f : IsChar (0x5C ∷ 0x66 ∷ []) (0x0C ∷ [])
  escaped_n : IsChar (0x5C ∷ 0x6E ∷ []) (0x0A ∷ [])
  escaped_r : IsChar (0x5C ∷ 0x72 ∷ []) (0x0D ∷ [])
  escaped_t : IsChar (0x5C ∷ 0x74 ∷ []) (0x09 ∷ [])
  escaped_u : {hex_digits : List ℕ} {code_unit : ℕ} → IsCode hex_digits code_unit → ¬ (IsHighSurrogate code_unit) → ¬ (IsLowSurrogate code_unit)
      → IsChar (0x5C ∷ 0x75 ∷ hex_digits) (encode_utf8 code_unit)
  surrogates : {high_hex low_hex : List ℕ} {high_unit low_unit : ℕ} → IsCode high_hex high_unit
      → IsHighSurrogate high_unit → IsCode low_hex low_unit → IsLowSurrogate low_unit
      → IsChar (0x5C ∷ 0x75 ∷ (high_hex ++ 0x5C ∷ 0x75 ∷ low_hex))
      (encode_utf8 (0x10000 + (high_unit - 0xD800) * 0x400 + (low_unit - 0xDC00)))

-- *char
pub data AreChars : (text unescaped_bytes : List ℕ) → Type 0 where
  no_chars : AreChars [] []
  char : {char_text later_text char_bytes later_bytes : List ℕ} → IsChar char_text char_bytes
      → AreChars later_text later_bytes → AreChars (char_text ++ later_text) (char_bytes ++ later_bytes)

-- string = quotation-mark *char quotation-mark
pub data IsString : (text unescaped_bytes : List ℕ) → Type 0 where
  string : {chars_text string_bytes : List ℕ} → AreChars chars_text string_bytes
      → IsString (0x22 ∷ (chars_text ++ 0x22 ∷ [])) string_bytes

-- ---- sections 3, 4 and 5: values

mutual
  -- value = false / null / true / object / array / number / string
  -- object = begin-object [ member *( value-separator member ) ] end-object
  -- array = begin-array [ value *( value-separator value ) ] end-array
  pub data IsJsonValue : (text : List ℕ) → Json → Type 0 where
    false_name : IsJsonValue (codes "false") (json.boolean false)
    null_name : IsJsonValue (codes "null") json.null
    true_name : IsJsonValue (codes "true") (json.boolean true)
    an_object : {begin_text members_text end_text : List ℕ} {json_members : Members} → IsBeginObject begin_text
        → AreMembers members_text json_members → IsEndObject end_text
        → IsJsonValue (begin_text ++ (members_text ++ end_text)) (json.object json_members)
    an_array : {begin_text values_text end_text : List ℕ} {json_items : Items} → IsBeginArray begin_text
        → AreValues values_text json_items → IsEndArray end_text
        → IsJsonValue (begin_text ++ (values_text ++ end_text)) (json.array json_items)
    a_number : {number_text : List ℕ} → IsNumber number_text → IsJsonValue number_text (json.number number_text)
    a_string : {string_text string_bytes : List ℕ} → IsString string_text string_bytes
        → IsJsonValue string_text (json.string string_bytes)

  -- [ value *( value-separator value ) ]
  pub data AreValues : (text : List ℕ) → Items → Type 0 where
    no_values : AreValues [] no_items
    values : {value_text later_text : List ℕ} {json_value : Json} {json_items : Items}
        → IsJsonValue value_text json_value → MoreValues later_text json_items
        → AreValues (value_text ++ later_text) (item json_value json_items)

  -- *( value-separator value )
  pub data MoreValues : (text : List ℕ) → Items → Type 0 where
    no_more_values : MoreValues [] no_items
    next_value : {comma_text value_text later_text : List ℕ} {json_value : Json} {json_items : Items}
        → IsValueSeparator comma_text → IsJsonValue value_text json_value → MoreValues later_text json_items
        → MoreValues (comma_text ++ (value_text ++ later_text)) (item json_value json_items)

  -- [ member *( value-separator member ) ]
  pub data AreMembers : (text : List ℕ) → Members → Type 0 where
    no_pairs : AreMembers [] no_members
    pairs : {member_text later_text member_key : List ℕ} {json_value : Json} {json_members : Members}
        → IsMember member_text member_key json_value → MoreMembers later_text json_members
        → AreMembers (member_text ++ later_text) (member member_key json_value json_members)

  -- *( value-separator member )
  pub data MoreMembers : (text : List ℕ) → Members → Type 0 where
    no_more_pairs : MoreMembers [] no_members
    next_pair : {comma_text member_text later_text member_key : List ℕ} {json_value : Json} {json_members : Members}
        → IsValueSeparator comma_text → IsMember member_text member_key json_value → MoreMembers later_text json_members
        → MoreMembers (comma_text ++ (member_text ++ later_text)) (member member_key json_value json_members)

  -- member = string name-separator value
  pub data IsMember : (text member_key : List ℕ) → Json → Type 0 where
    pair : {name_text colon_text value_text member_key : List ℕ} {json_value : Json} → IsString name_text member_key
        → IsNameSeparator colon_text → IsJsonValue value_text json_value
        → IsMember (name_text ++ (colon_text ++ value_text)) member_key json_value

-- ---- section 2: a text

-- JSON-text = ws value ws
pub data IsJson : (text : List ℕ) → Json → Type 0 where
  text : {ws_before value_text ws_after : List ℕ} {json_value : Json} → IsWs ws_before
      → IsJsonValue value_text json_value → IsWs ws_after → IsJson (ws_before ++ (value_text ++ ws_after)) json_value

-- ---- texts of a bounded depth (section 9: an implementation may bound how deep texts nest)

-- the text is JSON, of at most 127 levels
abbrev pub IsJsonText : (text : List ℕ) → Type 0
IsJsonText json_text = (json_value : Json) × IsJson json_text json_value × (depth json_value ≤ max_depth)

-- the text is JSON of at most 127 levels, and this its tree: in objects the last value of each key, and numbers in range
abbrev pub IsJsonOf : (text : List ℕ) → (json_tree : Data) → Type 0
IsJsonOf json_text json_tree =
    (json_value : Json) × IsJson json_text json_value × (depth json_value ≤ max_depth)
    × (of_json json_value ≡ Some json_tree)
