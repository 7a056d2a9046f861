-- Texts at the edges of the grammar, each with its value or without one. A byte of a control character is written as its
-- number.
use Rattle.std.specs.Prelude.{[], ◌∷◌, ◌++◌, codes}
use Rattle.json.specs.Json.{Json, null, number, string, array, object, no_items, item, no_members, member}
use Rattle.bson_json.specs.Grammar.{IsJson, IsJsonText}

-- a number of one digit, as it is written
abbrev pub number_one : Json
number_one = number (codes "1")

pub record AcceptedCorners : Type 0 where
  pub nested_arrays : IsJson (codes "[[],[[]]]")
      (array (item (array no_items) (item (array (item (array no_items) no_items)) no_items)))
  pub empty_key : IsJson (codes "{\"\":1}") (object (member [] number_one no_members))
  pub duplicate_key : IsJson (codes "{\"a\":1,\"a\":null}")
      (object (member (codes "a") number_one (member (codes "a") null no_members)))
  pub white_space : IsJson (0x09 ∷ 0x0A ∷ codes " [ 1 , 1 ] " ++ 0x0D ∷ 0x0A ∷ [])
      (array (item number_one (item number_one no_items)))
  pub scalar_alone : IsJson (codes "null") null
  -- numbers
  pub negative_zero : IsJson (codes "-0") (number (codes "-0"))
  pub small_e : IsJson (codes "1e5") (number (codes "1e5"))
  pub signed_e : IsJson (codes "-1.50E+05") (number (codes "-1.50E+05"))
  -- strings
  pub zero_character : IsJson (codes "\"\\u0000\"") (string (0 ∷ []))
  pub two_bytes : IsJson (codes "\"\\u00e9\"") (string (0xC3 ∷ 0xA9 ∷ []))
  pub surrogate_pair : IsJson (codes "\"\\uD83D\\ude00\"") (string (0xF0 ∷ 0x9F ∷ 0x98 ∷ 0x80 ∷ []))
  pub solidus : IsJson (codes "\"\\/\"") (string (codes "/"))
  pub delete_character : IsJson (0x22 ∷ 0x7F ∷ 0x22 ∷ []) (string (0x7F ∷ []))

pub record RejectedCorners : Type 0 where
  pub nothing : ¬ (IsJsonText [])
  pub byte_order_mark : ¬ (IsJsonText (0xEF ∷ 0xBB ∷ 0xBF ∷ codes "1"))
  pub two_values : ¬ (IsJsonText (codes "1 1"))
  pub form_feed : ¬ (IsJsonText (0x0C ∷ codes "1"))
  pub comment : ¬ (IsJsonText (codes "1/**/"))
  pub capital_name : ¬ (IsJsonText (codes "True"))
  -- arrays and objects
  pub comma_at_end : ¬ (IsJsonText (codes "[1,]"))
  pub comma_first : ¬ (IsJsonText (codes "[,1]"))
  pub comma_after_member : ¬ (IsJsonText (codes "{\"a\":1,}"))
  pub key_alone : ¬ (IsJsonText (codes "{\"a\"}"))
  pub key_in_array : ¬ (IsJsonText (codes "[\"a\":1]"))
  pub bare_key : ¬ (IsJsonText (codes "{a:1}"))
  pub open_array : ¬ (IsJsonText (codes "[1"))
  pub wrong_bracket : ¬ (IsJsonText (codes "[1}"))
  -- numbers
  pub leading_zero : ¬ (IsJsonText (codes "01"))
  pub leading_plus : ¬ (IsJsonText (codes "+1"))
  pub no_integer : ¬ (IsJsonText (codes ".5"))
  pub no_fraction : ¬ (IsJsonText (codes "1."))
  pub no_exponent : ¬ (IsJsonText (codes "1e+"))
  pub minus_alone : ¬ (IsJsonText (codes "-"))
  pub not_a_number : ¬ (IsJsonText (codes "NaN"))
  -- strings
  pub high_surrogate : ¬ (IsJsonText (codes "\"\\ud83d\""))
  pub low_surrogate : ¬ (IsJsonText (codes "\"\\ude00\""))
  pub high_surrogate_twice : ¬ (IsJsonText (codes "\"\\ud83d\\ud83d\""))
  pub line_feed : ¬ (IsJsonText (0x22 ∷ 0x0A ∷ 0x22 ∷ []))
  pub three_digits : ¬ (IsJsonText (codes "\"\\u00e\""))
  pub no_escape : ¬ (IsJsonText (codes "\"\\a\""))
  pub open_string : ¬ (IsJsonText (codes "\"a"))
  pub single_quotes : ¬ (IsJsonText (codes "'a'"))
