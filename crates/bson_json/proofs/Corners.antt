-- The texts at the edges: each is read as its value, or not at all, by computing.
use Rattle.std.proofs.Common.{refl}
use lib.Utf8.{encode}
use Rattle.json.specs.Json.{value, items, members}
use Rattle.json.specs.Lex.{lex, punctuate}
use Rattle.json.specs.Text.{content, code_unit, short_escape}
use Rattle.json.specs.Word.{after_number, word}
use Rattle.bson_json.specs.Corners.{AcceptedCorners, RejectedCorners}
use Rattle.bson_json.proofs.Reading.{accepted, refused}

pub accepts : AcceptedCorners
unfolding lex punctuate value items members content code_unit short_escape after_number word encode
accepts = record {
  nested_arrays = accepted _ _ refl;
  empty_key = accepted _ _ refl;
  duplicate_key = accepted _ _ refl;
  white_space = accepted _ _ refl;
  scalar_alone = accepted _ _ refl;
  negative_zero = accepted _ _ refl;
  small_e = accepted _ _ refl;
  signed_e = accepted _ _ refl;
  zero_character = accepted _ _ refl;
  two_bytes = accepted _ _ refl;
  surrogate_pair = accepted _ _ refl;
  solidus = accepted _ _ refl;
  delete_character = accepted _ _ refl;
}

pub refuses : RejectedCorners
unfolding lex punctuate value items members content code_unit short_escape after_number word encode
refuses = record {
  nothing = refused _ refl;
  byte_order_mark = refused _ refl;
  two_values = refused _ refl;
  form_feed = refused _ refl;
  comment = refused _ refl;
  capital_name = refused _ refl;
  comma_at_end = refused _ refl;
  comma_first = refused _ refl;
  comma_after_member = refused _ refl;
  key_alone = refused _ refl;
  key_in_array = refused _ refl;
  bare_key = refused _ refl;
  open_array = refused _ refl;
  wrong_bracket = refused _ refl;
  leading_zero = refused _ refl;
  leading_plus = refused _ refl;
  no_integer = refused _ refl;
  no_fraction = refused _ refl;
  no_exponent = refused _ refl;
  minus_alone = refused _ refl;
  not_a_number = refused _ refl;
  high_surrogate = refused _ refl;
  low_surrogate = refused _ refl;
  high_surrogate_twice = refused _ refl;
  line_feed = refused _ refl;
  three_digits = refused _ refl;
  no_escape = refused _ refl;
  open_string = refused _ refl;
  single_quotes = refused _ refl;
}
