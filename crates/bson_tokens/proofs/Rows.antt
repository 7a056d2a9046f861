-- Texts and what they are normalized as, a row each, computed on the definitions.
use Rattle.std.proofs.Common.{ℕ, List, true, false, refl}
use Rattle.std.specs.Prelude.{codes}
use Rattle.json.specs.Json.{Json, null, boolean, number, array, object, no_items, item, no_members, member}
use Rattle.serde_json.specs.Data.{unsigned}
use Rattle.bson_tokens.specs.Normalized.{IsNormalizedText}
use Rattle.bson_model.specs.declared.options.KeyOrder.TheVariants.{AsGiven, Ascending}

-- keys that occur twice, at two levels
abbrev doubled : Json
doubled = object
    (member (codes "b") (number (codes "1"))
    (member (codes "a") (object
    (member (codes "d") (boolean true) (member (codes "c") null (member (codes "d") (boolean false) no_members))))
    (member (codes "b") (array (item (number (codes "2")) no_items)) no_members)))

abbrev doubled_text : List ℕ
doubled_text = codes "{\"b\":1, \"a\":{\"d\":true,\"c\":null,\"d\":false}, \"b\":[2]}"

first_occurrences : IsNormalizedText AsGiven doubled_text (codes "{\"b\":[2],\"a\":{\"d\":false,\"c\":null}}")
unfolding Rattle.json.specs.Json.value
    Rattle.json.specs.Lex.punctuate Rattle.json.specs.Lex.lex Rattle.json.specs.Text.content
    Rattle.json.specs.Word.word Rattle.json.specs.Print.print_from Rattle.json.specs.Print.escape_byte
    Rattle.json.specs.Word.after_number Rattle.serde_json.specs.Read.number_of
    Rattle.std.specs.Float.Numeral.scan_numeral
first_occurrences = record {
  tree = doubled;
  is_tree = refl;
  numbers = ((unsigned 1, refl), ((tt, (tt, (tt, tt))), (((unsigned 2, refl), tt), tt)));
  compact = refl;
  read_again = refl;
}

ascending : IsNormalizedText Ascending doubled_text (codes "{\"a\":{\"c\":null,\"d\":false},\"b\":[2]}")
unfolding Rattle.json.specs.Json.value
    Rattle.json.specs.Lex.punctuate Rattle.json.specs.Lex.lex Rattle.json.specs.Text.content
    Rattle.json.specs.Word.word Rattle.json.specs.Print.print_from Rattle.json.specs.Print.escape_byte
    Rattle.json.specs.Word.after_number Rattle.serde_json.specs.Read.number_of
    Rattle.std.specs.Float.Numeral.scan_numeral
ascending = record {
  tree = doubled;
  is_tree = refl;
  numbers = ((unsigned 1, refl), ((tt, (tt, (tt, tt))), (((unsigned 2, refl), tt), tt)));
  compact = refl;
  read_again = refl;
}

-- keys are compared after their escapes are read, a lower byte comes first, and then the shorter key
abbrev escaped : Json
escaped = object
    (member (codes "b") null (member (codes "aa") (boolean false)
    (member (codes "a") (boolean true) (member (codes "a") null no_members))))

abbrev escaped_text : List ℕ
escaped_text = codes "{\"b\":null,\"aa\":false,\"\\u0061\":true,\"a\":null}"

escaped_first_places : IsNormalizedText AsGiven escaped_text (codes "{\"b\":null,\"aa\":false,\"a\":null}")
unfolding Rattle.json.specs.Json.value
    Rattle.json.specs.Lex.punctuate Rattle.json.specs.Lex.lex Rattle.json.specs.Text.content
    Rattle.json.specs.Text.code_unit Rattle.json.specs.Word.word Rattle.json.specs.Print.print_from
    Rattle.json.specs.Print.escape_byte lib.Utf8.encode
escaped_first_places = record {
  tree = escaped;
  is_tree = refl;
  numbers = (tt, (tt, (tt, (tt, tt))));
  compact = refl;
  read_again = refl;
}

escaped_ascending : IsNormalizedText Ascending escaped_text (codes "{\"a\":null,\"aa\":false,\"b\":null}")
unfolding Rattle.json.specs.Json.value
    Rattle.json.specs.Lex.punctuate Rattle.json.specs.Lex.lex Rattle.json.specs.Text.content
    Rattle.json.specs.Text.code_unit Rattle.json.specs.Word.word Rattle.json.specs.Print.print_from
    Rattle.json.specs.Print.escape_byte lib.Utf8.encode
escaped_ascending = record {
  tree = escaped;
  is_tree = refl;
  numbers = (tt, (tt, (tt, (tt, tt))));
  compact = refl;
  read_again = refl;
}
