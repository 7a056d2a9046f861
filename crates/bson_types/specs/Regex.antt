-- The options of a regular expression, in ascending order of their characters.
use Rattle.std.specs.Prelude.{ℕ, nat_le, ◌++◌, List, [], ◌∷◌, codes, string_bytes, if◌then◌else◌}
use Rattle.std.specs.Str.{chars, is_utf8, encode_utf8_all}
use Rattle.bson_types.specs.declared.regex.Regex.{Regex}

-- the list with one more number, inserted in ascending order
abbrev pub insert_sorted : (inserted_number : ℕ) → (numbers : List ℕ) → List ℕ
insert_sorted inserted_number [] = inserted_number ∷ []
insert_sorted inserted_number (first_number ∷ other_numbers) = if nat_le inserted_number first_number then inserted_number ∷ first_number ∷ other_numbers else first_number ∷ insert_sorted inserted_number other_numbers

-- the same numbers in ascending order
abbrev pub ascending_numbers : (numbers : List ℕ) → List ℕ
ascending_numbers [] = []
ascending_numbers (first_number ∷ other_numbers) = insert_sorted first_number (ascending_numbers other_numbers)

-- the characters of a string in ascending order; bytes that are not UTF-8 are unchanged
unfoldable pub sorted_regex_options : (text_bytes : List ℕ) → List ℕ
sorted_regex_options text_bytes =
    if is_utf8 text_bytes then encode_utf8_all (ascending_numbers (chars text_bytes)) else text_bytes

-- how a regular expression is shown: `/pattern/options`, with the options in their own order
abbrev pub regex_text : Regex → List ℕ
regex_text regular_expression =
    codes "/" ++ string_bytes regular_expression.pattern ++ codes "/" ++ string_bytes regular_expression.options
