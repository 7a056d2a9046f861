-- The text of a value on several lines, at an indent.
use Rattle.std.specs.Prelude.{ℕ, ◌+◌, ◌-◌, ◌^◌, min, List, [], ◌∷◌, ◌++◌, replicate, codes}
use Rattle.bson_scalar.specs.Displayed.{scalar_text}
use Rattle.bson_model.specs.Displayed.{bracketed_text, displayed_entry}
use Rattle.bson_model.specs.Value.{Value, scalar, code_scope, array, document, Values, no_values, value, Pairs}
use Rattle.bson_model.specs.Value.{no_pairs, pair}

abbrev pub blanks : (count : ℕ) → List ℕ
blanks count = replicate count 32

-- the indent of the elements: 2 more, up to the greatest usize
abbrev pub inner_indent : (indent : ℕ) → ℕ
inner_indent indent = min (indent + 2) (2 ^ 64 - 1)

-- the bracket on a line of its own, 2 blanks further out, as far as there are any
abbrev pub closing_line : (indent : ℕ) (bracket : List ℕ) → List ℕ
closing_line indent bracket = codes "\n" ++ (blanks (indent - 2) ++ bracket)

-- each element and each entry on a line of its own at the indent; all else, and what is empty, as it is shown
abbrev mutual
  pub pretty_text : (indent : ℕ) → Value → List ℕ
  pretty_text indent (scalar scalar_value) = scalar_text scalar_value
  pretty_text indent (code_scope code_text pair_list) = code_text
  pretty_text indent (array value_list) =
      bracketed_text (codes "[]") (codes "[") (codes ", ") (closing_line indent (codes "]"))
      (item_lines indent value_list)
  pretty_text indent (document pair_list) =
      bracketed_text (codes "{}") (codes "{\n") (codes ",\n") (closing_line indent (codes "}"))
      (entry_lines indent pair_list)

  pub item_lines : (indent : ℕ) → Values → List (List ℕ)
  item_lines indent no_values = []
  item_lines indent (value bson_value value_list) =
      (codes "\n" ++ (blanks indent ++ pretty_text (inner_indent indent) bson_value)) ∷ item_lines indent value_list

  pub entry_lines : (indent : ℕ) → Pairs → List (List ℕ)
  entry_lines indent no_pairs = []
  entry_lines indent (pair key_text bson_value pair_list) =
      (blanks indent ++ displayed_entry key_text (pretty_text (inner_indent indent) bson_value))
      ∷ entry_lines indent pair_list
