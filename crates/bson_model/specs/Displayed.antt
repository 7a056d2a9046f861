-- The text of a value on one line.
use Rattle.std.specs.Prelude.{ℕ, List, [], ◌∷◌, ◌++◌, codes}
use Rattle.std.specs.List.{join_by}
use Rattle.bson_scalar.specs.Displayed.{scalar_text}
use Rattle.bson_model.specs.Value.{Value, scalar, code_scope, array, document, Values, no_values, value, Pairs}
use Rattle.bson_model.specs.Value.{no_pairs, pair}

-- the texts with a separator between them and brackets around them; without texts, the empty brackets
abbrev pub bracketed_text : (empty opening separator closing : List ℕ) → (text_list : List (List ℕ)) → List ℕ
bracketed_text empty opening separator closing [] = empty
bracketed_text empty opening separator closing (first_text ∷ other_texts) =
    opening ++ (join_by (λ text_bytes. text_bytes) separator (first_text ∷ other_texts) ++ closing)

-- `"k": v`, the key as it is, and v the text of the value
abbrev pub displayed_entry : (key_text value_text : List ℕ) → List ℕ
displayed_entry key_text value_text = codes "\"" ++ (key_text ++ (codes "\": " ++ value_text))

-- lists as `[a, b]`, documents as `{ "k": v, "l": w }` in their own order, code with its scope as the code alone
abbrev mutual
  pub display_text : Value → List ℕ
  display_text (scalar scalar_value) = scalar_text scalar_value
  display_text (code_scope text_bytes pair_list) = text_bytes
  display_text (array value_list) =
      bracketed_text (codes "[]") (codes "[") (codes ", ") (codes "]") (item_texts value_list)
  display_text (document pair_list) =
      bracketed_text (codes "{}") (codes "{ ") (codes ", ") (codes " }") (entry_texts pair_list)

  pub item_texts : Values → List (List ℕ)
  item_texts no_values = []
  item_texts (value bson_value value_list) = display_text bson_value ∷ item_texts value_list

  pub entry_texts : Pairs → List (List ℕ)
  entry_texts no_pairs = []
  entry_texts (pair key_text bson_value pair_list) =
      displayed_entry key_text (display_text bson_value) ∷ entry_texts pair_list
