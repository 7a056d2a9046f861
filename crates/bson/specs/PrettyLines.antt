-- The lines of the text on several lines, and what a function that appends to a text returns. For private clauses.
use Rattle.std.specs.Prelude.{◌≡◌, ℕ, List, ◌++◌, codes, OnOk, Result, String, string_bytes}
use Rattle.std.specs.declared.alloc.Global.{Global}
use Rattle.bson_model.specs.Displayed.{displayed_entry}
use Rattle.bson_model.specs.Pretty.{pretty_text, blanks, inner_indent}
use Rattle.bson.specs.View.{bson_view}
use Rattle.bson.specs.declared.bson.Bson.{Bson}

-- of an element of an array, at the indent
abbrev pub item_line : (indentation : ℕ) → (bson_value : Bson) → List ℕ
item_line indentation bson_value =
    codes "\n" ++ (blanks indentation ++ pretty_text (inner_indent indentation) (bson_view bson_value))

-- of a pair of a document
abbrev pub entry_line : (indentation : ℕ) → (key_and_value : List ℕ × Bson) → List ℕ
entry_line indentation key_and_value =
    blanks indentation
    ++ displayed_entry key_and_value.0 (pretty_text (inner_indent indentation) (bson_view key_and_value.1))

-- if the result is `Ok`, then `new_text` is `old_text` followed by the bytes
abbrev pub AppendsBytesIfOk : {E : Type 0} → (old_text : String Global) → (write_result : Result (Unit {0}) E)
    → (bytes : List ℕ) → (new_text : String Global)
    → Type 0
AppendsBytesIfOk old_text write_result bytes new_text =
    OnOk write_result (string_bytes new_text ≡ string_bytes old_text ++ bytes)
