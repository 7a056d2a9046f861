-- The texts of arrays and documents by those of what they hold.
use Rattle.std.proofs.Common.{◌≡◌, ℕ, ◌<◌, ◌≤◌, List, [], ◌∷◌, ◌++◌, length, map}
use Rattle.std.proofs.Common.{take}
use Rattle.std.proofs.Common.{codes, refl, ap}
use Rattle.std.specs.List.{join_by}
use Rattle.bson_model.specs.Value.{array, document}
use Rattle.bson_model.specs.Displayed.{display_text, item_texts, entry_texts, displayed_entry}
use Rattle.bson_model.specs.Pretty.{pretty_text, item_lines, entry_lines, closing_line}
use Rattle.bson.specs.PrettyLines.{item_line, entry_line}
use Rattle.bson.specs.View.{bson_view, values_view, pairs_view}
use Rattle.bson.specs.declared.bson.Bson.{Bson}
use Rattle.bson.proofs.Joined.{enclosed_all}
use Rattle.bson.proofs.Seen.{Entry}

abbrev pub item_text : Bson → List ℕ
item_text v = display_text (bson_view v)

abbrev pub entry_text : Entry → List ℕ
entry_text p = displayed_entry p.0 (display_text (bson_view p.1))

items : (vs : List Bson) → item_texts (values_view vs) ≡ map item_text vs
items [] = refl
items (v ∷ vs) = ap (λ l. item_text v ∷ l) (items vs)

entries : (ps : List Entry) → entry_texts (pairs_view ps) ≡ map entry_text ps
entries [] = refl
entries (p ∷ ps) = ap (λ l. entry_text p ∷ l) (entries ps)

lines : (i : ℕ) (vs : List Bson) → item_lines i (values_view vs) ≡ map (item_line i) vs
lines i [] = refl
lines i (v ∷ vs) = ap (λ l. item_line i v ∷ l) (lines i vs)

pair_lines : (i : ℕ) (ps : List Entry) → entry_lines i (pairs_view ps) ≡ map (entry_line i) ps
pair_lines i [] = refl
pair_lines i (p ∷ ps) = ap (λ l. entry_line i p ∷ l) (pair_lines i ps)

pub array_displayed : (vs : List Bson) (i : ℕ) → 0 < length vs → length vs ≤ i
    → codes "[" ++ (join_by item_text (codes ", ") (take i vs) ++ codes "]") ≡ display_text (array (values_view vs))
array_displayed vs i = enclosed_all item_text (codes "[]") (codes "[") (codes ", ") (codes "]") vs i _ (items vs)

pub document_displayed : (ps : List Entry) (i : ℕ) → 0 < length ps → length ps ≤ i
    → codes "{ " ++ (join_by entry_text (codes ", ") (take i ps) ++ codes " }")
    ≡ display_text (document (pairs_view ps))
document_displayed ps i = enclosed_all entry_text (codes "{}") (codes "{ ") (codes ", ") (codes " }")
    ps i _ (entries ps)

pub array_pretty : (n : ℕ) (vs : List Bson) (i : ℕ) → 0 < length vs → length vs ≤ i
    → codes "[" ++ (join_by (item_line n) (codes ", ") (take i vs) ++ closing_line n (codes "]"))
    ≡ pretty_text n (array (values_view vs))
array_pretty n vs i = enclosed_all (item_line n) (codes "[]") (codes "[") (codes ", ") (closing_line n (codes "]"))
    vs i _ (lines n vs)

pub document_pretty : (n : ℕ) (ps : List Entry) (i : ℕ) → 0 < length ps → length ps ≤ i
    → codes "{\n" ++ (join_by (entry_line n) (codes ",\n") (take i ps) ++ closing_line n (codes "}"))
    ≡ pretty_text n (document (pairs_view ps))
document_pretty n ps i = enclosed_all (entry_line n) (codes "{}") (codes "{\n") (codes ",\n") (closing_line n (codes "}"))
    ps i _ (pair_lines n ps)
