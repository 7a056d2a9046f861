-- What is left of two documents, or of two arrays, is the same just if the whole is.
use Rattle.std.proofs.Common.{◌≡◌, ℕ, ◌+◌, ◌<◌, ◌≤◌, suc, List, [], ◌∷◌, length, drop, get_or, Bool, true, false}
use Rattle.std.proofs.Common.{◌&&◌, not, Option, Some, None, refl, sym, ap, ap₂, ◌∙◌}
use Rattle.std.specs.Prelude.{MatchOption, is_none}
use Rattle.std.specs.Str.{bytes_eq}
use Rattle.std.proofs.lemmas.List.{drop_all, drop_more}
use Rattle.bson_model.specs.Value.{value}
use Rattle.bson.specs.View.{bson_view, document_view, values_view, pairs_view, contents}
use Rattle.bson.specs.declared.bson.Bson.{Bson}
use Rattle.bson.specs.declared.document.Document.{Document}
use Rattle.bson.specs.SameInOrder.{same_in_order, same_items_in_order, same_pairs_in_order}
use Rattle.bson.proofs.Seen.{document_view-pairs}
use Rattle.bson.proofs.Weights.{weight, weight_pairs}

abbrev pub Entries : Type 0
Entries = List (List ℕ × Bson)

and_false : (a b : Bool) → b ≡ false → (a && b) ≡ false
and_false true b h = h
and_false false b h = refl

pub not_equal : (b : Bool) → true ≡ not b → b ≡ false
not_equal true h = cc
not_equal false h = refl

pub equal : (b : Bool) → false ≡ not b → b ≡ true
equal true h = refl
equal false h = cc

pub none_left : (b some : Bool) → not b ≡ some → not some ≡ b
none_left true some h = rw (sym h) refl
none_left false some h = rw (sym h) refl

-- ---- documents

-- the answer is that of what is left
pub whole : (a b : Document) (ps qs : Entries) (x : Bool)
    → same_pairs_in_order (pairs_view ps) (pairs_view qs) ≡ same_pairs_in_order (pairs_view (contents a)) (pairs_view (contents b))
    → same_pairs_in_order (pairs_view ps) (pairs_view qs) ≡ x
    → x ≡ same_pairs_in_order (document_view a) (document_view b)
whole a b ps qs x inv h = sym h ∙ inv ∙ ap₂ same_pairs_in_order (sym (document_view-pairs a)) (sym (document_view-pairs b))

pub one_longer : (k : List ℕ) (v : Bson) (ps qs rest : Entries) → ps ≡ (k, v) ∷ rest → qs ≡ []
    → same_pairs_in_order (pairs_view ps) (pairs_view qs) ≡ false
unfolding same_in_order
one_longer k v ps qs rest e f = rw (e, f) refl

pub other_key : (k l : List ℕ) (v w : Bson) (ps qs more rest : Entries) → ps ≡ (k, v) ∷ more → qs ≡ (l, w) ∷ rest
    → bytes_eq k l ≡ false → same_pairs_in_order (pairs_view ps) (pairs_view qs) ≡ false
unfolding same_in_order
other_key k l v w ps qs more rest e f n = rw (e, f, n) refl

pub other_value : (k l : List ℕ) (v w : Bson) (ps qs more rest : Entries) → ps ≡ (k, v) ∷ more → qs ≡ (l, w) ∷ rest
    → same_in_order (bson_view v) (bson_view w) ≡ false → same_pairs_in_order (pairs_view ps) (pairs_view qs) ≡ false
unfolding same_in_order
other_value k l v w ps qs more rest e f n = rw (e, f, n) (and_false (bytes_eq k l) false refl)

pub next_pair : (k l : List ℕ) (v w : Bson) (ps qs more rest : Entries) (x : Bool) → ps ≡ (k, v) ∷ more
    → qs ≡ (l, w) ∷ rest → bytes_eq k l ≡ true → same_in_order (bson_view v) (bson_view w) ≡ true
    → same_pairs_in_order (pairs_view ps) (pairs_view qs) ≡ x → same_pairs_in_order (pairs_view more) (pairs_view rest) ≡ x
unfolding same_in_order
next_pair k l v w ps qs more rest x e f n s h =
    let here : same_pairs_in_order (pairs_view ps) (pairs_view qs) ≡ same_pairs_in_order (pairs_view more) (pairs_view rest) =
    rw (e, f, n, s) refl in
    sym here ∙ h

pub lighter : (k : List ℕ) (v : Bson) (ps more : Entries) → ps ≡ (k, v) ∷ more
    → weight_pairs (pairs_view ps) ≡ 2 + weight (bson_view v) + weight_pairs (pairs_view more)
lighter k v ps more e = ap (λ (x : Entries). weight_pairs (pairs_view x)) e

-- where the left one is over, so is the right one, or it is longer
pub ended : {A : Type 0} (see : A → List ℕ × Bson) (r : Option A) (ps qs rest : Entries) → ps ≡ []
    → MatchOption r ((qs ≡ []) × (rest ≡ [])) (λ x. qs ≡ see x ∷ rest)
    → same_pairs_in_order (pairs_view ps) (pairs_view qs) ≡ is_none r
unfolding same_in_order
ended see None ps qs rest e h = rw (e, h.0) refl
ended see (Some x) ps qs rest e h = rw (e, h) refl

-- ---- arrays

pub lengths_differ : (vs ws : List Bson) → (length vs ≡ length ws → ⊥)
    → false ≡ same_items_in_order (values_view vs) (values_view ws)
unfolding same_in_order
lengths_differ [] [] n = absurd (n refl)
lengths_differ [] (w ∷ ws) n = refl
lengths_differ (v ∷ vs) [] n = refl
lengths_differ (v ∷ vs) (w ∷ ws) n =
    sym (and_false (same_in_order (bson_view v) (bson_view w)) _ (sym (lengths_differ vs ws (λ e. n (ap suc e)))))

item_here : (vs : List Bson) (i : ℕ) (v : Bson) → i < length vs → v ≡ get_or vs i v
    → values_view (drop i vs) ≡ value (bson_view v) (values_view (drop (i + 1) vs))
item_here vs i v lt is = ap values_view (drop_more vs i v lt)
    ∙ ap (λ (w : Bson). value (bson_view w) (values_view (drop (i + 1) vs))) (sym is)

pub next_item : (vs ws : List Bson) (i : ℕ) (v w : Bson) (x : Bool) → i < length vs → i < length ws → v ≡ get_or vs i v
    → w ≡ get_or ws i w → same_in_order (bson_view v) (bson_view w) ≡ true
    → same_items_in_order (values_view (drop i vs)) (values_view (drop i ws)) ≡ x
    → same_items_in_order (values_view (drop (i + 1) vs)) (values_view (drop (i + 1) ws)) ≡ x
unfolding same_in_order
next_item vs ws i v w x in_vs in_ws a b s h =
    let here : same_items_in_order (values_view (drop i vs)) (values_view (drop i ws))
    ≡ same_items_in_order (values_view (drop (i + 1) vs)) (values_view (drop (i + 1) ws)) =
    rw (item_here vs i v in_vs a, item_here ws i w in_ws b, s) refl in
    sym here ∙ h

pub other_item : (vs ws : List Bson) (i : ℕ) (v w : Bson) (x : Bool) → i < length vs → i < length ws
    → v ≡ get_or vs i v → w ≡ get_or ws i w → same_in_order (bson_view v) (bson_view w) ≡ false
    → same_items_in_order (values_view (drop i vs)) (values_view (drop i ws)) ≡ x → false ≡ x
unfolding same_in_order
other_item vs ws i v w x in_vs in_ws a b s h =
    let here : same_items_in_order (values_view (drop i vs)) (values_view (drop i ws)) ≡ false =
    rw (item_here vs i v in_vs a, item_here ws i w in_ws b, s) refl in
    sym here ∙ h

pub items_ended : (vs ws : List Bson) (i : ℕ) (x : Bool) → length vs ≤ i → length ws ≤ i
    → same_items_in_order (values_view (drop i vs)) (values_view (drop i ws)) ≡ x → true ≡ x
unfolding same_in_order
items_ended vs ws i x over done h =
    let here : same_items_in_order (values_view (drop i vs)) (values_view (drop i ws)) ≡ true =
    rw (drop_all i vs over, drop_all i ws done) refl in
    sym here ∙ h
