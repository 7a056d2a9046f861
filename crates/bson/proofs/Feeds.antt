-- What a document feeds, turn by turn.
use Rattle.std.proofs.Common.{◌≡◌, ℕ, ◌+◌, List, [], ◌∷◌, ◌++◌, map, length, fold, nat_cmp, refl, sym, ap, ◌∙◌, arith}
use Rattle.std.proofs.lemmas.List.Sums.{fold-append}
use Rattle.std.specs.Cmp.Lexicographic.{slice_cmp}
use Rattle.std.specs.declared.cmp.Ordering.TheVariants.{Less, Equal, Greater}
use Rattle.std.specs.FinMap.Entries.{put, by_order}
use Rattle.std.specs.Hash.{HashWrites, usize, le_bytes, str}
use Rattle.std.specs.Ordering.{match_ordering}
use Rattle.bson_store.specs.AscendingOrder.{sorted_by_key, key_cmp}
use Rattle.bson_store.specs.Pairs.{HasDistinctKeys}
use Rattle.bson_store.proofs.Offered.{length-in_order}
use Rattle.bson_model.specs.Value.{Value, array, document, pair}
use Rattle.bson_model.specs.HashInput.{sorted_hash_input, items_hash_input, pairs_hash_input, items_count, pairs_count}
use Rattle.bson_model.specs.Sorted.{sorted, sorted_items, sorted_pairs, insert_sorted_pair}
use Rattle.bson.specs.View.{bson_view, values_view, pairs_from_list, pairs_view}
use Rattle.bson.specs.declared.bson.Bson.{Bson}
use Rattle.bson.proofs.Seen.{Entry}

abbrev pub sorted_views : List Entry → List (List ℕ × Value)
sorted_views es = map (λ e. (e.0, sorted (bson_view e.1))) es

put_in : (k : List ℕ) (v : Bson) (es : List Entry)
    → insert_sorted_pair k (sorted (bson_view v)) (pairs_from_list (sorted_views es)) ≡ pairs_from_list (sorted_views (put key_cmp k v es))
put_in k v [] = refl
put_in k v (e ∷ es) =
    let s = sorted (bson_view v) in
    let t = sorted (bson_view e.1) in
    let rest = pairs_from_list (sorted_views es) in
    elim (slice_cmp nat_cmp k e.0) as (λ r.
    match_ordering r (pair k s (pair e.0 t rest)) (pair e.0 s rest) (pair e.0 t (insert_sorted_pair k s rest))
    ≡ pairs_from_list (sorted_views (by_order r ((k, v) ∷ e ∷ es) ((e.0, v) ∷ es) (e ∷ put key_cmp k v es)))) [
      | Less ↦ refl
      | Equal ↦ refl
      | Greater ↦ ap (pair e.0 t) (put_in k v es)
    ]

-- the pairs by ascending key, in the store and in the model
pub sorted-in_order : (ps : List Entry) → sorted_pairs (pairs_view ps) ≡ pairs_from_list (sorted_views (sorted_by_key ps))
sorted-in_order [] = refl
sorted-in_order (p ∷ ps) = ap (insert_sorted_pair p.0 (sorted (bson_view p.1))) (sorted-in_order ps)
    ∙ put_in p.0 p.1 (sorted_by_key ps)

-- the words of each pair in turn
abbrev pub turn_words : List Entry → HashWrites
turn_words [] = []
turn_words (e ∷ es) = (str e.0 ++ sorted_hash_input (bson_view e.1)) ++ turn_words es

turns : (es : List Entry) → pairs_hash_input (pairs_from_list (sorted_views es)) ≡ turn_words es
turns [] = refl
turns (e ∷ es) = ap (λ ws. (str e.0 ++ sorted_hash_input (bson_view e.1)) ++ ws) (turns es)

turn_count : (es : List Entry) → pairs_count (pairs_from_list (sorted_views es)) ≡ length es
turn_count [] = refl
turn_count (e ∷ es) = ap (λ n. n + 1) (turn_count es) ∙ omega arith

pub document_words : (ps : List Entry) → HasDistinctKeys ps
    → sorted_hash_input (document (pairs_view ps)) ≡ usize (length ps) ++ turn_words (sorted_by_key ps)
document_words ps d =
    ap (λ qs. usize (pairs_count qs) ++ pairs_hash_input qs) (sorted-in_order ps)
    ∙ (λ i. usize ((turn_count (sorted_by_key ps) ∙ length-in_order ps d) i) ++ turns (sorted_by_key ps) i)

pub count-items : (vs : List Bson) → items_count (sorted_items (values_view vs)) ≡ length vs
count-items [] = refl
count-items (v ∷ vs) = ap (λ n. n + 1) (count-items vs) ∙ omega arith

abbrev pub list_words : List Bson → HashWrites
list_words vs = items_hash_input (sorted_items (values_view vs))

pub array_words : (vs : List Bson) → sorted_hash_input (array (values_view vs)) ≡ usize (length vs) ++ list_words vs
array_words vs = ap (λ n. usize n ++ list_words vs) (count-items vs)

module _ {S : Type 0} (write : S → List ℕ → S) where
  -- one more pair
  pub feeds_pair : (s₀ s₁ s₂ s₃ : S) (all es rest : List Entry) (k : List ℕ) (v : Bson) → es ≡ (k, v) ∷ rest
      → s₂ ≡ fold write s₁ (str k) → s₃ ≡ fold write s₂ (sorted_hash_input (bson_view v))
      → fold write s₀ (turn_words all) ≡ fold write s₁ (turn_words es)
      → fold write s₀ (turn_words all) ≡ fold write s₃ (turn_words rest)
  feeds_pair s₀ s₁ s₂ s₃ all es rest k v here a b before =
      before ∙ ap (λ ys. fold write s₁ (turn_words ys)) here
      ∙ fold-append write s₁ (str k ++ sorted_hash_input (bson_view v)) (turn_words rest)
      ∙ ap (λ s. fold write s (turn_words rest))
      (fold-append write s₁ (str k) (sorted_hash_input (bson_view v)) ∙ ap (λ s. fold write s (sorted_hash_input (bson_view v))) (sym a) ∙ sym b)

  -- the length, and then the rest
  pub feeds_all : (s₀ s₁ s : S) (ws : HashWrites) (n m : ℕ) (fed : HashWrites) → s₁ ≡ write s₀ (le_bytes 8 n) → n ≡ m
      → fold write s₁ ws ≡ s → fed ≡ usize m ++ ws → s ≡ fold write s₀ fed
  feeds_all s₀ s₁ s ws n m fed a b kept is =
      sym (ap (fold write s₀) is ∙ ap (λ x. fold write x ws) (sym (a ∙ ap (λ x. write s₀ (le_bytes 8 x)) b)) ∙ kept)
