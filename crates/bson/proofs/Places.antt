-- `same` of two documents, by the places of the pairs.
use Rattle.std.proofs.Common.{◌≡◌, ℕ, zero, suc, ◌<◌, Bool, true, false, cond, List, [], ◌∷◌, length, get_or, Option}
use Rattle.std.proofs.Common.{None, Some, is_some, option_map, slice_get, refl, sym, ap, ◌∙◌, arith, true≢false, subst}
use Rattle.std.proofs.lemmas.Bool.{and_from, and_parts}
use Rattle.std.specs.Str.{bytes_eq}
use Rattle.bson_store.specs.Pairs as store
use Rattle.bson_store.specs.Pairs.{HasDistinctKeys, position_of}
use Rattle.bson_store.proofs.Offered.{get-at, at-get, no_other, length-same_keys}
use Rattle.bson_model.specs.Value.{Value, document, value_at_key}
use Rattle.bson.specs.View.{bson_view, pairs_view, values_view}
use Rattle.bson_model.specs.Same.{same, same_items}
use Rattle.bson_model.proofs.Offered.{option_same, at_each, from_each, same_document}
use Rattle.bson.specs.declared.bson.Bson.{Bson}

abbrev pub Entries : Type 0
Entries = List (List ℕ × Bson)

view_at : (b : Bool) (v : Bson) (r : Option Bson) (s : Option Value) → s ≡ option_map bson_view r
    → cond b (Some (bson_view v)) s ≡ option_map bson_view (cond b (Some v) r)
view_at true v r s e = refl
view_at false v r s e = e

pub get-bson_view : (k : List ℕ) (ps : Entries) → value_at_key k (pairs_view ps) ≡ option_map bson_view (store.get k ps)
get-bson_view k [] = refl
get-bson_view k (p ∷ ps) = view_at (bytes_eq k p.0) p.1 _ _ (get-bson_view k ps)

some_view : (r : Option Bson) → is_some (option_map bson_view r) ≡ is_some r
some_view None = refl
some_view (Some v) = refl

same_some : (r s : Option Value) → option_same r s ≡ true → is_some r ≡ is_some s
same_some None None e = refl
same_some None (Some w) e = cc
same_some (Some v) None e = cc
same_some (Some v) (Some w) e = refl

pub not_same : (b : Bool) → (b ≡ true → ⊥) → false ≡ b
not_same true h = absurd (h refl)
not_same false h = refl

none_of : {A : Type 0} (r : Option A) → is_some r ≡ false → r ≡ None
none_of None e = refl
none_of (Some a) e = cc

module _ (ps qs : Entries) where
  -- what is at a key of one is the same as what is at it in the other
  abbrev pub IsSameAt : ℕ → Type 0
  IsSameAt i = (p : List ℕ × Bson) → slice_get ps i ≡ Some p
      → option_same (Some (bson_view p.1)) (value_at_key p.0 (pairs_view qs)) ≡ true

  at_key : same (document (pairs_view ps)) (document (pairs_view qs)) ≡ true → (k : List ℕ)
      → option_same (option_map bson_view (store.get k ps)) (option_map bson_view (store.get k qs)) ≡ true
  at_key h k = (λ i. option_same (sym (get-bson_view k ps) i) (sym (get-bson_view k qs) i))
      ∙ at_each (pairs_view ps) (pairs_view qs) (sym (same_document (pairs_view ps) (pairs_view qs)) ∙ h) k

  pub lengths_differ : HasDistinctKeys ps → HasDistinctKeys qs → (length ps ≡ length qs → ⊥)
      → same (document (pairs_view ps)) (document (pairs_view qs)) ≡ true → ⊥
  lengths_differ d e n h =
      n (length-same_keys ps qs d e
      (λ k. sym (some_view (store.get k ps)) ∙ same_some _ _ (at_key h k) ∙ some_view (store.get k qs)))

  -- a key that the other lacks
  pub lacking : (i : ℕ) (p : List ℕ × Bson) → HasDistinctKeys ps → slice_get ps i ≡ Some p → store.get p.0 qs ≡ None
      → same (document (pairs_view ps)) (document (pairs_view qs)) ≡ true → ⊥
  lacking i p d e n h =
      true≢false (sym (ap is_some (get-at ps i p d e)) ∙ sym (some_view (store.get p.0 ps))
      ∙ same_some _ _ (at_key h p.0) ∙ some_view (store.get p.0 qs) ∙ ap is_some n)

  -- a key at which the values are not the same
  pub differing : (i : ℕ) (p : List ℕ × Bson) (w : Bson) → HasDistinctKeys ps → slice_get ps i ≡ Some p
      → store.get p.0 qs ≡ Some w → same (bson_view p.1) (bson_view w) ≡ false
      → same (document (pairs_view ps)) (document (pairs_view qs)) ≡ true → ⊥
  differing i p w d e f n h =
      true≢false (sym (at_key h p.0)
      ∙ (λ j. option_same (option_map bson_view (get-at ps i p d e j)) (option_map bson_view (f j))) ∙ n)

  there : ((i : ℕ) → i < length ps → IsSameAt i) → (k : List ℕ) (r : Option Bson) → store.get k ps ≡ r
      → is_some r ≡ true → is_some (store.get k qs) ≡ true
  there h k None e s = cc
  there h k (Some v) e s =
      let at = at-get k ps v e in
      sym (ap is_some (get-bson_view k qs) ∙ some_view (store.get k qs))
      ∙ sym (same_some (Some (bson_view v)) (value_at_key k (pairs_view qs)) (h at.0 at.1 (k, v) at.2))

  found : (k : List ℕ) (r : Option Bson) → store.get k ps ≡ r → length ps ≡ length qs → HasDistinctKeys ps
      → ((i : ℕ) → i < length ps → IsSameAt i)
      → option_same (value_at_key k (pairs_view ps)) (value_at_key k (pairs_view qs)) ≡ true
  found k (Some v) e n d h =
      let at = at-get k ps v e in
      ap (λ o. option_same o (value_at_key k (pairs_view qs))) (get-bson_view k ps ∙ ap (option_map bson_view) e)
      ∙ h at.0 at.1 (k, v) at.2
  found k None e n d h =
      let no = none_of (store.get k qs)
      (no_other ps qs d n (λ q s. there h q (store.get q ps) refl s) k (ap is_some e)) in
      λ i. option_same ((get-bson_view k ps ∙ ap (option_map bson_view) e) i)
      ((get-bson_view k qs ∙ ap (option_map bson_view) no) i)

  pub all_places : length ps ≡ length qs → HasDistinctKeys ps → ((i : ℕ) → i < length ps → IsSameAt i)
      → same (document (pairs_view ps)) (document (pairs_view qs)) ≡ true
  all_places n d h = same_document (pairs_view ps) (pairs_view qs)
      ∙ from_each (pairs_view ps) (pairs_view qs) (λ k. found k (store.get k ps) refl n d h)

pub pair_from : (ps : Entries) (i : ℕ) (k : List ℕ) (v : Bson) → Some k ≡ slice_get (store.keys ps) i
    → Some v ≡ slice_get (store.values ps) i → slice_get ps i ≡ Some (k, v)
pair_from [] i k v e f = cc
pair_from (p ∷ ps) zero k v e f = let one : k ≡ p.0 = cc in let two : v ≡ p.1 = cc in λ j. Some (sym one j, sym two j)
pair_from (p ∷ ps) (suc i) k v e f = pair_from ps i k v e f

pub pair_of_key : (ps : Entries) (i : ℕ) (k : List ℕ) → Some k ≡ slice_get (store.keys ps) i
    → (v : Bson) × (slice_get ps i ≡ Some (k, v))
pair_of_key [] i k e = cc
pair_of_key (p ∷ ps) zero k e = let one : k ≡ p.0 = cc in (p.1, λ j. Some (sym one j, p.1))
pair_of_key (p ∷ ps) (suc i) k e = pair_of_key ps i k e

-- the pair at a place is one
pub IsSameAt-from : (ps qs : Entries) (i : ℕ) (p : List ℕ × Bson) → slice_get ps i ≡ Some p
    → option_same (Some (bson_view p.1)) (value_at_key p.0 (pairs_view qs)) ≡ true → IsSameAt ps qs i
IsSameAt-from ps qs i p e h q f =
    let one : p ≡ q = cc in
    subst (λ r. option_same (Some (bson_view r.1)) (value_at_key r.0 (pairs_view qs)) ≡ true) one h

-- arrays place by place
pub items_differ : (vs ws : List Bson) → (length vs ≡ length ws → ⊥)
    → same_items (values_view vs) (values_view ws) ≡ true → ⊥
unfolding same_items
items_differ [] [] n h = n refl
items_differ [] (w ∷ ws) n h = cc
items_differ (v ∷ vs) [] n h = cc
items_differ (v ∷ vs) (w ∷ ws) n h =
    items_differ vs ws (λ e. n (ap suc e)) (and_parts (same (bson_view v) (bson_view w)) _ h).1

pub items_differ_at : (vs ws : List Bson) (i : ℕ) (v w : Bson) → slice_get vs i ≡ Some v → slice_get ws i ≡ Some w
    → same (bson_view v) (bson_view w) ≡ false
    → same_items (values_view vs) (values_view ws) ≡ true → ⊥
unfolding same_items
items_differ_at [] ws i v w e f n h = cc
items_differ_at (x ∷ vs) [] i v w e f n h = cc
items_differ_at (x ∷ vs) (y ∷ ws) zero v w e f n h =
    let p : x ≡ v = cc in
    let q : y ≡ w = cc in
    true≢false (sym (and_parts (same (bson_view x) (bson_view y)) _ h).0
    ∙ (λ j. same (bson_view (p j)) (bson_view (q j))) ∙ n)
items_differ_at (x ∷ vs) (y ∷ ws) (suc i) v w e f n h =
    items_differ_at vs ws i v w e f n (and_parts (same (bson_view x) (bson_view y)) _ h).1

pub items_all : (vs ws : List Bson) → length vs ≡ length ws
    → ((i : ℕ) (d : Bson) → i < length vs → same (bson_view (get_or vs i d)) (bson_view (get_or ws i d)) ≡ true)
    → same_items (values_view vs) (values_view ws) ≡ true
unfolding same_items
items_all [] [] n h = refl
items_all [] (w ∷ ws) n h = absurd (omega arith)
items_all (v ∷ vs) [] n h = absurd (omega arith)
items_all (v ∷ vs) (w ∷ ws) n h =
    and_from (same (bson_view v) (bson_view w)) _ (h 0 v (omega arith))
    (items_all vs ws (omega arith) (λ i d l. h (suc i) d (omega arith)))
