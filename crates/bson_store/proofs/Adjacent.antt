-- Keys ascend where each is above the one before it.
use Rattle.std.proofs.Common.{◌≡◌, ℕ, zero, suc, ◌+◌, ◌<◌, List, [], ◌∷◌, length, get_or, Bool, true, false}
use Rattle.std.proofs.Common.{string_bytes, refl, sym, ap, ◌∙◌, arith}
use Rattle.std.proofs.lemmas.Map.Keys.{sorted_from_all_adjacent, Less-from_sorted}
use Rattle.std.proofs.lemmas.Map.Text.{is_eq-slice_cmp}
use Rattle.std.specs.List.{AllAdjacentBelow, AllByRecursion, IsDistinct}
use Rattle.std.specs.List.Sorted.{IsStrictlySortedBy}
use Rattle.std.specs.Ordering.{is_eq, is_lt}
use Rattle.std.specs.Str.{bytes_eq}
use Rattle.std.specs.declared.cmp.Ordering.TheVariants.{Less}
use Rattle.bson_store.specs.AscendingOrder.{key_cmp}
use Rattle.bson_store.specs.Pairs.{keys, HasDistinctKeys}
use Rattle.bson_store.specs.KeyIndex.{stored_pairs, HasAscendingKeys}
use Rattle.bson_store.specs.declared.small.Pair.{Pair}
use Rattle.bson_store.proofs.AscendingLaws.{ascend_none}
use Rattle.bson_store.proofs.Least.{less_of}
use Rattle.bson_store.proofs.Least.{key_total}

apart : (k : List ℕ) (ks : List (List ℕ)) → AllByRecursion (λ q. key_cmp k q ≡ Less) ks
    → AllByRecursion (λ q. bytes_eq k q ≡ false) ks
apart k [] h = tt
apart k (q ∷ ks) h = (sym (is_eq-slice_cmp k q) ∙ ap is_eq h.0, apart k ks h.1)

distinct_keys : (ks : List (List ℕ)) → IsStrictlySortedBy key_cmp ks → IsDistinct bytes_eq ks
unfolding IsStrictlySortedBy IsDistinct
distinct_keys [] up = tt
distinct_keys (k ∷ ks) up = (apart k ks up.0, distinct_keys ks up.1)

module _ {V : Type 0} where
  -- keys that ascend are distinct
  pub distinct_from : (ps : List (List ℕ × V)) → HasAscendingKeys ps → HasDistinctKeys ps
  distinct_from ps up = distinct_keys (keys ps) up

  abbrev pub is_below : Pair V → Pair V → Bool
  is_below p q = is_lt (key_cmp (string_bytes p.key) (string_bytes q.key))

  keys_of : List (Pair V) → List (List ℕ)
  keys_of ps = keys (stored_pairs ps)

  length-keys : (ps : List (Pair V)) → length (keys_of ps) ≡ length ps
  unfolding keys_of
  length-keys [] = refl
  length-keys (p ∷ ps) = ap suc (length-keys ps)

  key-at : (ps : List (Pair V)) (i : ℕ) (d : Pair V)
      → get_or (keys_of ps) i (string_bytes d.key) ≡ string_bytes (get_or ps i d).key
  unfolding keys_of
  key-at [] i d = refl
  key-at (p ∷ ps) zero d = refl
  key-at (p ∷ ps) (suc i) d = key-at ps i d

  pub ascend_from : (ps : List (Pair V)) → AllAdjacentBelow (λ p q. true ≡ is_below p q) ps (length ps)
      → HasAscendingKeys (stored_pairs ps)
  unfolding keys_of
  ascend_from [] next = ascend_none
  ascend_from (p ∷ ps) next =
      sorted_from_all_adjacent key_total (keys_of (p ∷ ps)) (string_bytes p.key)
      (λ i l. rw (key-at (p ∷ ps) i p, key-at (p ∷ ps) (i + 1) p)
      (less_of _ (sym (next i p (omega (arith, length-keys (p ∷ ps), l))))))

  pub not_ascending : (ps : List (Pair V))
      → (i : ℕ) × (i + 1 < length ps) × ((d : Pair V) → false ≡ is_below (get_or ps i d) (get_or ps (i + 1) d))
      → HasAscendingKeys (stored_pairs ps) → false ≡ true
  unfolding keys_of
  not_ascending [] stop up = absurd (let l = stop.1 in omega arith)
  not_ascending (p ∷ ps) stop up =
      let i = stop.0 in
      let less = Less-from_sorted key_cmp (keys_of (p ∷ ps)) i (i + 1) (string_bytes p.key) up (omega arith)
      (omega (arith, length-keys (p ∷ ps), stop.1)) in
      let below : key_cmp (string_bytes (get_or (p ∷ ps) i p).key) (string_bytes (get_or (p ∷ ps) (i + 1) p).key)
      ≡ Less =
      rw (sym (key-at (p ∷ ps) i p), sym (key-at (p ∷ ps) (i + 1) p)) less in
      stop.2 p ∙ ap is_lt below
