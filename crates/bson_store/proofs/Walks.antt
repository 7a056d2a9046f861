-- The pairs at sorted positions, or at the positions of a map, are the pairs by ascending key.
use Rattle.std.proofs.Common.{◌≡◌, ℕ, suc, ◌<◌, Bool, true, false, cond, T, List, [], ◌∷◌, length, map, String}
use Rattle.std.proofs.Common.{Global, Option, Some, None, option_map, option_and_then, slice_get, string_bytes, refl, sym, ap}
use Rattle.std.proofs.Common.{Bor, Iter, MatchOption, subst, ◌∙◌, inl, inr, arith}
use Rattle.std.proofs.lemmas.Map.Text.{is_eq-slice_cmp}
use Rattle.std.proofs.lemmas.Option.{get_or_from_slice_get, slice_get_cases}
use Rattle.std.specs.BTreeMap.{values, IsOrdered}
use Rattle.std.specs.FinMap.Entries.{find, is_sorted, below_all, same_entries}
use Rattle.std.specs.List.{AllByRecursion, cons_option}
use Rattle.std.specs.List.Sorted.{IsStrictlySortedBy}
use Rattle.std.specs.Map.{keys_of, values_of, lookup}
use Rattle.std.specs.Option.{option_copied}
use Rattle.std.specs.Ordering.{is_eq, is_lt, eq_by_cmp}
use Rattle.std.specs.Slice.Iter.{iter_rest, iter_steps}
use Rattle.std.specs.Str.{bytes_eq}
use Rattle.std.specs.String.{string_cmp}
use Rattle.std.specs.declared.cmp.Ordering.TheVariants.{Less}
use Rattle.bson_store.specs.AscendingOrder.{key_cmp, sorted_by_key}
use Rattle.bson_store.specs.Pairs.{keys, get, position_of}
use Rattle.bson_store.specs.KeyIndex.{PositionMap, key_positions, HasAscendingKeys, MapsKeysToPositions, AreSortedPositions}
use Rattle.bson_store.specs.Cursors.{pairs_at_positions, ArePositionsInBounds, IsNextPair}
use Rattle.bson_store.proofs.Adjacent.{distinct_from}
use Rattle.bson_store.proofs.AscendingLaws.{key-of}
use Rattle.bson_store.proofs.Distinct.{get-at}
use Rattle.bson_store.proofs.Found.{key-place, place-within}
use Rattle.bson_store.proofs.Least.{key_total, same_key, both, in_order_sorted, find-in_order}
use Rattle.bson_store.proofs.SortedPlaces.{key_or, keyed-at}

module _ {X : Type 0} where
  below_of : (k : List ℕ) (es : List (List ℕ × X)) → AllByRecursion (λ q. key_cmp k q ≡ Less) (keys es)
      → T (below_all key_cmp k es)
  below_of k [] h = tt
  below_of k (e ∷ es) h = both _ _ (subst (λ o. T (is_lt o)) (sym h.0) tt) (below_of k es h.1)

  sorted_of : (es : List (List ℕ × X)) → HasAscendingKeys es → T (is_sorted key_cmp es)
  unfolding IsStrictlySortedBy
  sorted_of [] up = tt
  sorted_of (e ∷ es) up = both _ _ (below_of e.0 es up.0) (sorted_of es up.1)

  -- pairs whose keys ascend, and that are found where others are, are those in order
  in_order_is : (es ps : List (List ℕ × X)) → HasAscendingKeys es → ((q : List ℕ) → find key_cmp q es ≡ find key_cmp q ps)
      → es ≡ sorted_by_key ps
  in_order_is es ps up found =
      same_entries key_cmp key_total same_key es (sorted_by_key ps) (sorted_of es up) (in_order_sorted ps)
      (λ q. found q ∙ sym (find-in_order q ps))

  pub ascending_walk : (ps : List (List ℕ × X)) → HasAscendingKeys ps → ps ≡ sorted_by_key ps
  ascending_walk ps up = in_order_is ps ps up (λ q. refl)

  -- ---- pairs at positions

  value_at : List (List ℕ × X) → ℕ → Option X
  value_at ps i = option_map (λ p. p.1) (slice_get ps i)

  find-place : (q : List ℕ) (ps : List (List ℕ × X))
      → find key_cmp q ps ≡ option_and_then (value_at ps) (position_of q ps)
  unfolding value_at
  find-place q [] = refl
  find-place q (p ∷ ps) =
      ap (λ r. cond (eq_by_cmp key_cmp q p.0) (Some p.1) r) (find-place q ps)
      ∙ step (eq_by_cmp key_cmp q p.0) (bytes_eq q p.0) (position_of q ps) (is_eq-slice_cmp q p.0)
    where
      step : (b c : Bool) (r : Option ℕ) → b ≡ c
          → cond b (Some p.1) (option_and_then (value_at ps) r)
          ≡ option_and_then (value_at (p ∷ ps)) (cond c (Some 0) (option_map suc r))
      step true true r e = refl
      step true false r e = cc
      step false true r e = cc
      step false false None e = refl
      step false false (Some i) e = refl

  -- the pair at a position
  pub at : (ps : List (List ℕ × X)) (i : ℕ) → i < length ps
      → (p : List ℕ × X) × (slice_get ps i ≡ Some p) × (key_or ps i ≡ p.0)
  at ps i within = elim (slice_get_cases ps i).1 [
    | inl h ↦ (h.0, h.2, get_or_from_slice_get (keys ps) i h.0.0 [] (key-of ps i h.0 h.2))
    | inr h ↦ absurd (omega (arith, within, h.0))
  ]

  keys-at : (is : List ℕ) (ps : List (List ℕ × X)) → ArePositionsInBounds is ps → keys (pairs_at_positions is ps) ≡ keys (key_positions is ps)
  keys-at [] ps within = refl
  keys-at (i ∷ is) ps within =
      let here = at ps i (within 0 i refl) in
      ap (λ o. keys (cons_option o (pairs_at_positions is ps))) here.1
      ∙ (λ j. sym here.2 j ∷ keys-at is ps (λ n. within (suc n)) j)

  find-at : (q : List ℕ) (is : List ℕ) (ps : List (List ℕ × X)) → ArePositionsInBounds is ps
      → find key_cmp q (pairs_at_positions is ps) ≡ option_and_then (value_at ps) (get q (key_positions is ps))
  unfolding value_at
  find-at q [] ps within = refl
  find-at q (i ∷ is) ps within =
      let here = at ps i (within 0 i refl) in
      ap (λ o. find key_cmp q (cons_option o (pairs_at_positions is ps))) here.1
      ∙ step here.0 here.1 (eq_by_cmp key_cmp q here.0.0) (bytes_eq q (key_or ps i))
      (is_eq-slice_cmp q here.0.0 ∙ ap (bytes_eq q) (sym here.2)) (find-at q is ps (λ n. within (suc n)))
    where
      step : (p : List ℕ × X) → slice_get ps i ≡ Some p → (b c : Bool) → b ≡ c
          → find key_cmp q (pairs_at_positions is ps) ≡ option_and_then (value_at ps) (get q (key_positions is ps))
          → cond b (Some p.1) (find key_cmp q (pairs_at_positions is ps))
          ≡ option_and_then (value_at ps) (cond c (Some i) (get q (key_positions is ps)))
      step p e true true s rest = sym (ap (option_map (λ x. x.1)) e)
      step p e true false s rest = cc
      step p e false true s rest = cc
      step p e false false s rest = rest

  sorted_within : (is : List ℕ) (ps : List (List ℕ × X)) → AreSortedPositions is ps → ArePositionsInBounds is ps
  sorted_within is ps h j i e =
      place-within (key_or ps i) ps i
      (sym (h.1 (key_or ps i)) ∙ get-at (key_positions is ps) j (key_or ps i, i) (distinct_from (key_positions is ps) h.0) (keyed-at is ps j i e))

  pub sorted_walk : (is js : List ℕ) (ps : List (List ℕ × X)) → js ≡ is → AreSortedPositions is ps
      → ArePositionsInBounds js ps × (pairs_at_positions js ps ≡ sorted_by_key ps)
  sorted_walk is js ps same h =
      let within = sorted_within is ps h in (
        subst (λ l. ArePositionsInBounds l ps) (sym same) within,
        ap (λ l. pairs_at_positions l ps) same
            ∙ in_order_is (pairs_at_positions is ps) ps (subst (IsStrictlySortedBy key_cmp) (sym (keys-at is ps within)) h.0)
            (λ q. find-at q is ps within ∙ ap (option_and_then (value_at ps)) (h.1 q) ∙ sym (find-place q ps)),
      )

  -- one position removed
  pub takes : (is js : List ℕ) (ps : List (List ℕ × X)) (r : Option (Bor ℕ))
      → MatchOption r ((is ≡ []) × (js ≡ [])) (λ x. is ≡ x.now ∷ js) → ArePositionsInBounds is ps
      → ArePositionsInBounds js ps × IsNextPair ps (pairs_at_positions is ps) (pairs_at_positions js ps) (option_copied r)
  takes is js ps None h within = (
    subst (λ l. ArePositionsInBounds l ps) (sym h.1) (λ j i e. cc),
    (ap (λ l. pairs_at_positions l ps) h.0, ap (λ l. pairs_at_positions l ps) h.1),
  )
  takes is js ps (Some x) h within =
      let all = subst (λ l. ArePositionsInBounds l ps) h within in
      let here = at ps x.now (all 0 x.now refl) in (
        λ j. all (suc j),
        (here.0, here.1, ap (λ l. pairs_at_positions l ps) h ∙ ap (λ o. cons_option o (pairs_at_positions js ps)) here.1),
      )

pub slice_takes : (s t : Iter ℕ) (r : Option (Bor ℕ)) → iter_steps s r t
    → MatchOption r ((iter_rest s ≡ []) × (iter_rest t ≡ [])) (λ x. iter_rest s ≡ x.now ∷ iter_rest t)
slice_takes s t None h = let none = empty (iter_rest s) h.0 in (none, ap iter_rest h.1 ∙ none)
  where
    empty : (xs : List ℕ) → length xs ≡ 0 → xs ≡ []
    empty [] e = refl
    empty (x ∷ xs) e = absurd (omega (arith, e))
slice_takes s t (Some x) h = h

-- ---- the positions of a map

abbrev Text : Type 0
Text = String Global

-- the entries, each key by its bytes
abbrev seen : List (Text × ℕ) → List (List ℕ × ℕ)
seen es = map (λ e. (string_bytes e.0, e.1)) es

below_seen : (k : Text) (es : List (Text × ℕ)) → AllByRecursion (λ y. string_cmp k y ≡ Less) (keys_of es)
    → AllByRecursion (λ q. key_cmp (string_bytes k) q ≡ Less) (keys (seen es))
below_seen k [] h = tt
below_seen k (e ∷ es) h = (h.0, below_seen k es h.1)

ascend_seen : (es : List (Text × ℕ)) → IsStrictlySortedBy string_cmp (keys_of es) → HasAscendingKeys (seen es)
unfolding IsStrictlySortedBy
ascend_seen [] up = tt
ascend_seen (e ∷ es) up = (below_seen e.0 es up.0, ascend_seen es up.1)

get_seen : (q : List ℕ) (es : List (Text × ℕ))
    → get q (seen es) ≡ lookup (λ k. is_eq (key_cmp q (string_bytes k))) es
get_seen q [] = refl
get_seen q (e ∷ es) = λ i. cond (sym (is_eq-slice_cmp q (string_bytes e.0)) i) (Some e.1) (get_seen q es i)

module _ {V : Type 0} where
  keyed_is : (es : List (Text × ℕ)) (ps : List (List ℕ × V))
      → ((j : ℕ) (e : List ℕ × ℕ) → slice_get (seen es) j ≡ Some e → key_or ps e.1 ≡ e.0)
      → key_positions (values_of es) ps ≡ seen es
  keyed_is [] ps h = refl
  keyed_is (e ∷ es) ps h = λ i. (h 0 (string_bytes e.0, e.1) refl i, e.1) ∷ keyed_is es ps (λ j. h (suc j)) i

  -- the map's positions are sorted
  pub map_sorted : (m : PositionMap) (ps : List (List ℕ × V)) → MapsKeysToPositions m ps → IsOrdered string_cmp m → AreSortedPositions (values m) ps
  map_sorted m ps has ordered =
      let es = m.entries in
      let up = ascend_seen es ordered in
      let same = keyed_is es ps (λ j e there. get_or_from_slice_get (keys ps) e.1 e.0 []
      (key-place e.0 ps e.1 (sym (has e.0) ∙ sym (get_seen e.0 es) ∙ get-at (seen es) j e (distinct_from (seen es) up) there))) in
      (subst HasAscendingKeys (sym same) up, λ k. ap (get k) same ∙ get_seen k es ∙ has k)
