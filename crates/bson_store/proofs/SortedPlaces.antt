-- The positions of pairs in ascending key order: the position of a key among them, and the positions after a pair is removed.
use Rattle.std.proofs.Common.{◌≡◌, ℕ, zero, suc, ◌+◌, ◌-◌, ◌<◌, ◌≤◌, ◌==◌, Bool, true, false, not, cond, List, [], ◌∷◌}
use Rattle.std.proofs.Common.{◌++◌, length, map, remove, get_or, slice_index_or, Option, Some, None, slice_get}
use Rattle.std.proofs.Common.{option_map, string_bytes, refl, sym, ap, subst, ◌∙◌, true≢false, arith}
use lib.ListN.{length-map}
use Rattle.std.specs.List.{AllAdjacentBelow, AllByRecursion, Contains, IsDistinct, filter, range_with_len}
use Rattle.std.specs.List.Sorted.{IsPermutation, IsStrictlySortedBy}
use Rattle.std.specs.Cmp.Lexicographic.{nat_list_eq_equiv}
use Rattle.std.specs.Ordering.{is_lt}
use Rattle.std.specs.Str.{bytes_eq}
use Rattle.std.specs.declared.cmp.Ordering.TheVariants.{Less}
use Rattle.std.proofs.lemmas.Bool.Decides.{Decides-eqb}
use Rattle.std.proofs.lemmas.List.Sorted.{Contains-permutation, IsPermutation-map, IsPermutation-sym}
use Rattle.std.proofs.lemmas.Map.Keys.{IsDistinct-IsPermutation, sorted_from_all_adjacent}
use Rattle.std.proofs.lemmas.Option.{slice_get-map, slice_get-get_or, slice_get_within, get_or_from_slice_get}
use Rattle.bson_store.specs.AscendingOrder.{key_cmp}
use Rattle.bson_store.specs.Pairs.{keys, get, position_of, HasDistinctKeys}
use Rattle.bson_store.specs.PositionsAfterRemoval.{position_before_removal, position_after_removal}
use Rattle.bson_store.specs.KeyIndex.{stored_pairs, key_positions, HasAscendingKeys, AreSortedPositions}
use Rattle.bson_store.specs.declared.small.Pair.{Pair}
use Rattle.bson_store.proofs.Adjacent.{distinct_from}
use Rattle.bson_store.proofs.AscendingLaws.{by_option, key-of}
use Rattle.bson_store.proofs.Distinct.{at-get, get-at}
use Rattle.bson_store.proofs.Least.{key_total, less_of}
use Rattle.bson_store.proofs.Placed.{place-at, place-removed, same_bytes, swapped}

module _ {X : Type 0} where
  holds : (es : List X) (i : ℕ) (e : X) → slice_get es i ≡ Some e → Contains es e
  holds es i e h = (i, slice_get_within es i e h, get_or_from_slice_get es i e e h)

-- of distinct keys each has its value, whatever the order
get-one_way : {X : Type 0} (k : List ℕ) (v : X) (es fs : List (List ℕ × X)) → IsPermutation es fs → HasDistinctKeys fs
    → get k es ≡ Some v → get k fs ≡ Some v
get-one_way k v es fs moved d h =
    let at = at-get k es v h in
    let there = Contains-permutation es fs (k, v) moved (holds es at.0 (k, v) at.2) in
    get-at fs there.0 (k, v) d (slice_get-get_or fs there.0 (k, v) there.1 ∙ ap Some there.2)

get-permuted : {X : Type 0} (k : List ℕ) (es fs : List (List ℕ × X)) → IsPermutation es fs → HasDistinctKeys es
    → HasDistinctKeys fs → get k fs ≡ get k es
get-permuted k es fs moved d f = by_option (λ r. r ≡ get k es) (get k fs)
    (λ none. by_option (λ r. None ≡ r) (get k es) (λ e. refl)
    (λ v e. sym none ∙ get-one_way k v es fs moved f e))
    (λ v e. sym (get-one_way k v fs es (IsPermutation-sym es fs moved) d e))

plus_zero : (a : ℕ) → a + 0 ≡ a
plus_zero a = omega arith

plus_one : (a i : ℕ) → a + 1 + i ≡ a + suc i
plus_one a i = omega arith

zero_plus : (i : ℕ) → 0 + i ≡ i
zero_plus i = omega arith

zero_more : (r : Option ℕ) → option_map (λ i. 0 + i) r ≡ r
zero_more None = refl
zero_more (Some i) = ap Some (zero_plus i)

pub range_last : (a n : ℕ) → range_with_len a (suc n) ≡ range_with_len a n ++ (a + n) ∷ []
range_last a zero = ap (λ k. k ∷ []) (sym (plus_zero a))
range_last a (suc n) = ap (λ l. a ∷ l) (range_last (a + 1) n ∙ ap (λ k. range_with_len (a + 1) n ++ k ∷ []) (plus_one a n))

-- ---- the position of a pair after another is removed

another : (i j : ℕ) → (i == j) ≡ false → i ≡ j → ⊥
another i j e same = true≢false (sym ((Decides-eqb i j).1 same) ∙ e)

before-after : (at i : ℕ) → (i ≡ at → ⊥) → position_before_removal at (position_after_removal at i) ≡ i
before-after zero zero other = absurd (other refl)
before-after zero (suc i) other = refl
before-after (suc at) zero other = refl
before-after (suc at) (suc i) other = ap suc (before-after at i (λ same. other (ap suc same)))

pub after-behind : (at i : ℕ) → at < i → i - 1 ≡ position_after_removal at i
after-behind zero zero less = absurd (omega (arith, less))
after-behind zero (suc i) less = omega arith
after-behind (suc at) zero less = absurd (omega (arith, less))
after-behind (suc at) (suc i) less =
    let one : suc i - 1 ≡ suc (i - 1) = omega (arith, less) in
    one ∙ ap suc (after-behind at i (omega (arith, less)))

pub after-before : (at i : ℕ) → i ≤ at → i ≡ position_after_removal at i
after-before zero zero le = refl
after-before zero (suc i) le = absurd (omega (arith, le))
after-before (suc at) zero le = refl
after-before (suc at) (suc i) le = ap suc (after-before at i (omega (arith, le)))

before_once : (at i j : ℕ) → position_before_removal at i ≡ position_before_removal at j → i ≡ j
before_once zero i j e = omega (arith, e)
before_once (suc at) zero zero e = refl
before_once (suc at) zero (suc j) e = absurd (omega (arith, e))
before_once (suc at) (suc i) zero e = absurd (omega (arith, e))
before_once (suc at) (suc i) (suc j) e = ap suc (before_once at i j (omega (arith, e)))

before_same : (at : ℕ) (r s : Option ℕ) → option_map (position_before_removal at) r ≡ option_map (position_before_removal at) s
    → r ≡ s
before_same at None None e = refl
before_same at None (Some j) e = cc
before_same at (Some i) None e = cc
before_same at (Some i) (Some j) e = ap Some (before_once at i j cc)

abbrev pub gone : ℕ → List ℕ → List ℕ
gone at is = map (position_after_removal at) (filter (λ i. not (i == at)) is)

module _ {V : Type 0} where
  key-after : (ps : List (List ℕ × V)) (at i : ℕ) → (i ≡ at → ⊥)
      → slice_index_or (keys (remove ps at)) (position_after_removal at i) [] ≡ slice_index_or (keys ps) i []
  key-after [] zero i other = refl
  key-after [] (suc at) i other = refl
  key-after (p ∷ ps) zero zero other = absurd (other refl)
  key-after (p ∷ ps) zero (suc i) other = refl
  key-after (p ∷ ps) (suc at) zero other = refl
  key-after (p ∷ ps) (suc at) (suc i) other = key-after ps at i (λ same. other (ap suc same))

  below-gone : (k : List ℕ) (is : List ℕ) (ps : List (List ℕ × V)) (at : ℕ)
      → AllByRecursion (λ q. key_cmp k q ≡ Less) (keys (key_positions is ps))
      → AllByRecursion (λ q. key_cmp k q ≡ Less) (keys (key_positions (gone at is) (remove ps at)))
  below-gone k [] ps at h = tt
  below-gone k (i ∷ is) ps at h =
      elim (i == at) as
      (λ b. (i == at) ≡ b → AllByRecursion (λ q. key_cmp k q ≡ Less)
      (keys (key_positions (map (position_after_removal at) (cond (not b) (i ∷ filter (λ j. not (j == at)) is)
      (filter (λ j. not (j == at)) is))) (remove ps at)))) [
        | true ↦ λ e. below-gone k is ps at h.1
        | false ↦ λ e. (ap (key_cmp k) (key-after ps at i (another i at e)) ∙ h.0, below-gone k is ps at h.1)
      ] refl

  ascend-gone : (is : List ℕ) (ps : List (List ℕ × V)) (at : ℕ) → HasAscendingKeys (key_positions is ps)
      → HasAscendingKeys (key_positions (gone at is) (remove ps at))
  unfolding IsStrictlySortedBy
  ascend-gone [] ps at up = tt
  ascend-gone (i ∷ is) ps at up =
      elim (i == at) as
      (λ b. (i == at) ≡ b → HasAscendingKeys (key_positions (map (position_after_removal at)
      (cond (not b) (i ∷ filter (λ j. not (j == at)) is) (filter (λ j. not (j == at)) is))) (remove ps at))) [
        | true ↦ λ e. ascend-gone is ps at up.1
        | false ↦ λ e. (
          subst (λ k. AllByRecursion (λ q. key_cmp k q ≡ Less) (keys (key_positions (gone at is) (remove ps at))))
              (sym (key-after ps at i (another i at e))) (below-gone (slice_index_or (keys ps) i []) is ps at up.0),
          ascend-gone is ps at up.1,
        )
      ] refl

  get-gone : (is : List ℕ) (ps : List (List ℕ × V)) (at : ℕ) (l : List ℕ)
      → ((j i : ℕ) → slice_get is j ≡ Some i → slice_index_or (keys ps) i [] ≡ l → i ≡ at)
      → slice_index_or (keys ps) at [] ≡ l → (k : List ℕ)
      → option_map (position_before_removal at) (get k (key_positions (gone at is) (remove ps at)))
      ≡ cond (bytes_eq l k) None (get k (key_positions is ps))
  get-gone [] ps at l one own k = elim (bytes_eq l k) as (λ b. ◌≡◌ {A = Option ℕ} None (cond b None None)) [
    | true ↦ refl
    | false ↦ refl
  ]
  get-gone (i ∷ is) ps at l one own k =
      let rest = get-gone is ps at l (λ j. one (suc j)) own k in
      elim (i == at) as
      (λ b. (i == at) ≡ b
      → option_map (position_before_removal at) (get k (key_positions (map (position_after_removal at)
      (cond (not b) (i ∷ filter (λ j. not (j == at)) is) (filter (λ j. not (j == at)) is))) (remove ps at)))
      ≡ cond (bytes_eq l k) None (get k (key_positions (i ∷ is) ps))) [
        | true ↦ λ e. rest ∙ out (bytes_eq l k) (bytes_eq k (slice_index_or (keys ps) i [])) i (get k (key_positions is ps))
            (swapped l k
            ∙ ap (bytes_eq k) (sym own ∙ ap (λ n. slice_index_or (keys ps) n []) (sym ((Decides-eqb i at).0 e))))
        | false ↦ λ e. kept (bytes_eq l k) (bytes_eq k (slice_index_or (keys (remove ps at)) (position_after_removal at i) []))
            (bytes_eq k (slice_index_or (keys ps) i [])) i (position_after_removal at i) (get k (key_positions is ps))
            (get k (key_positions (gone at is) (remove ps at)))
            (ap (bytes_eq k) (key-after ps at i (another i at e))) (before-after at i (another i at e))
            (λ m n. another i at e (one 0 i refl (sym (same_bytes k (slice_index_or (keys ps) i []) n) ∙ sym (same_bytes l k m))))
            rest
      ] refl
    where
      out : (b c : Bool) (i : ℕ) (r : Option ℕ) → b ≡ c → cond b None r ≡ cond b None (cond c (Some i) r)
      out true c i r e = refl
      out false true i r e = cc
      out false false i r e = refl

      kept : (b c d : Bool) (i j : ℕ) (r s : Option ℕ) → c ≡ d → position_before_removal at j ≡ i
          → (b ≡ true → d ≡ true → ⊥) → option_map (position_before_removal at) s ≡ cond b None r
          → option_map (position_before_removal at) (cond c (Some j) s) ≡ cond b None (cond d (Some i) r)
      kept b true false i j r s e f never h = cc
      kept b false true i j r s e f never h = cc
      kept true true true i j r s e f never h = absurd (never refl refl)
      kept false true true i j r s e f never h = ap Some f
      kept true false false i j r s e f never h = h
      kept false false false i j r s e f never h = h

  -- without the position of the pair that is removed
  pub sorted-without : (is : List ℕ) (ps : List (List ℕ × V)) (at : ℕ) (p : List ℕ × V) → HasDistinctKeys ps
      → slice_get ps at ≡ Some p → AreSortedPositions is ps → AreSortedPositions (gone at is) (remove ps at)
  sorted-without is ps at p d there h = (
    ascend-gone is ps at h.0,
    λ k. before_same at _ _ (get-gone is ps at p.0
        (λ j i e same. some_one i at (sym (get-at (key_positions is ps) j (slice_index_or (keys ps) i [], i)
        (distinct_from (key_positions is ps) h.0)
        (slice_get-map (λ n. (slice_index_or (keys ps) n [], n)) is j
        ∙ ap (option_map (λ n. (slice_index_or (keys ps) n [], n))) e))
        ∙ ap (λ x. get x (key_positions is ps)) same ∙ h.1 p.0 ∙ place-at ps at p d there))
        (get_or_from_slice_get (keys ps) at p.0 [] (key-of ps at p there)) k
        ∙ ap (cond (bytes_eq p.0 k) None) (h.1 k) ∙ place-removed ps at p d there k),
  )
    where
      some_one : (i j : ℕ) → Some i ≡ Some j → i ≡ j
      some_one i j e = cc

module _ {V : Type 0} where
  abbrev pub key_or : List (List ℕ × V) → ℕ → List ℕ
  key_or ps i = slice_index_or (keys ps) i []

  pub keyed-at : (is : List ℕ) (ps : List (List ℕ × V)) (j i : ℕ) → slice_get is j ≡ Some i
      → slice_get (key_positions is ps) j ≡ Some (key_or ps i, i)
  keyed-at is ps j i e = slice_get-map (λ n. (key_or ps n, n)) is j ∙ ap (option_map (λ n. (key_or ps n, n))) e

  pub key_keyed-at : (is : List ℕ) (ps : List (List ℕ × V)) (j i : ℕ) → slice_get is j ≡ Some i
      → slice_get (keys (key_positions is ps)) j ≡ Some (key_or ps i)
  key_keyed-at is ps j i e = key-of (key_positions is ps) j (key_or ps i, i) (keyed-at is ps j i e)

  pub length-keyed : (is : List ℕ) (ps : List (List ℕ × V)) → length (key_positions is ps) ≡ length is
  length-keyed is ps = length-map is (λ n. (key_or ps n, n))

  -- ---- sorting

  keys-at : (is : List ℕ) (ps : List (List ℕ × V)) (j d : ℕ)
      → get_or (keys (key_positions is ps)) j (key_or ps d) ≡ key_or ps (get_or is j d)
  keys-at [] ps j d = refl
  keys-at (i ∷ is) ps zero d = refl
  keys-at (i ∷ is) ps (suc j) d = keys-at is ps j d

  length-keys : (is : List ℕ) (ps : List (List ℕ × V)) → length (keys (key_positions is ps)) ≡ length is
  length-keys [] ps = refl
  length-keys (i ∷ is) ps = ap suc (length-keys is ps)

  abbrev pub below : List (List ℕ × V) → ℕ → ℕ → Bool
  below ps i j = is_lt (key_cmp (key_or ps i) (key_or ps j))

  pub ascend-keyed : (is : List ℕ) (ps : List (List ℕ × V))
      → AllAdjacentBelow (λ i j. true ≡ below ps i j) is (length is) → HasAscendingKeys (key_positions is ps)
  ascend-keyed is ps next =
      sorted_from_all_adjacent key_total (keys (key_positions is ps)) (key_or ps 0)
      (λ j l. rw (keys-at is ps j 0, keys-at is ps (j + 1) 0)
      (less_of _ (sym (next j 0 (omega (arith, length-keys is ps, l))))))

  -- the positions one after another
  insert_each : (f : ℕ → List ℕ) (ps : List (List ℕ × V)) (a : ℕ)
      → ((i : ℕ) → i < length ps → f (a + i) ≡ get_or (keys ps) i []) → (k : List ℕ)
      → get k (map (λ i. (f i, i)) (range_with_len a (length ps))) ≡ option_map (λ i. a + i) (position_of k ps)
  insert_each f [] a h k = refl
  insert_each f (p ∷ ps) a h k =
      step (bytes_eq k (f a)) (bytes_eq k p.0) (position_of k ps) (ap (bytes_eq k) (ap f (sym (plus_zero a)) ∙ h 0 (omega arith)))
      (insert_each f ps (a + 1) (λ i l. ap f (plus_one a i) ∙ h (suc i) (omega (arith, l))) k)
    where
      step : (b c : Bool) (r : Option ℕ) {s : Option ℕ} → b ≡ c → s ≡ option_map (λ i. a + 1 + i) r
          → cond b (Some a) s ≡ option_map (λ i. a + i) (cond c (Some 0) (option_map suc r))
      step true true r e h = ap Some (sym (plus_zero a))
      step true false r e h = cc
      step false true r e h = cc
      step false false None e h = h
      step false false (Some i) e h = h ∙ ap Some (plus_one a i)

  keys-in_turn : (f : ℕ → List ℕ) (ps : List (List ℕ × V)) (a : ℕ)
      → ((i : ℕ) → i < length ps → f (a + i) ≡ get_or (keys ps) i [])
      → keys (map (λ i. (f i, i)) (range_with_len a (length ps))) ≡ keys ps
  keys-in_turn f [] a h = refl
  keys-in_turn f (p ∷ ps) a h =
      λ j. (ap f (sym (plus_zero a)) ∙ h 0 (omega arith)) j
      ∷ keys-in_turn f ps (a + 1) (λ i l. ap f (plus_one a i) ∙ h (suc i) (omega (arith, l))) j

  -- all positions, in an order in which their keys ascend
  pub sorted-from : (is : List ℕ) (ps : List (List ℕ × V)) → IsPermutation (range_with_len 0 (length ps)) is
      → HasAscendingKeys (key_positions is ps) → HasDistinctKeys ps × AreSortedPositions is ps
  sorted-from is ps moved up =
      let all = range_with_len 0 (length ps) in
      let es = key_positions all ps in
      let fs = key_positions is ps in
      let turns = IsPermutation-map (λ i. (key_or ps i, i)) all is moved in
      let f = distinct_from fs up in
      let own = keys-in_turn (key_or ps) ps 0 (λ i l. ap (key_or ps) (zero_plus i)) in
      let e : HasDistinctKeys es =
      IsDistinct-IsPermutation bytes_eq (λ x y. nat_list_eq_equiv.symm x y) (keys fs) (keys es)
      (IsPermutation-sym (keys es) (keys fs) (IsPermutation-map (λ p. p.0) es fs turns)) f in (
        subst (IsDistinct bytes_eq) own e,
        (
          up,
          λ k. get-permuted k es fs turns e f ∙ insert_each (key_or ps) ps 0 (λ i l. ap (key_or ps) (zero_plus i)) k
              ∙ zero_more (position_of k ps),
        ),
      )

-- the key at a position of the fields
pub key_there : {V : Type 0} (ps : List (Pair V)) (i : ℕ) (p : Pair V) → slice_get ps i ≡ Some p
    → string_bytes p.key ≡ slice_index_or (keys (stored_pairs ps)) i []
key_there [] i p e = cc
key_there (q ∷ ps) zero p e = let same : q ≡ p = cc in ap (λ x. string_bytes x.key) (sym same)
key_there (q ∷ ps) (suc i) p e = key_there ps i p e
