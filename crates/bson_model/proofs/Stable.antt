-- Pairs may be inserted in any order in which those of each key keep their turns.
use Rattle.std.proofs.Common.{◌≡◌, ℕ, List, [], ◌∷◌, ◌++◌, Bool, true, false, cond, Ordering, Less, refl, sym, ap, ◌∙◌, subst}
use Rattle.std.proofs.lemmas.Cmp.{tied_itself}
use Rattle.std.proofs.lemmas.Slice.Eq.{bytes_eq-Decides}
use Rattle.std.specs.Cmp.{IsTotalOrder}
use Rattle.std.specs.List.{filter}
use Rattle.std.specs.List.Sorted.{IsStableBy, ties}
use Rattle.std.specs.Ordering.{is_lt}
use Rattle.std.specs.Str.{bytes_eq}
use Rattle.bson_model.specs.Sorted.{insert_sorted_pair, IsBelowKeys, KeysAscend}
use Rattle.bson_model.specs.Value.{Value, Pairs, no_pairs, pair}
use Rattle.bson_model.specs.StableOrder.{have_equal_keys, IsStableByKey, insert_each, pairs_of}
use Rattle.bson_model.proofs.PutLaws.{put_swap}
use Rattle.bson_model.proofs.PutSwap.{flipped}

-- ---- stable sorts

within_at : {X : Type 0} (b c : Bool) (p q : X → Bool) (x : X) (xs : List X) → p x ≡ b → q x ≡ c
    → (p x ≡ true → q x ≡ true) → filter p (filter q xs) ≡ filter p xs
    → filter p (filter q (x ∷ xs)) ≡ filter p (x ∷ xs)
within_at b true p q x xs h e passes is = rw e (ap (λ l. cond (p x) (x ∷ l) l) is)
within_at true false p q x xs h e passes is = let yes = passes h in cc
within_at false false p q x xs h e passes is = rw (e, h) is

-- what passes both tests, where what passes the first passes the second
filter_within : {X : Type 0} (p q : X → Bool) (xs : List X) → ((x : X) → p x ≡ true → q x ≡ true)
    → filter p (filter q xs) ≡ filter p xs
filter_within p q [] passes = refl
filter_within p q (x ∷ xs) passes = within_at _ _ p q x xs refl refl (passes x) (filter_within p q xs passes)

first_of : {X : Type 0} (x y : X) (xs ys : List X) → x ∷ xs ≡ y ∷ ys → x ≡ y
first_of x y xs ys e = cc

module _ {M : Type 0} (key_of : M → List ℕ) where
  -- ---- what has one key

  abbrev twins : M → M → Bool
  twins = have_equal_keys key_of

  same_key : (m n : M) → twins m n ≡ true → key_of m ≡ key_of n
  same_key m n h = (bytes_eq-Decides (key_of m) (key_of n)).0 h

  has_own : (m : M) → twins m m ≡ true
  has_own m = (bytes_eq-Decides (key_of m) (key_of m)).1 refl

  told_apart : (m n : M) → twins m n ≡ false → key_of m ≡ key_of n → ⊥
  told_apart m n h e = let is = (bytes_eq-Decides (key_of m) (key_of n)).1 e in cc

  -- of two of one key both have the key of a third, or neither
  alike : (o m n : M) → twins m n ≡ true → twins o m ≡ twins o n
  alike o m n h = ap (bytes_eq (key_of o)) (same_key m n h)

  as_alike : (o m n : M) → twins o m ≡ true → twins o n ≡ twins m n
  as_alike o m n h = ap (λ k. bytes_eq k (key_of n)) (same_key o m h)

  -- ---- all but the first that has a key

  without : M → List M → List M
  without m [] = []
  without m (n ∷ ns) = cond (twins m n) ns (n ∷ without m ns)

  rest : List M → List M
  rest [] = []
  rest (m ∷ ms) = ms

  of_key_at : (b : Bool) (o m n : M) (ns : List M) → twins m n ≡ b → twins o m ≡ true
      → filter (twins o) (without m ns) ≡ rest (filter (twins o) ns)
      → filter (twins o) (without m (n ∷ ns)) ≡ rest (filter (twins o) (n ∷ ns))
  unfolding without rest
  of_key_at true o m n ns e h is = rw (e, sym (alike o m n e) ∙ h) refl
  of_key_at false o m n ns e h is = rw (e, as_alike o m n h ∙ e) is

  -- of those of that key the first is gone
  of_key : (o m : M) (ns : List M) → twins o m ≡ true
      → filter (twins o) (without m ns) ≡ rest (filter (twins o) ns)
  unfolding without rest
  of_key o m [] h = refl
  of_key o m (n ∷ ns) h = of_key_at _ o m n ns refl h (of_key o m ns h)

  of_other_at : (b : Bool) (o m n : M) (ns : List M) → twins m n ≡ b → twins o m ≡ false
      → filter (twins o) (without m ns) ≡ filter (twins o) ns
      → filter (twins o) (without m (n ∷ ns)) ≡ filter (twins o) (n ∷ ns)
  unfolding without
  of_other_at true o m n ns e h is = rw (e, sym (alike o m n e) ∙ h) refl
  of_other_at false o m n ns e h is = rw e (ap (λ l. cond (twins o n) (n ∷ l) l) is)

  -- those of other keys stay
  of_other : (o m : M) (ns : List M) → twins o m ≡ false
      → filter (twins o) (without m ns) ≡ filter (twins o) ns
  unfolding without
  of_other o m [] h = refl
  of_other o m (n ∷ ns) h = of_other_at _ o m n ns refl h (of_other o m ns h)

  still_at : (b : Bool) (o m : M) (ms ns : List M) → twins o m ≡ b → IsStableByKey key_of (m ∷ ms) ns
      → filter (twins o) (without m ns) ≡ filter (twins o) ms
  unfolding rest
  still_at true o m ms ns e k = of_key o m ns e ∙ ap rest (k o) ∙ rw e refl
  still_at false o m ms ns e k = of_other o m ns e ∙ k o ∙ rw e refl

  none_left : (n : M) (ns : List M) → IsStableByKey key_of [] (n ∷ ns) → ⊥
  none_left n ns k =
      let of_key = filter (twins n) ns in
      let some = subst (λ b. cond b (n ∷ of_key) of_key ≡ []) (has_own n) (k n) in
      cc

  -- a stable sort that compares the keys alone
  pub sorted_by : {K : Type 0} {R : K → K → Ordering} (o : IsTotalOrder R) (f : List ℕ → K) (ms ns : List M)
      → IsStableBy (λ m n. is_lt (R (f (key_of m)) (f (key_of n)))) ms ns → IsStableByKey key_of ms ns
  sorted_by {K} {R} o f ms ns stable m =
      let lt = λ (a b : M). is_lt (R (f (key_of a)) (f (key_of b))) in
      let tied : (n : M) → twins m n ≡ true → ties lt m n ≡ true =
      λ n h. let e = same_key m n h in let s = tied_itself o (f (key_of n)) in rw (e, s) refl in
      sym (filter_within (twins m) (ties lt m) ns tied) ∙ ap (filter (twins m)) (stable m)
      ∙ filter_within (twins m) (ties lt m) ms tied

  -- ---- inserted one after another

  module _ (value_of : M → Value) where
    abbrev put : List M → Pairs → Pairs
    put = insert_each key_of value_of

    abbrev as_pairs : List M → Pairs
    as_pairs = pairs_of key_of value_of

    abbrev put_one : M → Pairs → Pairs
    put_one m ps = insert_sorted_pair (key_of m) (value_of m) ps

    -- the first of a key may be inserted before all others
    first_at : (b : Bool) (m n : M) (ns ms : List M) (ps : Pairs) → twins m n ≡ b
        → filter (twins m) (n ∷ ns) ≡ m ∷ ms
        → ((qs : Pairs) → filter (twins m) ns ≡ m ∷ ms → put ns qs ≡ put (without m ns) (put_one m qs))
        → put (n ∷ ns) ps ≡ put (without m (n ∷ ns)) (put_one m ps)
    unfolding without
    first_at true m n ns ms ps e h is =
        let own = subst (λ b. cond b (n ∷ filter (twins m) ns) (filter (twins m) ns) ≡ m ∷ ms) e h in
        rw e (ap (λ x. put ns (put_one x ps)) (first_of n m _ ms own))
    first_at false m n ns ms ps e h is =
        let later = subst (λ b. cond b (n ∷ filter (twins m) ns) (filter (twins m) ns) ≡ m ∷ ms) e h in
        rw e (is (put_one n ps) later
        ∙ ap (put (without m ns)) (put_swap (key_of m) (key_of n) (value_of m) (value_of n) ps (told_apart m n e)))

    put_first : (m : M) (ns ms : List M) (ps : Pairs) → filter (twins m) ns ≡ m ∷ ms
        → put ns ps ≡ put (without m ns) (put_one m ps)
    put_first m [] ms ps h = cc
    put_first m (n ∷ ns) ms ps h = first_at _ m n ns ms ps refl h (λ qs. put_first m ns ms qs)

    pub turned : (ms ns : List M) (ps : Pairs) → IsStableByKey key_of ms ns → put ms ps ≡ put ns ps
    turned [] [] ps k = refl
    turned [] (n ∷ ns) ps k = absurd (none_left n ns k)
    turned (m ∷ ms) ns ps k =
        turned ms (without m ns) (put_one m ps) (λ o. still_at _ o m ms ns refl k)
        ∙ sym (put_first m ns (filter (twins m) ms) ps (k m ∙ rw (has_own m) refl))

    pub put_last : (ms : List M) (m : M) (ps : Pairs) → put (ms ++ m ∷ []) ps ≡ put_one m (put ms ps)
    put_last [] m ps = refl
    put_last (n ∷ ms) m ps = put_last ms m (put_one n ps)

    above : (k : List ℕ) (v : Value) (ms : List M) (ps : Pairs) → IsBelowKeys k (as_pairs ms)
        → put ms (pair k v ps) ≡ pair k v (put ms ps)
    above k v [] ps least = refl
    above k v (m ∷ ms) ps least = rw (flipped k (key_of m) Less least.0) (above k v ms (put_one m ps) least.1)

    -- members in ascending order are inserted unchanged
    pub put_ascending : (ms : List M) → KeysAscend (as_pairs ms) → put ms no_pairs ≡ as_pairs ms
    put_ascending [] up = refl
    put_ascending (m ∷ ms) up =
        above (key_of m) (value_of m) ms no_pairs up.0 ∙ ap (pair (key_of m) (value_of m)) (put_ascending ms up.1)
