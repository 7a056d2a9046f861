-- What has a key, a place and a value each: the first place and the last value of a key, in a list and in what is made
-- of it.
use Rattle.std.proofs.Common.{◌≡◌, ◌<◌, ◌≤◌, ◌+◌, ◌⊎◌, ℕ, List, [], ◌∷◌, Bool, true, false, cond, Option, Some, None}
use Rattle.std.proofs.Common.{inl, inr, refl, sym, ap, ◌∙◌, subst, filter, arith}
use Rattle.std.proofs.lemmas.Cmp.{nat_list_eq_equiv}
use Rattle.std.proofs.lemmas.Slice.Eq.{bytes_eq-Decides}
use Rattle.std.specs.Str.{bytes_eq}
use Rattle.json.specs.Json.{Json, Members, member}
use Rattle.bson_tokens.specs.Normalized.{put_at_first_position}
use Rattle.bson_model.specs.StableOrder.{IsStableByKey}
use Rattle.bson_tokens.specs.PutMembers.{PositionsAscend, members_of, put_all_members, merged, merged_from}
use Rattle.bson_model.specs.declared.options.KeyOrder.TheVariants.{AsGiven}
use Rattle.bson_tokens.proofs.Normalizing.{AreBehind, IsNormalized}

pub same_key : (k l : List ℕ) → bytes_eq k l ≡ true → k ≡ l
same_key k l h = (bytes_eq-Decides k l).0 h

pub own_key : (k : List ℕ) → bytes_eq k k ≡ true
own_key k = (bytes_eq-Decides k k).1 refl

-- unequal keys are unequal in either order
pub turned : (k l : List ℕ) → bytes_eq l k ≡ false → bytes_eq k l ≡ false
turned k l differ = nat_list_eq_equiv.symm k l ∙ differ

module _ {M : Type 0} (key_of : M → List ℕ) (place_of : M → ℕ) (value_of : M → Json) where
  abbrev pub JsonMember : Type 0
  JsonMember = ℕ × Json

  abbrev pub entry : M → JsonMember
  entry m = (place_of m, value_of m)

  -- the place of the first, and the value of the last
  abbrev pub after : Option JsonMember → Option JsonMember → Option JsonMember
  after None s = s
  after (Some e) None = Some e
  after (Some e) (Some f) = Some (e.0, f.1)

  -- what is at the key, if anything is
  abbrev pub member_path : List ℕ → M → Option JsonMember
  member_path q m = cond (bytes_eq q (key_of m)) (Some (entry m)) None

  -- the key's first place in the list, and its last value
  abbrev pub seen : List ℕ → List M → Option JsonMember
  seen q [] = None
  seen q (m ∷ ms) = after (member_path q m) (seen q ms)

  -- the first that has the key
  abbrev pub first : List ℕ → List M → Option JsonMember
  first q [] = None
  first q (m ∷ ms) = cond (bytes_eq q (key_of m)) (Some (entry m)) (first q ms)

  after_none : (s : Option JsonMember) → after s None ≡ s
  after_none None = refl
  after_none (Some e) = refl

  after_after : (a b c : Option JsonMember) → after (after a b) c ≡ after a (after b c)
  after_after None b c = refl
  after_after (Some e) None c = refl
  after_after (Some e) (Some f) None = refl
  after_after (Some e) (Some f) (Some g) = refl

  -- ---- a stable sort keeps them

  abbrev of_key : List ℕ → M → Bool
  of_key q m = bytes_eq q (key_of m)

  filtered_at : (b : Bool) (q : List ℕ) (m : M) (ms : List M) → bytes_eq q (key_of m) ≡ b
      → seen q (filter (of_key q) ms) ≡ seen q ms → seen q (filter (of_key q) (m ∷ ms)) ≡ seen q (m ∷ ms)
  filtered_at true q m ms h is = rw h (rw h (ap (after (Some (entry m))) is))
  filtered_at false q m ms h is = rw h is

  seen_filtered : (q : List ℕ) (ms : List M) → seen q (filter (of_key q) ms) ≡ seen q ms
  seen_filtered q [] = refl
  seen_filtered q (m ∷ ms) = filtered_at _ q m ms refl (seen_filtered q ms)

  some_at : (b : Bool) (q : List ℕ) (m : M) (ms : List M) → bytes_eq q (key_of m) ≡ b
      → (filter (of_key q) ms ≡ []) ⊎ ((n : M) × (key_of n ≡ q))
      → (filter (of_key q) (m ∷ ms) ≡ []) ⊎ ((n : M) × (key_of n ≡ q))
  some_at true q m ms h is = inr (m, sym (same_key q (key_of m) h))
  some_at false q m ms h (inl none) = inl (rw h none)
  some_at false q m ms h (inr some) = inr some

  none_or_some : (q : List ℕ) (ms : List M) → (filter (of_key q) ms ≡ []) ⊎ ((n : M) × (key_of n ≡ q))
  none_or_some q [] = inl refl
  none_or_some q (m ∷ ms) = some_at _ q m ms refl (none_or_some q ms)

  module _ (xs ys : List M) (stable : IsStableByKey key_of xs ys) where
    of_one : (q : List ℕ) → ((n : M) × (key_of n ≡ q)) → filter (of_key q) ys ≡ filter (of_key q) xs
    of_one q (n, is) = subst (λ k. filter (of_key k) ys ≡ filter (of_key k) xs) is (stable n)

    same_by : (q : List ℕ) → (filter (of_key q) xs ≡ []) ⊎ ((n : M) × (key_of n ≡ q))
        → (filter (of_key q) ys ≡ []) ⊎ ((n : M) × (key_of n ≡ q)) → filter (of_key q) ys ≡ filter (of_key q) xs
    same_by q (inr some) other = of_one q some
    same_by q (inl none) (inr some) = of_one q some
    same_by q (inl none) (inl nothing) = nothing ∙ sym none

    pub seen_stable : (q : List ℕ) → seen q ys ≡ seen q xs
    seen_stable q =
        sym (seen_filtered q ys) ∙ ap (seen q) (same_by q (none_or_some q xs) (none_or_some q ys)) ∙ seen_filtered q xs

  -- ---- merging keeps them

  module _ (merge : M → M → M) (merge_key : (m n : M) → key_of (merge m n) ≡ key_of m)
      (merge_place : (m n : M) → place_of (merge m n) ≡ place_of m)
      (merge_value : (m n : M) → value_of (merge m n) ≡ value_of n) where
    merge_at : (b : Bool) (q : List ℕ) (m n : M) → bytes_eq q (key_of m) ≡ b → key_of n ≡ key_of m
        → member_path q (merge m n) ≡ after (member_path q m) (member_path q n)
    merge_at true q m n h same = rw (merge_key m n, same, h) (rw (merge_place m n, merge_value m n) refl)
    merge_at false q m n h same = rw (merge_key m n, same, h) refl

    merged_at : (b : Bool) (q : List ℕ) (m n : M) (ns : List M) → bytes_eq (key_of n) (key_of m) ≡ b
        → seen q (merged_from key_of merge (merge m n) ns) ≡ seen q (merge m n ∷ ns)
        → seen q (merged_from key_of merge n ns) ≡ seen q (n ∷ ns)
        → seen q (cond b (merged_from key_of merge (merge m n) ns) (m ∷ merged_from key_of merge n ns))
        ≡ seen q (m ∷ n ∷ ns)
    merged_at true q m n ns h one other =
        one ∙ ap (λ s. after s (seen q ns)) (merge_at _ q m n refl (same_key (key_of n) (key_of m) h))
        ∙ after_after (member_path q m) (member_path q n) (seen q ns)
    merged_at false q m n ns h one other = ap (after (member_path q m)) other

    seen_merged_from : (q : List ℕ) (m : M) (ns : List M) → seen q (merged_from key_of merge m ns) ≡ seen q (m ∷ ns)
    seen_merged_from q m [] = refl
    seen_merged_from q m (n ∷ ns) =
        merged_at (bytes_eq (key_of n) (key_of m)) q m n ns refl (seen_merged_from q (merge m n) ns)
        (seen_merged_from q n ns)

    pub seen_merged : (q : List ℕ) (ms : List M) → seen q (merged key_of merge ms) ≡ seen q ms
    seen_merged q [] = refl
    seen_merged q (m ∷ ms) = seen_merged_from q m ms

  -- ---- each key occurs once

  abbrev pub DifferByKey : List M → Type 0
  DifferByKey ms = IsNormalized AsGiven (members_of key_of value_of ms)

  none_at : (q : List ℕ) (ms : List M) → AreBehind AsGiven q (members_of key_of value_of ms) → seen q ms ≡ None
  none_at q [] are = refl
  none_at q (m ∷ ms) are = rw (turned q (key_of m) are.0) (none_at q ms are.1)

  first_is_at : (b : Bool) (q : List ℕ) (m : M) (ms : List M) → bytes_eq q (key_of m) ≡ b
      → AreBehind AsGiven (key_of m) (members_of key_of value_of ms) → first q ms ≡ seen q ms
      → first q (m ∷ ms) ≡ seen q (m ∷ ms)
  first_is_at true q m ms h are is =
      let none : seen q ms ≡ None =
      ap (λ k. seen k ms) (same_key q (key_of m) h) ∙ none_at (key_of m) ms are in
      rw (h, none) refl
  first_is_at false q m ms h are is = rw h is

  pub first_is_seen : (q : List ℕ) (ms : List M) → DifferByKey ms → first q ms ≡ seen q ms
  first_is_seen q [] differ = refl
  first_is_seen q (m ∷ ms) differ = first_is_at _ q m ms refl differ.0 (first_is_seen q ms differ.1)

  pub differ_by_key : (q : List ℕ) (m : M) (ms : List M) → bytes_eq q (key_of m) ≡ true → DifferByKey (m ∷ ms)
      → first q ms ≡ None
  differ_by_key q m ms h differ =
      first_is_seen q ms differ.1 ∙ ap (λ k. seen k ms) (same_key q (key_of m) h) ∙ none_at (key_of m) ms differ.0

  -- ---- places

  abbrev pub AllAbove : ℕ → List M → Type 0
  AllAbove n [] = Unit {0}
  AllAbove n (m ∷ ms) = (n < place_of m) × AllAbove n ms

  abbrev pub AllBelow : ℕ → List M → Type 0
  AllBelow n [] = Unit {0}
  AllBelow n (m ∷ ms) = (place_of m < n) × AllBelow n ms

  abbrev pub Rising : List M → Type 0
  Rising [] = Unit {0}
  Rising (m ∷ ms) = AllAbove (place_of m) ms × Rising ms

  -- ---- inserted one after another at their first places

  module _ (merge : M → M → M) (merge_key : (m n : M) → key_of (merge m n) ≡ key_of m)
      (merge_place : (m n : M) → place_of (merge m n) ≡ place_of m)
      (merge_value : (m n : M) → value_of (merge m n) ≡ value_of n) where
    -- the list with m at its key: merged where the key is, else last
    abbrev pub put_one : M → List M → List M
    put_one m [] = m ∷ []
    put_one m (n ∷ ns) = cond (bytes_eq (key_of m) (key_of n)) (merge n m ∷ ns) (n ∷ put_one m ns)

    abbrev pub put_all : List M → List M → List M
    put_all [] found = found
    put_all (m ∷ ms) found = put_all ms (put_one m found)

    abbrev members : List M → Members
    members = members_of key_of value_of

    one_member_at : (b : Bool) (m n : M) (ns : List M)
        → members (put_one m ns) ≡ put_at_first_position (key_of m) (value_of m) (members ns)
        → members (cond b (merge n m ∷ ns) (n ∷ put_one m ns))
        ≡ cond b (member (key_of n) (value_of m) (members ns))
        (member (key_of n) (value_of n) (put_at_first_position (key_of m) (value_of m) (members ns)))
    one_member_at true m n ns is = rw (merge_key n m, merge_value n m) refl
    one_member_at false m n ns is = ap (member (key_of n) (value_of n)) is

    one_member : (m : M) (ns : List M) → members (put_one m ns) ≡ put_at_first_position (key_of m) (value_of m) (members ns)
    one_member m [] = refl
    one_member m (n ∷ ns) = one_member_at (bytes_eq (key_of m) (key_of n)) m n ns (one_member m ns)

    pub all_members : (ms found : List M)
        → members (put_all ms found) ≡ put_all_members key_of value_of AsGiven ms (members found)
    all_members [] found = refl
    all_members (m ∷ ms) found =
        all_members ms (put_one m found) ∙ ap (put_all_members key_of value_of AsGiven ms) (one_member m found)

    same_at_key : (b : Bool) (q : List ℕ) (m n : M) (ns : List M) → bytes_eq q (key_of n) ≡ b → key_of m ≡ key_of n
        → first q (merge n m ∷ ns) ≡ after (first q (n ∷ ns)) (member_path q m)
    same_at_key true q m n ns h same = rw (merge_key n m, same, h) (rw (merge_place n m, merge_value n m) refl)
    same_at_key false q m n ns h same = rw (merge_key n m, same, h) (sym (after_none (first q ns)))

    apart_at : (b : Bool) (q m n : List ℕ) → bytes_eq q m ≡ b → q ≡ n → bytes_eq m n ≡ false → b ≡ false
    apart_at false q m n h is differ = refl
    apart_at true q m n h is differ =
        let yes : bytes_eq m n ≡ true = (bytes_eq-Decides m n).1 (sym (same_key q m h) ∙ is) in cc

    other_at : (b : Bool) (q : List ℕ) (m n : M) (ns : List M) → bytes_eq q (key_of n) ≡ b
        → bytes_eq (key_of m) (key_of n) ≡ false → first q (put_one m ns) ≡ after (first q ns) (member_path q m)
        → first q (n ∷ put_one m ns) ≡ after (first q (n ∷ ns)) (member_path q m)
    other_at true q m n ns h differ is =
        let none : bytes_eq q (key_of m) ≡ false =
        apart_at _ q (key_of m) (key_of n) refl (same_key q (key_of n) h) differ in
        rw (h, none) refl
    other_at false q m n ns h differ is = rw h is

    first_put_at : (b : Bool) (q : List ℕ) (m n : M) (ns : List M) → bytes_eq (key_of m) (key_of n) ≡ b
        → first q (put_one m ns) ≡ after (first q ns) (member_path q m)
        → first q (cond b (merge n m ∷ ns) (n ∷ put_one m ns)) ≡ after (first q (n ∷ ns)) (member_path q m)
    first_put_at true q m n ns h is = same_at_key _ q m n ns refl (same_key (key_of m) (key_of n) h)
    first_put_at false q m n ns h is = other_at _ q m n ns refl h is

    first_put : (q : List ℕ) (m : M) (ns : List M) → first q (put_one m ns) ≡ after (first q ns) (member_path q m)
    first_put q m [] = refl
    first_put q m (n ∷ ns) = first_put_at (bytes_eq (key_of m) (key_of n)) q m n ns refl (first_put q m ns)

    pub first_put_all : (q : List ℕ) (ms found : List M)
        → first q (put_all ms found) ≡ after (first q found) (seen q ms)
    first_put_all q [] found = sym (after_none (first q found))
    first_put_all q (m ∷ ms) found =
        first_put_all q ms (put_one m found) ∙ ap (λ s. after s (seen q ms)) (first_put q m found)
        ∙ after_after (first q found) (member_path q m) (seen q ms)

    -- ---- their places rise

    above_at : (b : Bool) (n : ℕ) (m o : M) (ns : List M) → AllAbove n (o ∷ ns) → AllAbove n (put_one m ns)
        → AllAbove n (cond b (merge o m ∷ ns) (o ∷ put_one m ns))
    above_at true n m o ns were is = (omega (arith, were.0, merge_place o m), were.1)
    above_at false n m o ns were is = (were.0, is)

    above_put : (n : ℕ) (m : M) (ns : List M) → n < place_of m → AllAbove n ns → AllAbove n (put_one m ns)
    above_put n m [] new were = (new, tt)
    above_put n m (o ∷ ns) new were =
        above_at (bytes_eq (key_of m) (key_of o)) n m o ns were (above_put n m ns new were.1)

    below_at : (b : Bool) (n : ℕ) (m o : M) (ns : List M) → AllBelow n (o ∷ ns) → AllBelow n (put_one m ns)
        → AllBelow n (cond b (merge o m ∷ ns) (o ∷ put_one m ns))
    below_at true n m o ns were is = (omega (arith, were.0, merge_place o m), were.1)
    below_at false n m o ns were is = (were.0, is)

    below_put : (n : ℕ) (m : M) (ns : List M) → place_of m < n → AllBelow n ns → AllBelow n (put_one m ns)
    below_put n m [] new were = (new, tt)
    below_put n m (o ∷ ns) new were =
        below_at (bytes_eq (key_of m) (key_of o)) n m o ns were (below_put n m ns new were.1)

    below_more : (n k : ℕ) (ms : List M) → n ≤ k → AllBelow n ms → AllBelow k ms
    below_more n k [] h are = tt
    below_more n k (m ∷ ms) h are = (omega (arith, h, are.0), below_more n k ms h are.1)

    rising_at : (b : Bool) (m n : M) (ns : List M) → place_of n < place_of m → Rising (n ∷ ns) → Rising (put_one m ns)
        → Rising (cond b (merge n m ∷ ns) (n ∷ put_one m ns))
    rising_at true m n ns less were is = (subst (λ p. AllAbove p ns) (sym (merge_place n m)) were.0, were.1)
    rising_at false m n ns less were is = (above_put (place_of n) m ns less were.0, is)

    rising_put : (m : M) (ns : List M) → AllBelow (place_of m) ns → Rising ns → Rising (put_one m ns)
    rising_put m [] below were = (tt, tt)
    rising_put m (n ∷ ns) below were =
        rising_at (bytes_eq (key_of m) (key_of n)) m n ns below.0 were (rising_put m ns below.1 were.1)

    pub rising_all : (lowest : ℕ) (ms found : List M) → PositionsAscend place_of lowest ms → AllBelow lowest found → Rising found
        → Rising (put_all ms found)
    rising_all lowest [] found up below were = were
    rising_all lowest (m ∷ ms) found up below were =
        let before = below_more lowest (place_of m) found up.0 below in
        let further = below_more (place_of m) (place_of m + 1) found (omega arith) before in
        rising_all (place_of m + 1) ms (put_one m found) up.1
        (below_put (place_of m + 1) m found (omega arith) further)
        (rising_put m found before were)
