-- Lists that ascend by place, and have the same at each key, have the same members.
use Rattle.std.proofs.Common.{◌≡◌, ◌<◌, ◌≤◌, ℕ, zero, suc, List, [], ◌∷◌, Bool, true, false, cond, ◌||◌, length}
use Rattle.std.proofs.Common.{Option, Some, None, Ordering, Less, Equal, Greater, nat_cmp, get_or, sum_by, All}
use Rattle.std.proofs.Common.{IsPermutation, refl, sym, ap, ap₂, ◌∙◌, subst, arith}
use Rattle.std.proofs.lemmas.Cmp.{nat_list_cmp_total}
use Rattle.std.proofs.lemmas.List.Elements.{All-cons, All-head, All-nil, All-tail}
use Rattle.std.proofs.lemmas.List.Sorted.{All-permutation, list_any-IsPermutation, sum_by-IsPermutation}
use Rattle.std.proofs.lemmas.List.Sums.{sum_by-cons}
use Rattle.std.proofs.lemmas.Map.Keys.{ge_from_not_lt}
use Rattle.std.proofs.lemmas.Map.Text.{is_eq-slice_cmp}
use Rattle.std.proofs.lemmas.Option.{same_Some}
use Rattle.std.proofs.lemmas.Slice.Eq.{bytes_eq-Decides}
use Rattle.std.specs.List.{list_any}
use Rattle.std.specs.Ordering.{is_eq, is_lt}
use Rattle.std.specs.Str.{bytes_eq}
use Rattle.json.specs.Json.{Json, Members, member}
use Rattle.bson_tokens.specs.PutMembers.{members_of}
use Rattle.bson_model.specs.declared.options.KeyOrder.TheVariants.{AsGiven}
use Rattle.bson_tokens.proofs.Normalizing.{cmp, flipped, AreBehind}
use Rattle.bson_tokens.proofs.MemberSpans.{same_key, own_key, turned, entry, first, DifferByKey}
use Rattle.bson_tokens.proofs.MemberSpans.{differ_by_key, AllAbove, Rising}

-- ---- a sort, element by element

module _ {X : Type 0} (lt : X → X → Bool) where
  abbrev pub NoneLower : X → List X → Type 0
  NoneLower x [] = Unit {0}
  NoneLower x (y ∷ ys) = (lt y x ≡ false) × NoneLower x ys

  abbrev pub Sorted : List X → Type 0
  Sorted [] = Unit {0}
  Sorted (x ∷ xs) = NoneLower x xs × Sorted xs

  none_lower : (x : X) (xs : List X) → ((j : ℕ) (d : X) → j < length xs → lt (get_or xs j d) x ≡ false)
      → NoneLower x xs
  none_lower x [] far = tt
  none_lower x (y ∷ ys) far =
      (far zero y (omega arith), none_lower x ys (λ j d less. far (suc j) d (omega (arith, less))))

  pub sorted_from : (xs : List X)
      → ((i j : ℕ) (d : X) → i ≤ j → j < length xs → lt (get_or xs j d) (get_or xs i d) ≡ false) → Sorted xs
  sorted_from [] far = tt
  sorted_from (x ∷ xs) far = (
    none_lower x xs (λ j d less. far zero (suc j) d (omega arith) (omega (arith, less))),
    sorted_from xs (λ i j d le less. far (suc i) (suc j) d (omega (arith, le)) (omega (arith, less))),
  )

-- ---- keys

pub equal_keys : (k l : List ℕ) → cmp k l ≡ Equal → k ≡ l
equal_keys k l h = same_key k l (sym (is_eq-slice_cmp k l) ∙ ap is_eq h)

less_at : (o : Ordering) (k m n : List ℕ) → cmp n m ≡ o → is_lt o ≡ false → cmp k m ≡ Less → cmp k n ≡ Less
less_at Less k m n h not_less less = cc
less_at Equal k m n h not_less less = subst (λ l. cmp k l ≡ Less) (sym (equal_keys n m h)) less
less_at Greater k m n h not_less less = nat_list_cmp_total.trans k m n less (flipped n m Greater h)

-- what is lower than a key is lower than one that is no lower
pub less_than : (k m n : List ℕ) → cmp k m ≡ Less → is_lt (cmp n m) ≡ false → cmp k n ≡ Less
less_than k m n less not_less = less_at (cmp n m) k m n refl not_less less

above_at : (o : Ordering) (m n : List ℕ) → cmp n m ≡ o → is_lt o ≡ false → bytes_eq n m ≡ false → cmp m n ≡ Less
above_at Less m n h not_less differ = cc
above_at Equal m n h not_less differ = let yes = (bytes_eq-Decides n m).1 (equal_keys n m h) in cc
above_at Greater m n h not_less differ = flipped n m Greater h

-- of two keys the one that is no lower is greater
pub above : (m n : List ℕ) → is_lt (cmp n m) ≡ false → bytes_eq n m ≡ false → cmp m n ≡ Less
above m n not_less differ = above_at (cmp n m) m n refl not_less differ

module _ {M : Type 0} (key_of : M → List ℕ) (place_of : M → ℕ) (value_of : M → Json) where
  abbrev members : List M → Members
  members = members_of key_of value_of

  abbrev found : List ℕ → List M → Option (ℕ × Json)
  found = first key_of place_of value_of

  abbrev Differ : List M → Type 0
  Differ = DifferByKey key_of place_of value_of

  abbrev value : M → ℕ × Json
  value = entry key_of place_of value_of

  abbrev by_key : M → M → Bool
  by_key m n = is_lt (cmp (key_of m) (key_of n))

  abbrev by_place : M → M → Bool
  by_place m n = is_lt (nat_cmp (place_of m) (place_of n))

  found_own : (m : M) (ms : List M) → found (key_of m) (m ∷ ms) ≡ Some (value m)
  found_own m ms = rw (own_key (key_of m)) refl

  found_other : (q : List ℕ) (m : M) (ms : List M) → bytes_eq q (key_of m) ≡ false → found q (m ∷ ms) ≡ found q ms
  found_other q m ms h = rw h refl

  -- ---- lists whose places rise, with the same at each key

  behind_at : (b : Bool) (n : ℕ) (q : List ℕ) (m : M) (ms : List M) (e : ℕ × Json) → n < place_of m
      → cond b (Some (value m)) (found q ms) ≡ Some e → (found q ms ≡ Some e → n < e.0) → n < e.0
  behind_at true n q m ms e less h later = subst (λ x. n < x.0) (same_Some (value m) e h) less
  behind_at false n q m ms e less h later = later h

  behind : (n : ℕ) (q : List ℕ) (ms : List M) (e : ℕ × Json) → AllAbove key_of place_of value_of n ms
      → found q ms ≡ Some e → n < e.0
  behind n q [] e are h = absurd cc
  behind n q (m ∷ ms) e are h =
      behind_at (bytes_eq q (key_of m)) n q m ms e are.0 h (λ is. behind n q ms e are.1 is)

  not_before_at : (b : Bool) (m : M) (q : List ℕ) (n : M) (ns : List M) (e : ℕ × Json) → by_place n m ≡ false
      → cond b (Some (value n)) (found q ns) ≡ Some e → (found q ns ≡ Some e → place_of m ≤ e.0) → place_of m ≤ e.0
  not_before_at true m q n ns e not_less h later =
      subst (λ x. place_of m ≤ x.0) (same_Some (value n) e h) (ge_from_not_lt (place_of n) (place_of m) not_less)
  not_before_at false m q n ns e not_less h later = later h

  not_before : (m : M) (q : List ℕ) (ns : List M) (e : ℕ × Json) → NoneLower by_place m ns → found q ns ≡ Some e
      → place_of m ≤ e.0
  not_before m q [] e none h = absurd cc
  not_before m q (n ∷ ns) e none h =
      not_before_at (bytes_eq q (key_of n)) m q n ns e none.0 h (λ is. not_before m q ns e none.1 is)

  tails_at : (c : Bool) (q : List ℕ) (m n : M) (ms ns : List M) → bytes_eq q (key_of m) ≡ c → key_of m ≡ key_of n
      → Differ (m ∷ ms) → Differ (n ∷ ns) → found q (m ∷ ms) ≡ found q (n ∷ ns) → found q ms ≡ found q ns
  tails_at true q m n ms ns h one mine other same =
      differ_by_key key_of place_of value_of q m ms h mine
      ∙ sym (differ_by_key key_of place_of value_of q n ns (ap (bytes_eq q) (sym one) ∙ h) other)
  tails_at false q m n ms ns h one mine other same =
      sym (found_other q m ms h) ∙ same ∙ found_other q n ns (ap (bytes_eq q) (sym one) ∙ h)

  heads_at : (c : Bool) (m n : M) (ms ns : List M) → bytes_eq (key_of m) (key_of n) ≡ c
      → Rising key_of place_of value_of (m ∷ ms) → Sorted by_place (n ∷ ns) → Differ (m ∷ ms) → Differ (n ∷ ns)
      → ((q : List ℕ) → found q (m ∷ ms) ≡ found q (n ∷ ns))
      → (((q : List ℕ) → found q ms ≡ found q ns) → members ms ≡ members ns)
      → members (m ∷ ms) ≡ members (n ∷ ns)
  heads_at true m n ms ns h up sorted mine other same rest =
      let one = same_key (key_of m) (key_of n) h in
      let values : value m ≡ value n =
      same_Some (value m) (value n) (sym (found_own m ms) ∙ same (key_of m) ∙ ap (λ k. found k (n ∷ ns)) one
      ∙ found_own n ns) in
      let more = rest (λ q. tails_at (bytes_eq q (key_of m)) q m n ms ns refl one mine other (same q)) in
      ap₂ (λ k j. member k j (members ms)) one (ap (λ e. e.1) values) ∙ ap (member (key_of n) (value_of n)) more
  heads_at false m n ms ns h up sorted mine other same rest =
      let m_later : found (key_of m) ns ≡ Some (value m) =
      sym (found_other (key_of m) n ns h) ∙ sym (same (key_of m)) ∙ found_own m ms in
      let n_later : found (key_of n) ms ≡ Some (value n) =
      sym (found_other (key_of n) m ms (turned (key_of n) (key_of m) h)) ∙ same (key_of n) ∙ found_own n ns in
      let less = behind (place_of m) (key_of n) ms (value n) up.0 n_later in
      let reaches = not_before n (key_of m) ns (value m) sorted.0 m_later in
      absurd (omega (arith, less, reaches))

  pub same_lists : (ms ns : List M) → Rising key_of place_of value_of ms → Sorted by_place ns → Differ ms → Differ ns
      → ((q : List ℕ) → found q ms ≡ found q ns) → members ms ≡ members ns
  same_lists [] [] up sorted mine other same = refl
  same_lists [] (n ∷ ns) up sorted mine other same = let h = same (key_of n) ∙ found_own n ns in absurd cc
  same_lists (m ∷ ms) [] up sorted mine other same = let h = sym (found_own m ms) ∙ same (key_of m) in absurd cc
  same_lists (m ∷ ms) (n ∷ ns) up sorted mine other same =
      heads_at _ m n ms ns refl up sorted mine other same (same_lists ms ns up.1 sorted.1 mine.1 other.1)

  -- ---- the same in another order

  abbrev counts : List ℕ → M → ℕ
  counts q m = cond (bytes_eq q (key_of m)) 1 0

  none_counted : (q : List ℕ) (ms : List M) → AreBehind AsGiven q (members ms) → sum_by (counts q) ms ≡ 0
  none_counted q [] are = refl
  none_counted q (m ∷ ms) are =
      let none : counts q m ≡ 0 = rw (turned q (key_of m) are.0) refl in
      omega (arith, sum_by-cons (counts q) m ms, none, none_counted q ms are.1)

  once_at : (b : Bool) (q : List ℕ) (m : M) (ms : List M) → bytes_eq q (key_of m) ≡ b → Differ (m ∷ ms)
      → sum_by (counts q) ms ≤ 1 → sum_by (counts q) (m ∷ ms) ≤ 1
  once_at true q m ms h differ is =
      let yes : counts q m ≡ 1 = rw h refl in
      let none : sum_by (counts q) ms ≡ 0 =
      subst (λ k. sum_by (counts k) ms ≡ 0) (sym (same_key q (key_of m) h)) (none_counted (key_of m) ms differ.0) in
      omega (arith, sum_by-cons (counts q) m ms, yes, none)
  once_at false q m ms h differ is =
      let none : counts q m ≡ 0 = rw h refl in omega (arith, sum_by-cons (counts q) m ms, none, is)

  once_counted : (q : List ℕ) (ms : List M) → Differ ms → sum_by (counts q) ms ≤ 1
  once_counted q [] differ = omega arith
  once_counted q (m ∷ ms) differ = once_at _ q m ms refl differ (once_counted q ms differ.1)

  uncounted : (b : Bool) → ◌≡◌ {A = ℕ} (cond b 1 0) 0 → b ≡ false
  uncounted false h = refl
  uncounted true h = absurd (omega (arith, h))

  behind_counted : (q : List ℕ) (ms : List M) → sum_by (counts q) ms ≡ 0 → AreBehind AsGiven q (members ms)
  behind_counted q [] h = tt
  behind_counted q (m ∷ ms) h =
      let s = sum_by-cons (counts q) m ms in (
        turned (key_of m) q (uncounted (bytes_eq q (key_of m)) (omega (arith, h, s))),
        behind_counted q ms (omega (arith, h, s)),
      )

  differ_counted : (ms : List M) → ((q : List ℕ) → sum_by (counts q) ms ≤ 1) → Differ ms
  differ_counted [] h = tt
  differ_counted (m ∷ ms) h =
      let own : counts (key_of m) m ≡ 1 = rw (own_key (key_of m)) refl in (
        behind_counted (key_of m) ms (omega (arith, h (key_of m), own, sum_by-cons (counts (key_of m)) m ms)),
        differ_counted ms (λ q. omega (arith, h q, sum_by-cons (counts q) m ms)),
      )

  pub differ_permuted : (ms ns : List M) → IsPermutation ms ns → Differ ms → Differ ns
  differ_permuted ms ns same differ =
      differ_counted ns (λ q. omega (arith, sum_by-IsPermutation (counts q) ms ns same, once_counted q ms differ))

  abbrev IsIn : List M → M → Type 0
  IsIn ms n = found (key_of n) ms ≡ Some (value n)

  pub all_behind : (k : List ℕ) (ms : List M) → AreBehind AsGiven k (members ms)
      → All (λ n. bytes_eq (key_of n) k ≡ false) ms
  all_behind k [] are = All-nil (λ n. bytes_eq (key_of n) k ≡ false)
  all_behind k (m ∷ ms) are = All-cons (λ n. bytes_eq (key_of n) k ≡ false) m ms are.0 (all_behind k ms are.1)

  each_in : (ms : List M) → Differ ms → All (IsIn ms) ms
  each_in [] differ = All-nil (IsIn [])
  each_in (m ∷ ms) differ =
      All-cons (IsIn (m ∷ ms)) m ms (found_own m ms)
      (λ i d less. found_other (key_of (get_or ms i d)) m ms (all_behind (key_of m) ms differ.0 i d less)
      ∙ each_in ms differ.1 i d less)

  abbrev has : List ℕ → List M → Bool
  has q = list_any (λ m. bytes_eq q (key_of m))

  missing_at : (b : Bool) (q : List ℕ) (m : M) (ms : List M) → (b || has q ms) ≡ false
      → (has q ms ≡ false → found q ms ≡ None) → cond b (Some (value m)) (found q ms) ≡ None
  missing_at true q m ms h rest = cc
  missing_at false q m ms h rest = rest h

  missing : (q : List ℕ) (ms : List M) → has q ms ≡ false → found q ms ≡ None
  missing q [] h = refl
  missing q (m ∷ ms) h = missing_at (bytes_eq q (key_of m)) q m ms h (missing q ms)

  there_at : (b : Bool) (q : List ℕ) (ms : List M) (n : M) (ns : List M) → bytes_eq q (key_of n) ≡ b
      → IsIn ms n → (b || has q ns) ≡ true → (has q ns ≡ true → found q ns ≡ found q ms)
      → cond b (Some (value n)) (found q ns) ≡ found q ms
  there_at true q ms n ns h is some rest = sym is ∙ ap (λ k. found k ms) (sym (same_key q (key_of n) h))
  there_at false q ms n ns h is some rest = rest some

  there : (q : List ℕ) (ms ns : List M) → All (IsIn ms) ns → has q ns ≡ true → found q ns ≡ found q ms
  there q ms [] are some = cc
  there q ms (n ∷ ns) are some =
      there_at (bytes_eq q (key_of n)) q ms n ns refl (All-head (IsIn ms) n ns are) some
      (there q ms ns (All-tail (IsIn ms) n ns are))

  permuted_at : (b : Bool) (q : List ℕ) (ms ns : List M) → has q ms ≡ b → IsPermutation ms ns → Differ ms
      → found q ns ≡ found q ms
  permuted_at true q ms ns h same differ =
      there q ms ns (All-permutation (IsIn ms) ms ns same (each_in ms differ))
      (sym (list_any-IsPermutation (λ m. bytes_eq q (key_of m)) ms ns same) ∙ h)
  permuted_at false q ms ns h same differ =
      missing q ns (sym (list_any-IsPermutation (λ m. bytes_eq q (key_of m)) ms ns same) ∙ h) ∙ sym (missing q ms h)

  pub found_permuted : (ms ns : List M) → IsPermutation ms ns → Differ ms → (q : List ℕ) → found q ns ≡ found q ms
  found_permuted ms ns same differ q = permuted_at (has q ms) q ms ns refl same differ
