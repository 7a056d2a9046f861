-- A sort by key, and then by place, is a stable sort by key of what is in the order of its places.
use Rattle.std.proofs.Common.{◌≡◌, ◌<◌, ◌≤◌, ◌+◌, ℕ, List, [], ◌∷◌, Bool, true, false, cond, ◌||◌, Option, Some, None}
use Rattle.std.proofs.Common.{Ordering, Less, Equal, Greater, nat_cmp, get_or, All, IsPermutation, filter, refl}
use Rattle.std.proofs.Common.{sym, ap, ap₂, ◌∙◌, subst, arith}
use Rattle.std.proofs.lemmas.Cmp.{nat_list_cmp_total, nat_cmp_total, tied_itself}
use Rattle.std.proofs.lemmas.List.Elements.{All-cons, All-head, All-nil, All-tail}
use Rattle.std.proofs.lemmas.List.Sorted.{All-permutation, list_any-IsPermutation, sorted_far, ranks_by}
use Rattle.std.proofs.lemmas.Map.Keys.{ge_from_not_lt}
use Rattle.std.proofs.lemmas.Option.{same_Some}
use Rattle.std.proofs.lemmas.Slice.Eq.{bytes_eq-Decides}
use Rattle.std.proofs.lemmas.Cmp.{then_total, on_total}
use Rattle.std.specs.Cmp.{IsTotalOrder}
use Rattle.std.specs.Cmp.Lexicographic.{slice_cmp}
use Rattle.std.specs.List.{list_any}
use Rattle.std.specs.List.Sorted.{IsSortedBy, IsSortedByKey}
use Rattle.std.specs.Ordering.{is_lt, ordering_then}
use Rattle.std.specs.Str.{bytes_eq}
use Rattle.json.specs.Json.{Json, null}
use Rattle.bson_model.specs.StableOrder.{IsStableByKey, have_equal_keys}
use Rattle.bson_tokens.specs.PutMembers.{PositionsAscend, members_of}
use Rattle.bson_model.specs.declared.options.KeyOrder.TheVariants.{AsGiven}
use Rattle.bson_tokens.proofs.Normalizing.{cmp, AreBehind, IsNormalized}
use Rattle.bson_tokens.proofs.MemberSpans.{same_key, own_key, turned}
use Rattle.bson_tokens.proofs.Settled.{NoneLower, Sorted, sorted_from, all_behind, differ_permuted}

apart_at : (b : Bool) (k l : ℕ) → bytes_eq (l ∷ []) (k ∷ []) ≡ b → k < l → b ≡ false
apart_at false k l h less = refl
apart_at true k l h less =
    let same : l ∷ [] ≡ k ∷ [] = same_key (l ∷ []) (k ∷ []) h in
    let one : l ≡ k = cc in
    absurd (omega (arith, one, less))

first_alone : (o p : Ordering) → is_lt (ordering_then o p) ≡ false → is_lt o ≡ false
first_alone Less p h = h
first_alone Equal p h = refl
first_alone Greater p h = refl

module _ {M : Type 0} (key_of : M → List ℕ) (place_of : M → ℕ) where
  abbrev before : M → M → Bool
  before x y = is_lt (ordering_then (cmp (key_of x) (key_of y)) (nat_cmp (place_of x) (place_of y)))

  -- a place, as a key
  abbrev mark : M → List ℕ
  mark m = place_of m ∷ []

  abbrev nothing : M → Json
  nothing m = null

  abbrev Differ : List M → Type 0
  Differ ms = IsNormalized AsGiven (members_of mark nothing ms)

  abbrev AreApart : List ℕ → List M → Type 0
  AreApart q ms = AreBehind AsGiven q (members_of mark nothing ms)

  abbrev pick : List ℕ → List M → Option M
  pick q [] = None
  pick q (m ∷ ms) = cond (bytes_eq q (mark m)) (Some m) (pick q ms)

  own : (m : M) (ms : List M) → pick (mark m) (m ∷ ms) ≡ Some m
  own m ms = rw (own_key (mark m)) refl

  other : (q : List ℕ) (m : M) (ms : List M) → bytes_eq q (mark m) ≡ false → pick q (m ∷ ms) ≡ pick q ms
  other q m ms h = rw h refl

  -- ---- what rises differs

  apart : (n lowest : ℕ) (ms : List M) → n < lowest → PositionsAscend place_of lowest ms → AreApart (n ∷ []) ms
  apart n lowest [] less up = tt
  apart n lowest (m ∷ ms) less up = (
    apart_at _ n (place_of m) refl (omega (arith, less, up.0)),
    apart n (place_of m + 1) ms (omega (arith, less, up.0)) up.1,
  )

  differ : (lowest : ℕ) (ms : List M) → PositionsAscend place_of lowest ms → Differ ms
  differ lowest [] up = tt
  differ lowest (m ∷ ms) up =
      (apart (place_of m) (place_of m + 1) ms (omega arith) up.1, differ (place_of m + 1) ms up.1)

  none_apart : (q : List ℕ) (ms : List M) → AreApart q ms → pick q ms ≡ None
  none_apart q [] are = refl
  none_apart q (m ∷ ms) are = rw (turned q (mark m) are.0) (none_apart q ms are.1)

  abbrev IsIn : List M → M → Type 0
  IsIn ms n = pick (mark n) ms ≡ Some n

  each_in : (ms : List M) → Differ ms → All (IsIn ms) ms
  each_in [] apart = All-nil (IsIn [])
  each_in (m ∷ ms) apart =
      All-cons (IsIn (m ∷ ms)) m ms (own m ms)
      (λ i d less. other (mark (get_or ms i d)) m ms (all_behind mark place_of nothing (mark m) ms apart.0 i d less)
      ∙ each_in ms apart.1 i d less)

  -- ---- what passes a test

  module _ (t : M → Bool) where
    abbrev keep : Option M → Option M
    keep None = None
    keep (Some m) = cond (t m) (Some m) None

    abbrev has : List ℕ → List M → Bool
    has q = list_any (λ m. bytes_eq q (mark m))

    picked_at : (b c : Bool) (q : List ℕ) (xs : List M) (m : M) (ms : List M) → bytes_eq q (mark m) ≡ b → t m ≡ c
        → IsIn xs m → pick q (filter t ms) ≡ keep (cond (has q ms) (pick q xs) None)
        → pick q (cond c (m ∷ filter t ms) (filter t ms)) ≡ keep (cond (b || has q ms) (pick q xs) None)
    picked_at true true q xs m ms h passes is more =
        let found : pick q xs ≡ Some m = ap (λ k. pick k xs) (same_key q (mark m) h) ∙ is in
        rw (h, found, passes) refl
    picked_at true false q xs m ms h passes is more =
        let found : pick q xs ≡ Some m = ap (λ k. pick k xs) (same_key q (mark m) h) ∙ is in
        more ∙ either (has q ms) found ∙ sym (ap keep found ∙ rw passes refl)
      where
        either : (b : Bool) → pick q xs ≡ Some m → keep (cond b (pick q xs) None) ≡ None
        either true found = ap keep found ∙ rw passes refl
        either false found = refl
    picked_at false true q xs m ms h passes is more = other q m (filter t ms) h ∙ more
    picked_at false false q xs m ms h passes is more = more

    picked : (q : List ℕ) (xs ms : List M) → All (IsIn xs) ms
        → pick q (filter t ms) ≡ keep (cond (has q ms) (pick q xs) None)
    picked q xs [] are = refl
    picked q xs (m ∷ ms) are =
        picked_at (bytes_eq q (mark m)) (t m) q xs m ms refl refl (All-head (IsIn xs) m ms are)
        (picked q xs ms (All-tail (IsIn xs) m ms are))

    same_picked : (xs ys : List M) → IsPermutation xs ys → Differ xs → (q : List ℕ)
        → pick q (filter t ys) ≡ pick q (filter t xs)
    same_picked xs ys same apart q =
        picked q xs ys (All-permutation (IsIn xs) xs ys same (each_in xs apart))
        ∙ ap (λ b. keep (cond b (pick q xs) None)) (sym (list_any-IsPermutation (λ m. bytes_eq q (mark m)) xs ys same))
        ∙ sym (picked q xs xs (each_in xs apart))

    still_apart_at : (c : Bool) (q : List ℕ) (m : M) (ms : List M) → bytes_eq (mark m) q ≡ false
        → AreApart q (filter t ms) → AreApart q (cond c (m ∷ filter t ms) (filter t ms))
    still_apart_at true q m ms h are = (h, are)
    still_apart_at false q m ms h are = are

    still_apart : (q : List ℕ) (ms : List M) → AreApart q ms → AreApart q (filter t ms)
    still_apart q [] are = tt
    still_apart q (m ∷ ms) are = still_apart_at (t m) q m ms are.0 (still_apart q ms are.1)

    still_differ_at : (c : Bool) (m : M) (ms : List M) → AreApart (mark m) (filter t ms) → Differ (filter t ms)
        → Differ (cond c (m ∷ filter t ms) (filter t ms))
    still_differ_at true m ms are rest = (are, rest)
    still_differ_at false m ms are rest = rest

    still_differ : (ms : List M) → Differ ms → Differ (filter t ms)
    still_differ [] apart = tt
    still_differ (m ∷ ms) apart =
        still_differ_at (t m) m ms (still_apart (mark m) ms apart.0) (still_differ ms apart.1)

  -- ---- places that do not fall

  abbrev FromPlace : ℕ → List M → Type 0
  FromPlace n [] = Unit {0}
  FromPlace n (m ∷ ms) = (n ≤ place_of m) × FromPlace n ms

  abbrev NeverFall : List M → Type 0
  NeverFall [] = Unit {0}
  NeverFall (m ∷ ms) = FromPlace (place_of m) ms × NeverFall ms

  picked_later_at : (b : Bool) (n : ℕ) (q : List ℕ) (m e : M) (ms : List M) → n ≤ place_of m
      → cond b (Some m) (pick q ms) ≡ Some e → (pick q ms ≡ Some e → n ≤ place_of e) → n ≤ place_of e
  picked_later_at true n q m e ms le h rest = subst (λ x. n ≤ place_of x) (same_Some m e h) le
  picked_later_at false n q m e ms le h rest = rest h

  picked_later : (n : ℕ) (q : List ℕ) (ms : List M) (e : M) → FromPlace n ms → pick q ms ≡ Some e → n ≤ place_of e
  picked_later n q [] e are h = absurd cc
  picked_later n q (m ∷ ms) e are h =
      picked_later_at (bytes_eq q (mark m)) n q m e ms are.0 h (λ is. picked_later n q ms e are.1 is)

  tails_at : (b : Bool) (q : List ℕ) (m n : M) (ms ns : List M) → bytes_eq q (mark m) ≡ b → m ≡ n → Differ (m ∷ ms)
      → Differ (n ∷ ns) → pick q (m ∷ ms) ≡ pick q (n ∷ ns) → pick q ms ≡ pick q ns
  tails_at true q m n ms ns h one mine others same =
      let at = same_key q (mark m) h in
      ap (λ k. pick k ms) at ∙ none_apart (mark m) ms mine.0 ∙ sym (none_apart (mark n) ns others.0)
      ∙ ap (λ k. pick k ns) (sym (at ∙ ap mark one))
  tails_at false q m n ms ns h one mine others same =
      sym (other q m ms h) ∙ same ∙ other q n ns (ap (λ x. bytes_eq q (mark x)) (sym one) ∙ h)

  heads_at : (b : Bool) (m n : M) (ms ns : List M) → bytes_eq (mark m) (mark n) ≡ b → NeverFall (m ∷ ms)
      → NeverFall (n ∷ ns) → Differ (m ∷ ms) → Differ (n ∷ ns) → ((q : List ℕ) → pick q (m ∷ ms) ≡ pick q (n ∷ ns))
      → (((q : List ℕ) → pick q ms ≡ pick q ns) → ms ≡ ns) → m ∷ ms ≡ n ∷ ns
  heads_at true m n ms ns h up rise mine others same rest =
      let one = same_Some m n (sym (own m ms) ∙ same (mark m) ∙ ap (λ k. pick k (n ∷ ns)) (same_key (mark m) (mark n) h)
      ∙ own n ns) in
      ap₂ (λ x xs. x ∷ xs) one (rest (λ q. tails_at (bytes_eq q (mark m)) q m n ms ns refl one mine others (same q)))
  heads_at false m n ms ns h up rise mine others same rest =
      let m_later = sym (other (mark m) n ns h) ∙ sym (same (mark m)) ∙ own m ms in
      let n_later = sym (other (mark n) m ms (turned (mark n) (mark m) h)) ∙ same (mark n) ∙ own n ns in
      let le = picked_later (place_of m) (mark n) ms n up.0 n_later in
      let ge = picked_later (place_of n) (mark m) ns m rise.0 m_later in
      let one : place_of m ≡ place_of n = omega (arith, le, ge) in
      let yes : bytes_eq (mark m) (mark n) ≡ true = (bytes_eq-Decides (mark m) (mark n)).1 (ap (λ x. x ∷ []) one) in
      cc

  same_lists : (ms ns : List M) → NeverFall ms → NeverFall ns → Differ ms → Differ ns
      → ((q : List ℕ) → pick q ms ≡ pick q ns) → ms ≡ ns
  same_lists [] [] up rise mine others same = refl
  same_lists [] (n ∷ ns) up rise mine others same = let h = same (mark n) ∙ own n ns in absurd cc
  same_lists (m ∷ ms) [] up rise mine others same = let h = sym (own m ms) ∙ same (mark m) in absurd cc
  same_lists (m ∷ ms) (n ∷ ns) up rise mine others same =
      heads_at _ m n ms ns refl up rise mine others same (same_lists ms ns up.1 rise.1 mine.1 others.1)

  from_more : (n lowest : ℕ) (ms : List M) → n ≤ lowest → PositionsAscend place_of lowest ms → FromPlace n ms
  from_more n lowest [] le up = tt
  from_more n lowest (m ∷ ms) le up =
      (omega (arith, le, up.0), from_more n (place_of m + 1) ms (omega (arith, le, up.0)) up.1)

  never_fall : (lowest : ℕ) (ms : List M) → PositionsAscend place_of lowest ms → NeverFall ms
  never_fall lowest [] up = tt
  never_fall lowest (m ∷ ms) up =
      (from_more (place_of m) (place_of m + 1) ms (omega arith) up.1, never_fall (place_of m + 1) ms up.1)

  -- ---- of one key

  module _ (m : M) where
    abbrev twins : List M → List M
    twins ms = filter (have_equal_keys key_of m) ms

    from_at : (c : Bool) (n : ℕ) (o : M) (ms : List M) → n ≤ place_of o → FromPlace n (twins ms)
        → FromPlace n (cond c (o ∷ twins ms) (twins ms))
    from_at true n o ms le are = (le, are)
    from_at false n o ms le are = are

    from_twins : (n : ℕ) (ms : List M) → FromPlace n ms → FromPlace n (twins ms)
    from_twins n [] are = tt
    from_twins n (o ∷ ms) are = from_at (have_equal_keys key_of m o) n o ms are.0 (from_twins n ms are.1)

    never_at : (c : Bool) (o : M) (ms : List M) → FromPlace (place_of o) (twins ms) → NeverFall (twins ms)
        → NeverFall (cond c (o ∷ twins ms) (twins ms))
    never_at true o ms are rest = (are, rest)
    never_at false o ms are rest = rest

    twins_never_fall : (ms : List M) → NeverFall ms → NeverFall (twins ms)
    twins_never_fall [] up = tt
    twins_never_fall (o ∷ ms) up =
        never_at (have_equal_keys key_of m o) o ms (from_twins (place_of o) ms up.0) (twins_never_fall ms up.1)

    -- of two of the key the one that is no lower has no lower place
    no_lower : (o p : M) → key_of m ≡ key_of o → key_of m ≡ key_of p → before p o ≡ false → place_of o ≤ place_of p
    no_lower o p mine other not_less =
        let tied : cmp (key_of p) (key_of o) ≡ Equal =
        ap (cmp (key_of p)) (sym mine ∙ other) ∙ tied_itself nat_list_cmp_total (key_of p) in
        let later = sym (ap (λ r. is_lt (ordering_then r (nat_cmp (place_of p) (place_of o)))) tied) ∙ not_less in
        ge_from_not_lt (place_of p) (place_of o) later

    later_at : (c : Bool) (o p : M) (ms : List M) → have_equal_keys key_of m p ≡ c → key_of m ≡ key_of o
        → before p o ≡ false → FromPlace (place_of o) (twins ms)
        → FromPlace (place_of o) (cond c (p ∷ twins ms) (twins ms))
    later_at true o p ms h mine not_less are =
        (no_lower o p mine (same_key (key_of m) (key_of p) h) not_less, are)
    later_at false o p ms h mine not_less are = are

    later : (o : M) (ms : List M) → key_of m ≡ key_of o → NoneLower before o ms → FromPlace (place_of o) (twins ms)
    later o [] mine none = tt
    later o (p ∷ ms) mine none =
        later_at (have_equal_keys key_of m p) o p ms refl mine none.0 (later o ms mine none.1)

    sorted_at : (c : Bool) (o : M) (ms : List M) → have_equal_keys key_of m o ≡ c → NoneLower before o ms
        → NeverFall (twins ms) → NeverFall (cond c (o ∷ twins ms) (twins ms))
    sorted_at true o ms h none rest = (later o ms (same_key (key_of m) (key_of o) h) none, rest)
    sorted_at false o ms h none rest = rest

    sorted_never_fall : (ms : List M) → Sorted before ms → NeverFall (twins ms)
    sorted_never_fall [] up = tt
    sorted_never_fall (o ∷ ms) up = sorted_at (have_equal_keys key_of m o) o ms refl up.0 (sorted_never_fall ms up.1)

  -- ---- the sort

  order : IsTotalOrder (λ (x y : M). ordering_then (cmp (key_of x) (key_of y)) (nat_cmp (place_of x) (place_of y)))
  order = then_total (on_total key_of nat_list_cmp_total) (on_total place_of nat_cmp_total)

  pub stable_by_place : (xs ys : List M) (lowest : ℕ) → PositionsAscend place_of lowest xs → IsPermutation xs ys
      → IsSortedBy before ys → IsStableByKey key_of xs ys × IsSortedByKey key_of (slice_cmp nat_cmp) ys
  stable_by_place xs ys lowest rise same sorted =
      let up = sorted_from before ys (sorted_far before (ranks_by order (λ m. m)) ys sorted) in
      let mine = differ lowest xs rise in
      let others = differ_permuted mark place_of nothing xs ys same mine in (
        λ m. same_lists (twins m ys) (twins m xs) (sorted_never_fall m ys up)
            (twins_never_fall m xs (never_fall lowest xs rise)) (still_differ (have_equal_keys key_of m) ys others)
            (still_differ (have_equal_keys key_of m) xs mine) (same_picked (have_equal_keys key_of m) xs ys same mine),
        λ k d least most. first_alone _ _ (sorted k d least most),
      )
