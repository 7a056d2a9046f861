-- The places of an object's members, in order.
use Rattle.std.proofs.Common.{◌≡◌, ℕ, zero, suc, ◌+◌, ◌<◌, ◌≤◌, Bool, true, false, cond, List, [], ◌∷◌, ◌++◌, length, map, drop}
use Rattle.std.proofs.Common.{Bor, bytes_eq, get_or, refl, sym, ap, ◌∙◌, subst, arith}
use Rattle.std.proofs.Math.Seq.{drop-cons}
use Rattle.std.proofs.lemmas.List.Elements.{All-nil, All-head, All-cons, All-get_or, filter_passes}
use Rattle.std.proofs.lemmas.List.FromFn.{fill_by_all}
use Rattle.std.proofs.lemmas.List.Sorted.{All-permutation, IsPermutation-map, IsPermutation-refl, IsPermutation-trans}
use Rattle.std.proofs.lemmas.Slice.Eq.{bytes_eq-Decides}
use Rattle.std.specs.List.{All, filter, range_with_len}
use Rattle.std.specs.List.Sorted.{IsPermutation}
use Rattle.bson_model.specs.StableOrder.{have_equal_keys, IsStableByKey}
use Rattle.bson_text.specs.MemberSpans.{span_key, end_before_next, spans_from, empty_span, span_at_or_empty, key_at_or_empty, spans_at, first_index_has_key}
use Rattle.bson_text.specs.MemberSpans.{next_has_key, AreIndexesByKey, IsSortedObject, IsTextOfSpans}
use Rattle.bson_text.specs.declared.member_spans.MemberSpan.{MemberSpan}

abbrev pub Key : Type 0
Key = Bor (List ℕ)

abbrev pub no_key : Key
no_key = record { ref_ptr = (0, 0); now = [] }

-- ---- the piece at a place

pub spans_long : (ks : List Key) (member_starts : List ℕ) (end : ℕ) → length ks ≡ length member_starts
    → length (spans_from ks member_starts end) ≡ length ks
spans_long [] member_starts end paired = refl
spans_long (k ∷ ks) [] end paired = cc
spans_long (k ∷ ks) (s ∷ member_starts) end paired = ap suc (spans_long ks member_starts end (omega (arith, paired)))

pub key_there : (ks : List Key) (member_starts : List ℕ) (end n : ℕ) → length ks ≡ length member_starts
    → span_key (span_at_or_empty (spans_from ks member_starts end) n) ≡ key_at_or_empty ks n
key_there [] member_starts end n paired = refl
key_there (k ∷ ks) [] end n paired = cc
key_there (k ∷ ks) (s ∷ member_starts) end zero paired = refl
key_there (k ∷ ks) (s ∷ member_starts) end (suc n) paired = key_there ks member_starts end n (omega (arith, paired))

pub span_there : (ks : List Key) (member_starts : List ℕ) (end n : ℕ) → length ks ≡ length member_starts → n < length ks
    → span_at_or_empty (spans_from ks member_starts end) n
    ≡ record { key = get_or ks n no_key; start = get_or member_starts n 0; end = end_before_next (drop (suc n) member_starts) end }
span_there [] member_starts end n paired within = absurd (omega (arith, within))
span_there (k ∷ ks) [] end n paired within = cc
span_there (k ∷ ks) (s ∷ member_starts) end zero paired within = refl
span_there (k ∷ ks) (s ∷ member_starts) end (suc n) paired within =
    span_there ks member_starts end n (omega (arith, paired)) (omega (arith, within))

pub next_there : (ks : List Key) (member_starts : List ℕ) (end : ℕ) (k : List ℕ) (places : List ℕ)
    → length ks ≡ length member_starts → first_index_has_key ks k places ≡ next_has_key k (spans_at (spans_from ks member_starts end) places)
next_there ks member_starts end k [] paired = refl
next_there ks member_starts end k (n ∷ places) paired = ap (λ l. bytes_eq l k) (sym (key_there ks member_starts end n paired))

pub next_first : (ks : List Key) (k places : List ℕ) (at n : ℕ) → suc at < length places
    → n ≡ get_or places (suc at) n → bytes_eq (key_at_or_empty ks n) k ≡ first_index_has_key ks k (drop (suc at) places)
next_first ks k places at n within is =
    sym (ap (first_index_has_key ks k) (drop-cons places (suc at) n within
    ∙ ap (λ m. m ∷ drop (suc (suc at)) places) (sym is)))

-- the piece at the next place, and those after it
pub next_picked : (ps : List MemberSpan) (places : List ℕ) (at n : ℕ) (p : MemberSpan) → at < length places
    → n ≡ get_or places at n → p ≡ span_at_or_empty ps n → spans_at ps (drop at places) ≡ p ∷ spans_at ps (drop (suc at) places)
next_picked ps places at n p within is span =
    let rest = drop (suc at) places in
    ap (spans_at ps) (drop-cons places at n within ∙ ap (λ m. m ∷ rest) (sym is))
    ∙ ap (λ q. q ∷ spans_at ps rest) (sym span)

pub place_below : (ks : List Key) (places : List ℕ) (at n : ℕ) → at < length places → n ≡ get_or places at n
    → All (λ m. m < length ks) places → n < length ks
place_below ks places at n within is all =
    subst (λ m. m < length ks) (sym is) (All-get_or (λ m. m < length ks) places at n within all)

-- ---- what has a key

module _ (key_of : ℕ → List ℕ) where
  abbrev has_key : List ℕ → ℕ → Bool
  has_key k n = bytes_eq k (key_of n)

  own_key : (k : List ℕ) (n : ℕ) (ns ms : List ℕ) → filter (has_key k) ms ≡ n ∷ ns → k ≡ key_of n
  own_key k n ns ms is =
      let all = subst (All (λ m. has_key k m ≡ true)) is (filter_passes (has_key k) ms) in
      (bytes_eq-Decides k (key_of n)).0 (All-head (λ m. has_key k m ≡ true) n ns all)

  of_each_key : (old new : List ℕ) → IsStableByKey key_of old new → (k : List ℕ)
      → filter (has_key k) new ≡ filter (has_key k) old
  of_each_key old new stable k = by _ _ refl refl
    where
      by : (xs ys : List ℕ) → filter (has_key k) old ≡ xs → filter (has_key k) new ≡ ys
          → filter (has_key k) new ≡ filter (has_key k) old
      by [] [] h i = i ∙ sym h
      by (x ∷ xs) ys h i =
          subst (λ l. filter (has_key l) new ≡ filter (has_key l) old) (sym (own_key k x xs old h)) (stable x)
      by [] (y ∷ ys) h i =
          subst (λ l. filter (has_key l) new ≡ filter (has_key l) old) (sym (own_key k y ys new i)) (stable y)

  module _ (span_of : ℕ → MemberSpan) (own : (n : ℕ) → span_key (span_of n) ≡ key_of n) where
    one_more : (b : Bool) (n : ℕ) (ns : List ℕ)
        → cond b (span_of n ∷ map span_of ns) (map span_of ns) ≡ map span_of (cond b (n ∷ ns) ns)
    one_more true n ns = refl
    one_more false n ns = refl

    of_key : (p : MemberSpan) (ns : List ℕ)
        → filter (have_equal_keys span_key p) (map span_of ns) ≡ map span_of (filter (has_key (span_key p)) ns)
    of_key p [] = refl
    of_key p (n ∷ ns) =
        let here = has_key (span_key p) n in
        let left = filter (have_equal_keys span_key p) (map span_of ns) in
        ap (λ k. cond (bytes_eq (span_key p) k) (span_of n ∷ left) left) (own n)
        ∙ ap (λ qs. cond here (span_of n ∷ qs) qs) (of_key p ns)
        ∙ one_more here n (filter (has_key (span_key p)) ns)

    stable_spans : (old new : List ℕ) → IsStableByKey key_of old new
        → IsStableByKey span_key (map span_of old) (map span_of new)
    stable_spans old new stable p =
        of_key p new ∙ ap (map span_of) (of_each_key old new stable (span_key p)) ∙ sym (of_key p old)

-- ---- places

one_longer : (first n : ℕ) → range_with_len first (suc n) ≡ range_with_len first n ++ (first + n) ∷ []
one_longer first zero = ap (λ k. k ∷ []) (plus_none first)
  where
    plus_none : (n : ℕ) → n ≡ n + 0
    plus_none n = omega arith
one_longer first (suc n) =
    ap (λ l. first ∷ l) (one_longer (first + 1) n ∙ ap (λ k. range_with_len (first + 1) n ++ k ∷ []) (plus_one first n))
  where
    plus_one : (m n : ℕ) → m + 1 + n ≡ m + suc n
    plus_one m n = omega arith

pub next_place : (n : ℕ) → range_with_len 0 (suc n) ≡ range_with_len 0 n ++ n ∷ []
next_place n = one_longer 0 n ∙ ap (λ k. range_with_len 0 n ++ k ∷ []) (omega arith)

below : (first n most : ℕ) → first + n ≤ most → All (λ i. i < most) (range_with_len first n)
below first zero most h = All-nil (λ i. i < most)
below first (suc n) most h =
    All-cons (λ i. i < most) first (range_with_len (first + 1) n) (omega (arith, h))
    (below (first + 1) n most (omega (arith, h)))

pub all_below : (ks : List Key) (places : List ℕ) → AreIndexesByKey ks places → All (λ n. n < length ks) places
all_below ks places located =
    let all = range_with_len 0 (length ks) in
    All-permutation (λ n. n < length ks) all places located.0 (below 0 (length ks) (length ks) (omega arith))

pub placed_first : (ks : List Key) (places : List ℕ) → places ≡ range_with_len 0 (length ks) → AreIndexesByKey ks places
placed_first ks places is =
    subst (AreIndexesByKey ks) (sym is) (IsPermutation-refl (range_with_len 0 (length ks)), λ n. refl)

pub placed_again : (ks : List Key) (old new : List ℕ) → IsStableByKey (key_at_or_empty ks) old new → IsPermutation old new
    → AreIndexesByKey ks old → AreIndexesByKey ks new
placed_again ks old new stable same located =
    (IsPermutation-trans (range_with_len 0 (length ks)) old new located.0 same, λ n. stable n ∙ located.1 n)

-- pieces that are joined by their places are in order
pub placed_in_order : (ks : List Key) (member_starts : List ℕ) (end : ℕ) (places texts written : List ℕ)
    → length ks ≡ length member_starts → AreIndexesByKey ks places → IsTextOfSpans (spans_at (spans_from ks member_starts end) places) texts written
    → IsSortedObject (spans_from ks member_starts end) texts written
placed_in_order ks member_starts end places texts written paired located joined =
    let ps = spans_from ks member_starts end in
    let all = range_with_len 0 (length ks) in
    let new = spans_at ps places in
    let whole : spans_at ps all ≡ ps =
    ap (λ n. spans_at ps (range_with_len 0 n)) (sym (spans_long ks member_starts end paired))
    ∙ sym (fill_by_all (span_at_or_empty ps) ps (length ps) empty_span refl (λ n h. refl)) in
    let stable = stable_spans (key_at_or_empty ks) (span_at_or_empty ps) (λ n. key_there ks member_starts end n paired) all places located.1 in (
      new,
      subst (λ qs. IsStableByKey span_key qs new) whole stable,
      subst (λ qs. IsPermutation qs new) whole (IsPermutation-map (span_at_or_empty ps) all places located.0),
      joined.0,
      joined.1,
    )
