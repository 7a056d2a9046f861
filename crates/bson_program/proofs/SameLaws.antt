-- The lines of two outputs.
use Rattle.std.proofs.Common.{◌≡◌, ◌∙◌, ◌++◌, ◌+◌, ◌<◌, ℕ, suc, Bool, true, false, not, cond, List, [], ◌∷◌, Bor, ap, arith}
use Rattle.std.proofs.Common.{rules, zero-add, append_assoc, drop, get_or, length, map, refl, subst, sym, take, nat_eq}
use Rattle.std.proofs.lemmas.Cmp.{nat_list_cmp_total}
use Rattle.std.proofs.lemmas.List.{map-append, get_or-map, length-map, take_more}
use Rattle.std.proofs.lemmas.List.Sorted.{IsPermutation-map, IsPermutation-sym, IsPermutation-trans, ranks_by, sorted_far, sum_by-IsPermutation}
use Rattle.std.proofs.lemmas.List.Sums.{sum_by-cons}
use Rattle.std.proofs.lemmas.Map.Text.{is_eq-slice_cmp}
use Rattle.std.proofs.lemmas.Slice.Eq.{bytes_eq-Decides}
use Rattle.std.specs.Cmp.Lexicographic.{pointwise, slice_cmp}
use Rattle.std.specs.List.{sum_by}
use Rattle.std.specs.List.Sorted.{IsPermutation, IsSorted, IsSortedBy}
use Rattle.std.specs.Ordering.{is_eq, is_lt, nat_cmp, ordering_reverse}
use Rattle.std.specs.Prelude.{bytes_eq}
use Rattle.std.specs.declared.cmp.Ordering.{Ordering}
use Rattle.std.specs.declared.cmp.Ordering.TheVariants.{Less, Equal, Greater}
use Rattle.bson_program.proofs.Verdicts.{first}
use Rattle.bson_program.specs.Messages.{line_len, split_lines}
use Rattle.bson_program.specs.Comparison.{FirstDifferenceAt, IsDifference}
use Rattle.bson_program.specs.declared.compare_outputs.Difference.{Difference}
use Rattle.bson_program.specs.declared.compare_outputs.Difference.TheVariants.{AtValue, UnequalCounts, EqualCounts}

-- the bytes of lines
abbrev pub texts : List (Bor (List ℕ)) → List (List ℕ)
texts lines = map (λ line. line.now) lines

-- ---- the lines of an output

pub one_line_more : (rest : List ℕ) (lines : List (Bor (List ℕ))) (line : Bor (List ℕ)) (others whole : List ℕ) (n : ℕ)
    → 0 < length rest → n ≡ line_len rest → line.now ≡ take n rest → others ≡ drop n rest
    → texts lines ++ split_lines rest ≡ split_lines whole → texts (lines ++ line ∷ []) ++ split_lines others ≡ split_lines whole
one_line_more [] lines line others whole n some is front back before = absurd (omega arith)
one_line_more (x ∷ xs) lines line others whole n some is front back before =
    let rest = x ∷ xs in
    let parts : split_lines rest ≡ line.now ∷ split_lines others =
    first x xs ∙ ap (λ k. take k rest ∷ split_lines (drop k rest)) (sym is)
    ∙ ap (λ l. l ∷ split_lines (drop n rest)) (sym front) ∙ ap (λ l. line.now ∷ split_lines l) (sym back) in
    let moved : texts (lines ++ line ∷ []) ++ split_lines others ≡ texts lines ++ (line.now ∷ split_lines others) = simp (map-append, append_assoc) in
    moved ∙ ap (λ l. texts lines ++ l) (sym parts) ∙ before

-- ---- the first difference

text_at : (lines : List (Bor (List ℕ))) (at : ℕ) (d : Bor (List ℕ)) → at < length lines
    → get_or (texts lines) at [] ≡ (get_or lines at d).now
text_at lines at d within = get_or-map (λ line. line.now) lines at d [] within

pub same_more : (xs ys : List (Bor (List ℕ))) (at : ℕ) (d : Bor (List ℕ)) → at < length xs → at < length ys
    → not (pointwise nat_eq (get_or xs at d).now (get_or ys at d).now) ≡ false
    → take at (texts xs) ≡ take at (texts ys) → take (at + 1) (texts xs) ≡ take (at + 1) (texts ys)
same_more xs ys at d in_xs in_ys test before =
    let equal : bytes_eq (get_or xs at d).now (get_or ys at d).now ≡ true = search rules in
    let same : get_or (texts xs) at [] ≡ get_or (texts ys) at [] =
    text_at xs at d in_xs ∙ (bytes_eq-Decides (get_or xs at d).now (get_or ys at d).now).0 equal ∙ sym (text_at ys at d in_ys) in
    take_more (texts xs) at [] (subst (λ n. at < n) (sym (length-map xs (λ line. line.now))) in_xs)
    ∙ ap (λ l. l ++ get_or (texts xs) at [] ∷ []) before ∙ ap (λ l. take at (texts ys) ++ l ∷ []) same
    ∙ sym (take_more (texts ys) at [] (subst (λ n. at < n) (sym (length-map ys (λ line. line.now))) in_ys))

pub differ_here : (xs ys : List (Bor (List ℕ))) (at : ℕ) (d : Bor (List ℕ)) → at < length xs → at < length ys
    → not (pointwise nat_eq (get_or xs at d).now (get_or ys at d).now) ≡ true
    → take at (texts xs) ≡ take at (texts ys) → FirstDifferenceAt at (texts xs) (texts ys)
differ_here xs ys at d in_xs in_ys test before = record {
  in_first = subst (λ n. at < n) (sym (length-map xs (λ line. line.now))) in_xs;
  in_second = subst (λ n. at < n) (sym (length-map ys (λ line. line.now))) in_ys;
  same_before = before;
  differ = λ same.
      let equal : bytes_eq (get_or xs at d).now (get_or ys at d).now ≡ true =
      (bytes_eq-Decides (get_or xs at d).now (get_or ys at d).now).1 (sym (text_at xs at d in_xs) ∙ same ∙ text_at ys at d in_ys) in
      absurd cc;
}

-- ---- sorted lines

-- the order of lines
abbrev by_bytes : List ℕ → List ℕ → Ordering
by_bytes = slice_cmp nat_cmp

-- no line is less than the one before it
abbrev Rises : List (List ℕ) → Type 0
Rises lines = IsSortedBy (λ x y. is_lt (by_bytes x y)) lines

-- how many lines pass a test
abbrev count : (List ℕ → Bool) → List (List ℕ) → ℕ
count p lines = sum_by (λ x. cond (p x) 1 0) lines

rest_rises : (x : List ℕ) (xs : List (List ℕ)) → Rises (x ∷ xs) → Rises xs
rest_rises x xs up = λ k d low within.
    let next : suc k + 1 ≡ suc (k + 1) = omega arith in
    subst (λ n. is_lt (by_bytes (get_or (x ∷ xs) n d) (get_or xs k d)) ≡ false) next (up (suc k) d (omega arith) (omega arith))

none_pass : (p : List ℕ → Bool) (xs : List (List ℕ)) → ((j : ℕ) → j < length xs → p (get_or xs j []) ≡ false) → count p xs ≡ 0
none_pass p [] none = refl
none_pass p (x ∷ xs) none =
    let here : p x ≡ false = none 0 (omega arith) in
    let others : count p xs ≡ 0 = none_pass p xs (λ j within. none (suc j) (omega arith)) in
    sum_by-cons (λ x. cond (p x) 1 0) x xs ∙ ap (λ t. cond t 1 0 + count p xs) here ∙ zero-add (count p xs) ∙ others

-- no line is less than the first
least : (y : List ℕ) (ys : List (List ℕ)) → Rises (y ∷ ys) → count (λ z. is_lt (by_bytes z y)) (y ∷ ys) ≡ 0
least y ys up = none_pass (λ z. is_lt (by_bytes z y)) (y ∷ ys)
    (λ j within. sorted_far (λ a b. is_lt (by_bytes a b)) (ranks_by nat_list_cmp_total (λ a. a)) (y ∷ ys) up 0 j [] (omega arith) within)

by_head : (t : Bool) (n : ℕ) → cond t 1 0 + n ≡ 0 → t ≡ false
by_head true n e = absurd (omega arith)
by_head false n e = refl

head_fails : (p : List ℕ → Bool) (x : List ℕ) (xs : List (List ℕ)) → count p (x ∷ xs) ≡ 0 → p x ≡ false
head_fails p x xs none = by_head (p x) (count p xs) (sym (sum_by-cons (λ x. cond (p x) 1 0) x xs) ∙ none)

neither_less : (x y : List ℕ) (one other : Ordering) → one ≡ by_bytes x y → other ≡ by_bytes y x → is_lt one ≡ false
    → is_lt other ≡ false → one ≡ ordering_reverse other → one ≡ Equal
neither_less x y Less other e f g h i = absurd cc
neither_less x y Equal other e f g h i = refl
neither_less x y Greater Less e f g h i = absurd cc
neither_less x y Greater Equal e f g h i = absurd cc
neither_less x y Greater Greater e f g h i = absurd cc

same_line : (x y : List ℕ) → is_lt (by_bytes x y) ≡ false → is_lt (by_bytes y x) ≡ false → x ≡ y
same_line x y one other =
    let tied : by_bytes x y ≡ Equal = neither_less x y (by_bytes x y) (by_bytes y x) refl refl one other
    (nat_list_cmp_total.antisymm x y) in
    (bytes_eq-Decides x y).0 (sym (is_eq-slice_cmp x y) ∙ ap is_eq tied)

without_heads : (a b m n : ℕ) → a ≡ b → a + m ≡ b + n → m ≡ n
without_heads a b m n heads both = omega arith

same_sorted : (xs ys : List (List ℕ)) → Rises xs → Rises ys → ((p : List ℕ → Bool) → count p xs ≡ count p ys) → xs ≡ ys
same_sorted [] [] up down counts = refl
same_sorted [] (y ∷ ys) up down counts =
    absurd (omega (arith, counts (λ z. true), sum_by-cons (λ (z : List ℕ). 1) y ys))
same_sorted (x ∷ xs) [] up down counts =
    absurd (omega (arith, counts (λ z. true), sum_by-cons (λ (z : List ℕ). 1) x xs))
same_sorted (x ∷ xs) (y ∷ ys) up down counts =
    let one : is_lt (by_bytes x y) ≡ false =
    head_fails (λ z. is_lt (by_bytes z y)) x xs (counts (λ z. is_lt (by_bytes z y)) ∙ least y ys down) in
    let other : is_lt (by_bytes y x) ≡ false =
    head_fails (λ z. is_lt (by_bytes z x)) y ys (sym (counts (λ z. is_lt (by_bytes z x))) ∙ least x xs up) in
    let head : x ≡ y = same_line x y one other in
    let others : (p : List ℕ → Bool) → count p xs ≡ count p ys = λ p.
    let heads : cond (p x) 1 0 ≡ cond (p y) 1 0 = ap (λ z. cond (p z) 1 0) head in
    let both : cond (p x) 1 0 + count p xs ≡ cond (p y) 1 0 + count p ys =
    sym (sum_by-cons (λ z. cond (p z) 1 0) x xs) ∙ counts p ∙ sum_by-cons (λ z. cond (p z) 1 0) y ys in
    without_heads (cond (p x) 1 0) (cond (p y) 1 0) (count p xs) (count p ys) heads both in
    ap (λ z. z ∷ xs) head ∙ ap (λ l. y ∷ l) (same_sorted xs ys (rest_rises x xs up) (rest_rises y ys down) others)

-- ---- the sorted lines of two outputs

rises_texts : (xs : List (Bor (List ℕ))) → IsSorted (λ x y. by_bytes x.now y.now) xs → Rises (texts xs)
rises_texts xs up = λ k d low within.
    let next : k + 1 < length xs = subst (λ n. k + 1 < n) (length-map xs (λ line. line.now)) within in
    let e : Bor (List ℕ) = record { ref_ptr = (0, 0); now = d } in
    let here : k < length xs = omega arith in
    subst (λ x. is_lt (by_bytes x (get_or (texts xs) k d)) ≡ false) (sym (get_or-map (λ line. line.now) xs (k + 1) e d next))
    (subst (λ x. is_lt (by_bytes (get_or xs (k + 1) e).now x) ≡ false) (sym (get_or-map (λ line. line.now) xs k e d here))
    (up k e low next))

pub same_from_sorted : (xs ys us vs : List (Bor (List ℕ))) → IsPermutation xs us → IsPermutation ys vs → texts us ≡ texts vs
    → IsPermutation (texts xs) (texts ys)
same_from_sorted xs ys us vs moved other same =
    IsPermutation-trans (texts xs) (texts vs) (texts ys)
    (subst (IsPermutation (texts xs)) same (IsPermutation-map (λ line. line.now) xs us moved))
    (IsPermutation-sym (texts ys) (texts vs) (IsPermutation-map (λ line. line.now) ys vs other))

pub sorted_from_same : (xs ys us vs : List (Bor (List ℕ))) → IsPermutation xs us → IsPermutation ys vs
    → IsSorted (λ x y. by_bytes x.now y.now) us → IsSorted (λ x y. by_bytes x.now y.now) vs
    → IsPermutation (texts xs) (texts ys) → texts us ≡ texts vs
sorted_from_same xs ys us vs moved other up down same =
    let joined : IsPermutation (texts us) (texts vs) =
    IsPermutation-trans (texts us) (texts xs) (texts vs)
    (IsPermutation-sym (texts xs) (texts us) (IsPermutation-map (λ line. line.now) xs us moved))
    (IsPermutation-trans (texts xs) (texts ys) (texts vs) same (IsPermutation-map (λ line. line.now) ys vs other)) in
    same_sorted (texts us) (texts vs) (rises_texts us up) (rises_texts vs down)
    (λ p. sym (sum_by-IsPermutation (λ x. cond (p x) 1 0) (texts us) (texts vs) joined))

-- lines with a difference are not the same
differs : (first second : List (List ℕ)) (it : Difference) → IsDifference first second it → first ≡ second → ⊥
differs first second (AtValue number) is same = is.2.differ (ap (λ l. get_or l is.0 []) same)
differs first second (UnequalCounts count other) is same = is.differ (is.in_first ∙ ap length same ∙ sym is.in_second)
differs first second (EqualCounts count) is same = is

pub differ_sorted : (xs ys us vs : List (Bor (List ℕ))) (it : Difference) → IsPermutation xs us → IsPermutation ys vs
    → IsSorted (λ x y. by_bytes x.now y.now) us → IsSorted (λ x y. by_bytes x.now y.now) vs
    → IsDifference (texts us) (texts vs) it → IsPermutation (texts xs) (texts ys) → ⊥
differ_sorted xs ys us vs it moved other up down is same =
    differs (texts us) (texts vs) it is (sorted_from_same xs ys us vs moved other up down same)
