-- Two ascending lists with the same elements are one, so a sort gives the ascending list.
use Rattle.std.proofs.Common.{◌≡◌, ℕ, ◌+◌, ◌<◌, ◌≤◌, zero, suc, true, false, cond, List, [], ◌∷◌, length, get_or, refl}
use Rattle.std.proofs.Common.{sym, ap, ◌∙◌, arith, inl, inr, nat_eq, nat_le, nat_cmp, IsPermutation, IsSorted}
use Rattle.std.proofs.lemmas.Bool.{cases_order, leb-true, leb-false, cases_Bool}
use Rattle.std.proofs.lemmas.Bool.Decides.{nat_tests}
use Rattle.std.proofs.lemmas.List.Sorted.{sum_by-IsPermutation, IsNonDecreasingBy-from_sort, IsPermutation-refl}
use Rattle.std.proofs.lemmas.List.Sorted.{IsPermutation-cons, IsPermutation-middle, IsPermutation-trans}
use Rattle.std.proofs.lemmas.List.Sums.{sum_by-cons}
use Rattle.std.specs.List.{sum_by, AllByRecursion}
use Rattle.std.specs.List.Sorted.{IsNonDecreasing}
use Rattle.bson_types.specs.Regex.{insert_sorted, ascending_numbers}

abbrev Rises : List ℕ → Type 0
Rises [] = Unit {0}
Rises (x ∷ xs) = AllByRecursion (λ y. x ≤ y) xs × Rises xs

abbrev tally : ℕ → ℕ → ℕ
tally c y = cond (nat_eq y c) 1 0

abbrev count : ℕ → List ℕ → ℕ
count c [] = 0
count c (x ∷ xs) = tally c x + count c xs

count-sum : (c : ℕ) (xs : List ℕ) → sum_by (tally c) xs ≡ count c xs
count-sum c [] = refl
count-sum c (x ∷ xs) = sum_by-cons (tally c) x xs ∙ ap (λ n. tally c x + n) (count-sum c xs)

tally-same : (c : ℕ) → tally c c ≡ 1
tally-same c = grind (arith, nat_tests)

tally-apart : (c y : ℕ) → (y ≡ c → ⊥) → tally c y ≡ 0
tally-apart c y h = grind (arith, nat_tests)

-- ---- what insert_sorted keeps

count-insert_sorted : (c n : ℕ) (xs : List ℕ) → count c (insert_sorted n xs) ≡ tally c n + count c xs
count-insert_sorted c n [] = refl
count-insert_sorted c n (x ∷ xs) = elim (cases_Bool (nat_le n x)) [
  | inl e ↦ rw e refl
  | inr e ↦ let more = count-insert_sorted c n xs in rw e (omega (arith, more))
]

pub count-ascending_numbers : (c : ℕ) (xs : List ℕ) → count c (ascending_numbers xs) ≡ count c xs
count-ascending_numbers c [] = refl
count-ascending_numbers c (x ∷ xs) = count-insert_sorted c x (ascending_numbers xs)
    ∙ ap (λ n. tally c x + n) (count-ascending_numbers c xs)

all-insert_sorted : (P : ℕ → Type 0) (n : ℕ) (xs : List ℕ) → P n → AllByRecursion P xs
    → AllByRecursion P (insert_sorted n xs)
all-insert_sorted P n [] h all = (h, tt)
all-insert_sorted P n (x ∷ xs) h all =
    elim (nat_le n x) as (λ b. AllByRecursion P (cond b (n ∷ x ∷ xs) (x ∷ insert_sorted n xs))) [
      | true ↦ (h, all)
      | false ↦ (all.0, all-insert_sorted P n xs h all.1)
    ]

all-weaker : (P Q : ℕ → Type 0) → ((y : ℕ) → P y → Q y) → (xs : List ℕ) → AllByRecursion P xs → AllByRecursion Q xs
all-weaker P Q f [] all = tt
all-weaker P Q f (x ∷ xs) all = (f x all.0, all-weaker P Q f xs all.1)

rises-insert_sorted : (n : ℕ) (xs : List ℕ) → Rises xs → Rises (insert_sorted n xs)
rises-insert_sorted n [] up = (tt, tt)
rises-insert_sorted n (x ∷ xs) up = elim (cases_Bool (nat_le n x)) [
  | inl e ↦ let le = leb-true n x e in
      rw e ((le, all-weaker (λ y. x ≤ y) (λ y. n ≤ y) (λ y h. omega arith) xs up.0), up)
  | inr e ↦ let gt = leb-false n x e in
      rw e (all-insert_sorted (λ y. x ≤ y) n xs (omega arith) up.0, rises-insert_sorted n xs up.1)
]

pub rises-ascending_numbers : (xs : List ℕ) → Rises (ascending_numbers xs)
rises-ascending_numbers [] = tt
rises-ascending_numbers (x ∷ xs) = rises-insert_sorted x (ascending_numbers xs) (rises-ascending_numbers xs)

pub all-ascending_numbers : (P : ℕ → Type 0) (xs : List ℕ) → AllByRecursion P xs
    → AllByRecursion P (ascending_numbers xs)
all-ascending_numbers P [] all = tt
all-ascending_numbers P (x ∷ xs) all = all-insert_sorted P x _ all.0 (all-ascending_numbers P xs all.1)

-- ---- one ascending list

none-above : (c : ℕ) (xs : List ℕ) → AllByRecursion (λ y. c < y) xs → count c xs ≡ 0
none-above c [] all = refl
none-above c (x ∷ xs) all =
    let first : tally c x ≡ 0 = tally-apart c x (λ e. let h : c < x = all.0 in omega arith) in
    omega (arith, first, none-above c xs all.1)

head-missing : (x y : ℕ) (ys : List ℕ) → x < y → AllByRecursion (λ z. y ≤ z) ys → count x (y ∷ ys) ≡ 0
head-missing x y ys lt up = none-above x (y ∷ ys) (lt, all-weaker (λ z. y ≤ z) (λ z. x < z) (λ z h. omega arith) ys up)

some-here : (x : ℕ) (xs : List ℕ) → 0 < count x (x ∷ xs)
some-here x xs = omega (arith, tally-same x)

pub rises-one : (xs ys : List ℕ) → Rises xs → Rises ys → ((c : ℕ) → count c xs ≡ count c ys) → xs ≡ ys
rises-one [] [] up vp same = refl
rises-one [] (y ∷ ys) up vp same = absurd (omega (arith, same y, some-here y ys))
rises-one (x ∷ xs) [] up vp same = absurd (omega (arith, same x, some-here x xs))
rises-one (x ∷ xs) (y ∷ ys) up vp same = elim (cases_order x y) [
  | inl e ↦
      let more = rises-one xs ys up.1 vp.1 (λ c. let h = rw e at (same c) in omega (arith, h)) in
      rw (e, more) refl
  | inr (inl lt) ↦ absurd (omega (arith, same x, some-here x xs, head-missing x y ys lt vp.0))
  | inr (inr gt) ↦ absurd (omega (arith, same y, some-here y ys, head-missing y x xs gt up.0))
]

pub ascending_numbers-again : (xs : List ℕ) → ascending_numbers (ascending_numbers xs) ≡ ascending_numbers xs
ascending_numbers-again xs =
    rises-one _ _ (rises-ascending_numbers (ascending_numbers xs)) (rises-ascending_numbers xs)
    (λ c. count-ascending_numbers c (ascending_numbers xs))

all-from-reads : (x : ℕ) (xs : List ℕ) → ((i : ℕ) → i < length xs → x ≤ get_or xs i 0) → AllByRecursion (λ y. x ≤ y) xs
all-from-reads x [] h = tt
all-from-reads x (y ∷ xs) h = (h 0 (omega arith), all-from-reads x xs (λ i l. h (suc i) (omega arith)))

rises-from : (xs : List ℕ) → IsNonDecreasing xs → Rises xs
rises-from [] up = tt
rises-from (x ∷ xs) up = (
  all-from-reads x xs (λ i l. up 0 (suc i) 0 (omega arith) (omega arith)),
  rises-from xs (λ i j d l m. up (suc i) (suc j) d (omega arith) (omega arith)),
)

-- what a sort leaves is the ascending list
pub sorted-ascending_numbers : (xs ys : List ℕ) → IsPermutation xs ys → IsSorted nat_cmp ys → ys ≡ ascending_numbers xs
sorted-ascending_numbers xs ys same sorted =
    rises-one ys (ascending_numbers xs) (rises-from ys (IsNonDecreasingBy-from_sort (λ x. x) ys sorted))
    (rises-ascending_numbers xs)
    (λ c. sym (count-sum c ys) ∙ sum_by-IsPermutation (tally c) xs ys same ∙ count-sum c xs
    ∙ sym (count-ascending_numbers c xs))

-- ---- the ascending list rises, and has the same numbers

none-below : (x : ℕ) (xs : List ℕ) (i d : ℕ) → AllByRecursion (λ y. x ≤ y) xs → i < length xs → x ≤ get_or xs i d
none-below x [] i d all l = absurd (omega (arith, l))
none-below x (y ∷ ys) zero d all l = all.0
none-below x (y ∷ ys) (suc i) d all l = none-below x ys i d all.1 (omega (arith, l))

rises-to : (xs : List ℕ) → Rises xs → IsNonDecreasing xs
rises-to [] up i j d l m = absurd (omega (arith, m))
rises-to (x ∷ xs) up zero zero d l m = omega arith
rises-to (x ∷ xs) up zero (suc j) d l m = none-below x xs j d up.0 (omega (arith, m))
rises-to (x ∷ xs) up (suc i) zero d l m = absurd (omega (arith, l))
rises-to (x ∷ xs) up (suc i) (suc j) d l m = rises-to xs up.1 i j d (omega (arith, l)) (omega (arith, m))

same-insert_sorted : (n : ℕ) (xs : List ℕ) → IsPermutation (n ∷ xs) (insert_sorted n xs)
same-insert_sorted n [] = IsPermutation-refl (n ∷ [])
same-insert_sorted n (x ∷ xs) =
    elim (nat_le n x) as (λ b. IsPermutation (n ∷ x ∷ xs) (cond b (n ∷ x ∷ xs) (x ∷ insert_sorted n xs))) [
      | true ↦ IsPermutation-refl (n ∷ x ∷ xs)
      | false ↦
          let exchanged : IsPermutation (n ∷ x ∷ xs) (x ∷ n ∷ xs) = IsPermutation-middle (n ∷ []) x xs in
          IsPermutation-trans _ _ _ exchanged (IsPermutation-cons x _ _ (same-insert_sorted n xs))
    ]

same-ascending_numbers : (xs : List ℕ) → IsPermutation xs (ascending_numbers xs)
same-ascending_numbers [] = IsPermutation-refl []
same-ascending_numbers (x ∷ xs) =
    IsPermutation-trans _ _ _ (IsPermutation-cons x _ _ (same-ascending_numbers xs))
    (same-insert_sorted x (ascending_numbers xs))

pub ascending_meaning : (xs : List ℕ) → IsPermutation xs (ascending_numbers xs) × IsNonDecreasing (ascending_numbers xs)
ascending_meaning xs = (same-ascending_numbers xs, rises-to (ascending_numbers xs) (rises-ascending_numbers xs))
