-- Zeros before and after the digits of a number.
use Rattle.std.proofs.Common.{◌≡◌, ◌≢◌, ℕ, zero, suc, ◌+◌, ◌*◌, ◌^◌, ◌<◌, ◌≤◌, inl, inr, true, false, eqb, List, []}
use Rattle.std.proofs.Common.{◌∷◌, ◌++◌, length, take, replicate, refl, sym, ap, ◌∙◌, arith, Bool, cond, ◌&&◌, ◌==◌}
use Rattle.std.proofs.lemmas.Bool.{cases_Bool, and_parts, eqb-true}
use Rattle.std.proofs.lemmas.Bool.Decides.{nat_tests}
use Rattle.std.proofs.lemmas.List.{take-append-drop, length-replicate}
use Rattle.std.proofs.lemmas.Str.Parse.{digit_from_value}
use Rattle.std.proofs.Math.Nat.{mul-le-mul_right, pow-suc}
use Rattle.std.proofs.Math.Numerals.{one-add}
use Rattle.std.specs.Char.{digit_value}
use Rattle.std.specs.List.{list_all, prefix_len}
use Rattle.std.specs.Str.Parse.{AllDigits, digits_value, digits_value_after}
use Rattle.bson_decimal.specs.NumeralGrammar.{is_zero, without_leading_zeros}
use Rattle.bson_decimal.proofs.Tens.{tens-pos}

same_next : (m n : ℕ) → (1 + m == suc n) ≡ (m == n)
same_next m n = grind (arith, nat_tests)

-- all bytes are zeros if and only if they begin with as many zeros
pub all_zeros : (xs : List ℕ) → (prefix_len is_zero xs == length xs) ≡ list_all is_zero xs
all_zeros [] = refl
all_zeros (x ∷ xs) = at (is_zero x) (all_zeros xs) where
  at : (b : Bool) → (prefix_len is_zero xs == length xs) ≡ list_all is_zero xs
      → (cond b (1 + prefix_len is_zero xs) 0 == length (x ∷ xs)) ≡ (b && list_all is_zero xs)
  at true rest = same_next (prefix_len is_zero xs) (length xs) ∙ rest
  at false rest = grind (arith, nat_tests)

pub value_after : (n : ℕ) (ds : List ℕ) → digits_value_after 10 n ds ≡ n * 10 ^ length ds + digits_value 10 ds
value_after n [] = omega arith
value_after n (c ∷ cs) =
    let a = value_after (n * 10 + digit_value c) cs in
    let b = value_after (0 * 10 + digit_value c) cs in
    omega (arith, ap (λ x. n * x) (pow-suc 10 (length cs)))

pub value-cons : (c : ℕ) (cs : List ℕ) → digits_value 10 (c ∷ cs) ≡ digit_value c * 10 ^ length cs + digits_value 10 cs
value-cons c cs = omega (arith, value_after (0 * 10 + digit_value c) cs)

after-append : (n : ℕ) (xs ys : List ℕ)
    → digits_value_after 10 n (xs ++ ys) ≡ digits_value_after 10 (digits_value_after 10 n xs) ys
after-append n [] ys = refl
after-append n (x ∷ xs) ys = after-append (n * 10 + digit_value x) xs ys

pub value-append : (xs ys : List ℕ)
    → digits_value 10 (xs ++ ys) ≡ digits_value 10 xs * 10 ^ length ys + digits_value 10 ys
value-append xs ys = after-append 0 xs ys ∙ value_after _ ys

pub value-zeros : (k : ℕ) → digits_value 10 (replicate k 48) ≡ 0
value-zeros zero = refl
value-zeros (suc k) = value-zeros k

-- digits with k zeros after them
pub value-behind : (xs : List ℕ) (k : ℕ) → digits_value 10 (xs ++ replicate k 48) ≡ digits_value 10 xs * 10 ^ k
value-behind xs k = value-append xs (replicate k 48) ∙ rw (length-replicate, value-zeros k) (omega arith)

-- and before them
pub value-before : (k : ℕ) (xs : List ℕ) → digits_value 10 (replicate k 48 ++ xs) ≡ digits_value 10 xs
value-before zero xs = refl
value-before (suc k) xs = value-before k xs

pub AllDigits-append : (xs ys : List ℕ) → AllDigits 10 xs → AllDigits 10 ys → AllDigits 10 (xs ++ ys)
AllDigits-append [] ys p q = q
AllDigits-append (x ∷ xs) ys p q = (p.0, AllDigits-append xs ys p.1 q)

pub AllDigits-parts : (xs ys : List ℕ) → AllDigits 10 (xs ++ ys) → AllDigits 10 xs × AllDigits 10 ys
AllDigits-parts [] ys h = (tt, h)
AllDigits-parts (x ∷ xs) ys h = let r = AllDigits-parts xs ys h.1 in ((h.0, r.0), r.1)

pub AllDigits-zeros : (k : ℕ) → AllDigits 10 (replicate k 48)
AllDigits-zeros zero = tt
AllDigits-zeros (suc k) = (omega arith, AllDigits-zeros k)

-- the test for zeros
pub zeros-are : (xs : List ℕ) → list_all is_zero xs ≡ true → xs ≡ replicate (length xs) 48
zeros-are [] e = refl
zeros-are (x ∷ xs) e =
    let p = and_parts (eqb x 48) (list_all is_zero xs) e in
    let first = eqb-true x 48 p.0 in
    let rest = zeros-are xs p.1 in
    λ i. first i ∷ rest i

pub zeros-not : (xs : List ℕ) → AllDigits 10 xs → list_all is_zero xs ≡ false → 0 < digits_value 10 xs
zeros-not [] h e = cc
zeros-not (x ∷ xs) h e =
    elim (cases_Bool (eqb x 48)) [
      | inl z ↦ omega (arith, value-cons x xs, zeros-not xs h.1 (rw z at e))
      | inr z ↦
          let r = digit_from_value x h.0 in
          let low = r.0 in
          let high = r.1 in
          let large : 1 ≤ digit_value x = grind (arith, nat_tests) in
          omega (arith, value-cons x xs, mul-le-mul_right (10 ^ length xs) large, tens-pos (length xs))
    ]

-- leading zeros
zeros-front : (xs : List ℕ) → take (prefix_len is_zero xs) xs ≡ replicate (prefix_len is_zero xs) 48
zeros-front [] = refl
zeros-front (x ∷ xs) =
    elim (cases_Bool (eqb x 48)) [
      | inl z ↦ rw (z, one-add) (let first = eqb-true x 48 z in let rest = zeros-front xs in λ i. first i ∷ rest i)
      | inr z ↦ rw z refl
    ]

pub leading-zeros : (xs : List ℕ) → xs ≡ replicate (prefix_len is_zero xs) 48 ++ without_leading_zeros xs
leading-zeros xs = sym (take-append-drop (prefix_len is_zero xs) xs)
    ∙ ap (λ ys. ys ++ without_leading_zeros xs) (zeros-front xs)

-- a first digit that is no zero
pub first-weight : (x : ℕ) (xs : List ℕ) → AllDigits 10 (x ∷ xs) → x ≢ 48 → 10 ^ length xs ≤ digits_value 10 (x ∷ xs)
first-weight x xs h other =
    let r = digit_from_value x h.0 in
    let low = r.0 in
    let high = r.1 in
    let large : 1 ≤ digit_value x = grind (arith, nat_tests) in
    omega (arith, value-cons x xs, mul-le-mul_right (10 ^ length xs) large)
