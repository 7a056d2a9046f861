-- Where a text is cut.
use Rattle.std.proofs.Common.{◌≡◌, ℕ, ◌+◌, ◌-◌, ◌<◌, ◌≤◌, Bool, true, false, cond, zero, suc, ltb, leb, eqb, List}
use Rattle.std.proofs.Common.{length, get_or, ℤ, pos, neg_ℤ, ◌+ℤ◌, inl, inr, arith, refl, rules, tests, ap, ◌∙◌}
use Rattle.std.specs.Prelude.{position, Some, None}
use Rattle.std.specs.Option.{unwrap_or}
use Rattle.std.specs.Int.{w16, w32}
use mir.Val.{to_z, of_z}
use lib.IntN.{nat_abs}
use Rattle.std.specs.Prelude.{FitsSigned}
use Rattle.std.specs.List.{position_or_len}
use Rattle.std.specs.Str.Parse.{digits_value, without_leading_sign, starts_with_minus, IsNumeral, signed_digits_value}
use Rattle.std.proofs.lemmas.Bool.{cases_Bool, or_cases, and_parts, eqb-true, ltb-true, leb-true}
use Rattle.std.proofs.lemmas.Bool.Decides.{nat_tests}
use Rattle.std.proofs.lemmas.List.Sums.{passes_at_first, prefix_len-le-length}
use Rattle.std.proofs.lemmas.Int.{ints}
use Rattle.std.specs.Str.{all_ascii_digits}
use Rattle.bson_decimal.specs.ParseSteps.{is_exponent_mark, is_exponent, exponent_value}
use Rattle.bson_decimal.proofs.DigitTests.{AllDigits-from_test, test-from_AllDigits}

position-or : (p : ℕ → Bool) (xs : List ℕ) → unwrap_or (position p xs) (length xs) ≡ position_or_len p xs
position-or p xs =
    elim (cases_Bool (ltb (position_or_len p xs) (length xs))) [
      | inl e ↦ rw e refl
      | inr e ↦ rw e (grind (arith, nat_tests, prefix_len-le-length))
    ]

pub position_or_len-le : (p : ℕ → Bool) (xs : List ℕ) → position_or_len p xs ≤ length xs
position_or_len-le p xs = prefix_len-le-length _ xs

-- the place of the first of these bytes, given the place that was found, or else the length
pub first-place : (p : ℕ → Bool) (xs : List ℕ) (n : ℕ) → n ≡ unwrap_or (position p xs) (length xs)
    → (n ≡ position_or_len p xs) × (n ≤ length xs)
first-place p xs n is = let place = is ∙ position-or p xs in (place, rw place (position_or_len-le p xs))

pub mark-ascii : (b : ℕ) → is_exponent_mark b ≡ true → b < 128
mark-ascii b e = elim (or_cases (eqb b 101) (eqb b 69) e) [
  | inl t ↦ omega (arith, eqb-true b 101 t)
  | inr t ↦ omega (arith, eqb-true b 69 t)
]

pub mark_at-ascii : (xs : List ℕ) → position_or_len is_exponent_mark xs < length xs
    → get_or xs (position_or_len is_exponent_mark xs) 0 < 128
mark_at-ascii xs h = mark-ascii _ (passes_at_first is_exponent_mark xs 0 h)

-- what `parse` says of the text of an exponent, by its sign and the number of its digits
read-at : (negative : Bool) (v : ℕ) → FitsSigned w16 (cond negative (neg_ℤ (pos v)) (pos v))
    → (leb v (cond negative 32768 32767) ≡ true)
    × (nat_abs (to_z w32 (of_z w32 (to_z w32 (of_z w32 (cond negative (neg_ℤ (pos v)) (pos v))) +ℤ pos 32768)))
    ≡ cond negative (32768 - v) (32768 + v))
read-at true zero h = (refl, omega (arith, ints))
read-at true (suc v) h = let low = h.sfits in (search (rules, tests), omega (arith, ints))
read-at false v h = let low = h.sfits in (search (rules, tests), omega (arith, ints))

unread-at : (negative : Bool) (v : ℕ) → leb v (cond negative 32768 32767) ≡ true
    → FitsSigned w16 (cond negative (neg_ℤ (pos v)) (pos v))
unread-at true zero h = record { sfits = omega arith }
unread-at true (suc v) h = record { sfits = omega (arith, leb-true (suc v) 32768 h) }
unread-at false v h = record { sfits = omega (arith, leb-true v 32767 h) }

pub exponent-read : (bs : List ℕ) (x : ℤ)
    → IsNumeral 10 (without_leading_sign bs) × FitsSigned w16 (signed_digits_value 10 bs)
    → x ≡ signed_digits_value 10 bs
    → Some (nat_abs (to_z w32 (of_z w32 (to_z w32 (of_z w32 x) +ℤ pos 32768)))) ≡ exponent_value bs
unfolding exponent_value
exponent-read bs x h e =
    let r = read-at (starts_with_minus bs) (digits_value 10 (without_leading_sign bs)) h.1 in
    let some : ltb 0 (length (without_leading_sign bs)) ≡ true = search (rules, tests, h.0.0) in
    rw (e, some, test-from_AllDigits _ h.0.1, r.0) (ap Some r.1)

pub exponent-unread : (bs : List ℕ)
    → ¬ (IsNumeral 10 (without_leading_sign bs) × FitsSigned w16 (signed_digits_value 10 bs)) → None ≡ exponent_value bs
unfolding exponent_value
exponent-unread bs h =
    elim (cases_Bool (is_exponent bs)) [
      | inl e ↦
          let a = and_parts (ltb 0 (length (without_leading_sign bs))) _ e in
          let b = and_parts (all_ascii_digits (without_leading_sign bs)) _ a.1 in
          absurd (h ((ltb-true 0 _ a.0, AllDigits-from_test _ b.0), unread-at (starts_with_minus bs) _ b.1))
      | inr e ↦ rw e refl
    ]
