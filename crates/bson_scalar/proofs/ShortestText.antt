-- The function of the shortest decimal gives it.
use Rattle.std.proofs.Common.{◌≡◌, ◌<◌, ◌≤◌, ◌^◌, ◌%◌, ◌+◌, ◌-◌, ◌*◌, ℕ, zero, suc, List, Bool, true, false, ◌&&◌}
use Rattle.std.proofs.Common.{◌||◌, cond, refl, sym, ap, ◌∙◌, subst, inl, inr, nat_eq, nat_lt, arith, true≢false}
use Rattle.std.specs.Prelude.{codes, Some, None, is_some}
use Rattle.std.proofs.lemmas.Bool.{cases_order, eqb-true, eqb-false, ltb-true, ltb-false}
use Rattle.bson_double.specs.FiniteDoubles.{is_finite}
use Rattle.bson_double.specs.ShortestDecimal.{DecimalRoundsTo, IsShortest, HasNoDecimalFrom, scaled_double, scaled_power_of_ten}
use Rattle.bson_double.specs.DoubleText.{IsDoubleText, IsUnsignedText, decimal_text}
use Rattle.bson_double.proofs.Offered.{has_shortest, none_above, beside, floor_under, floor_over, low_taken}
use Rattle.bson_double.proofs.Offered.{high_taken, IsPositive, step_pos, read_by_bits}
use Rattle.bson_scalar.specs.Shortest.{multiple_rounds, multiple_below, either_multiple_rounds, highest_exponent, chosen_multiple, digits_at_exponent}
use Rattle.bson_scalar.specs.Shortest.{unsigned_text, finite_double_text}
use Rattle.bson_scalar.proofs.InverseLemmas.{if_some}

or_no : (a b : Bool) → (a || b) ≡ false → (a ≡ false) × (b ≡ false)
or_no true b h = cc
or_no false b h = (refl, h)

module _ (p : ℕ) (h : IsPositive p) where
  is_so : (d k : ℕ) → multiple_rounds p d k ≡ true → DecimalRoundsTo p d k
  is_so d k e = (read_by_bits p d k (let s = h.small in omega arith) h.finite).0 e

  is_not : (d k : ℕ) → multiple_rounds p d k ≡ false → DecimalRoundsTo p d k → ⊥
  is_not d k e r = true≢false (sym ((read_by_bits p d k (let s = h.small in omega arith) h.finite).1 r) ∙ e)

  none_read : (k : ℕ) → either_multiple_rounds p k ≡ false → (c : ℕ) → DecimalRoundsTo p c k → ⊥
  none_read k e c y =
      let g = or_no _ _ e in
      elim (beside p k c h y) [ inl r ↦ is_not _ k g.0 r | inr r ↦ is_not _ k g.1 r ]

  -- the power found is the highest at which a multiple is read
  IsTop : ℕ → Type 0
  IsTop k = HasNoDecimalFrom p (suc k) × (either_multiple_rounds p k ≡ true)

  top_step : (n : ℕ) (b : Bool) → either_multiple_rounds p n ≡ b → HasNoDecimalFrom p (suc n)
      → (HasNoDecimalFrom p n → IsTop (highest_exponent p n)) → IsTop (cond b n (highest_exponent p n))
  unfolding IsTop
  top_step n true e none rest = (none, e)
  top_step n false e none rest = rest (λ c j l y. elim (cases_order j n) [
    | inl same ↦ none_read n e c (subst (λ i. DecimalRoundsTo p c i) same y)
    | inr (inl m) ↦ absurd (omega (arith, l, m))
    | inr (inr m) ↦ none c j (omega (arith, m)) y
  ])

  top_is : (n : ℕ) → HasNoDecimalFrom p n → IsTop (highest_exponent p n)
  unfolding highest_exponent
  top_is zero none = let x = has_shortest p h in absurd (none x.0 x.1 (omega arith) x.2.read)
  top_is (suc n) none = top_step n (either_multiple_rounds p n) refl none (top_is n)

  -- of the two multiples beside the double the one that is chosen
  near_at : (k f : ℕ) (l e v : Bool) → HasNoDecimalFrom p (suc k) → f * scaled_power_of_ten k ≤ scaled_double p
      → scaled_double p < (f + 1) * scaled_power_of_ten k → DecimalRoundsTo p f k → DecimalRoundsTo p (f + 1) k
      → nat_lt (2 * scaled_double p) ((2 * f + 1) * scaled_power_of_ten k) ≡ l
      → nat_eq (2 * scaled_double p) ((2 * f + 1) * scaled_power_of_ten k) ≡ e → nat_eq (f % 2) 0 ≡ v
      → IsShortest p (cond l f (cond (e && v) f (f + 1))) k
  near_at k f true e v none under beyond x y i j n =
      low_taken p k f h none under x (inr (inl (ltb-true _ _ i)))
  near_at k f false true true none under beyond x y i j n =
      low_taken p k f h none under x (inr (inr (eqb-true _ _ j, eqb-true _ _ n)))
  near_at k f false true false none under beyond x y i j n =
      high_taken p k f h none beyond y
      (inr (inr (middle (scaled_double p) (scaled_power_of_ten k) (eqb-true _ _ j), odd (eqb-false _ _ n))))
    where
      middle : (X Y : ℕ) → 2 * X ≡ (2 * f + 1) * Y → (2 * (f + 1) - 1) * Y ≡ 2 * X
      middle X Y e = (let at : 2 * (f + 1) - 1 ≡ 2 * f + 1 = omega arith in ap (λ z. z * Y) at ∙ sym e)

      odd : (f % 2 ≡ 0 → ⊥) → (f + 1) % 2 ≡ 0
      odd uneven = omega (arith, uneven)
  near_at k f false false v none under beyond x y i j n =
      high_taken p k f h none beyond y
      (inr (inl (past (scaled_double p) (scaled_power_of_ten k) (ltb-false _ _ i) (eqb-false _ _ j))))
    where
      past : (X Y : ℕ) → (2 * f + 1) * Y ≤ 2 * X → (2 * X ≡ (2 * f + 1) * Y → ⊥) → (2 * (f + 1) - 1) * Y < 2 * X
      past X Y l other = (let at : 2 * (f + 1) - 1 ≡ 2 * f + 1 = omega arith in
          subst (λ z. z * Y < 2 * X) (sym at) (apart ((2 * f + 1) * Y) (2 * X) l (λ e. other (sym e))))
        where
          apart : (a b : ℕ) → a ≤ b → (a ≡ b → ⊥) → a < b
          apart a b l other = omega (arith, l, other)

  pick : (k f : ℕ) (a b : Bool) → HasNoDecimalFrom p (suc k) → f * scaled_power_of_ten k ≤ scaled_double p
      → scaled_double p < (f + 1) * scaled_power_of_ten k → multiple_rounds p f k ≡ a → multiple_rounds p (f + 1) k ≡ b → (a || b) ≡ true
      → IsShortest p (chosen_multiple a b p k f) k
  pick k f true true none under beyond i j some =
      near_at k f _ _ _ none under beyond (is_so f k i) (is_so (f + 1) k j) refl refl refl
  pick k f true false none under beyond i j some =
      low_taken p k f h none under (is_so f k i) (inl (is_not (f + 1) k j))
  pick k f false true none under beyond i j some =
      high_taken p k f h none beyond (is_so (f + 1) k j)
      (inl (λ x. is_not f k i (let same : f + 1 - 1 ≡ f = omega arith in subst (λ d. DecimalRoundsTo p d k) same x)))
  pick k f false false none under beyond i j some = cc

  digits_shortest : (k : ℕ) → IsTop k → IsShortest p (digits_at_exponent p k) k
  unfolding IsTop digits_at_exponent
  digits_shortest k top =
      pick k (multiple_below p k) _ _ top.0 (floor_under (scaled_double p) (scaled_power_of_ten k))
      (floor_over (scaled_double p) (scaled_power_of_ten k) (step_pos k)) refl refl top.1

  pub positive_text : IsUnsignedText p (decimal_text (digits_at_exponent p (highest_exponent p 1500)) (highest_exponent p 1500))
  positive_text =
      let top = highest_exponent p 1500 in
      inr (digits_at_exponent p top, top, digits_shortest top (top_is 1500 (none_above p h)), refl)

text_at : (p : ℕ) (b : Bool) → nat_eq p 0 ≡ b → p < 2 ^ 63 → is_finite p ≡ true
    → IsUnsignedText p (cond b (codes "0.0") (decimal_text (digits_at_exponent p (highest_exponent p 1500)) (highest_exponent p 1500)))
text_at p true e small finite = inl (eqb-true p 0 e, refl)
text_at p false e small finite =
    let other = eqb-false p 0 e in
    positive_text p (record { some = omega (arith, other); small = small; finite = finite })

unsigned_is : (p : ℕ) → p < 2 ^ 63 → is_finite p ≡ true → IsUnsignedText p (unsigned_text p)
unfolding unsigned_text
unsigned_is p small finite = text_at p (nat_eq p 0) refl small finite

pub finite_text-some : (p : ℕ) → is_some (finite_double_text p) ≡ is_finite p
unfolding finite_double_text
finite_text-some p = some_if (is_finite p) _
  where
    some_if : (b : Bool) (s : List ℕ) → is_some (cond b (Some s) None) ≡ b
    some_if true s = refl
    some_if false s = refl

pub finite_text_is : (p : ℕ) (s : List ℕ) → finite_double_text p ≡ Some s → (is_finite p ≡ true) × IsDoubleText p s
unfolding finite_double_text
finite_text_is p s h =
    let g = if_some (is_finite p) _ s h in
    let low : is_finite (p % 2 ^ 63) ≡ true = size_finite p g.0 in
    (g.0, (unsigned_text (p % 2 ^ 63), unsigned_is (p % 2 ^ 63) (omega arith) low, sym g.1))
  where
    size_finite : (p : ℕ) → is_finite p ≡ true → is_finite (p % 2 ^ 63) ≡ true
    size_finite p h = let e : p % 2 ^ 63 % 2 ^ 63 ≡ p % 2 ^ 63 = omega arith in rw e h
