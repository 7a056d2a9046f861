-- The same definitions without negative numbers, for the proofs: an exponent x is up - down, and a stored exponent is
-- 6176 more.
use Rattle.std.proofs.Common.{◌≡◌, ℕ, ◌+◌, ◌-◌, ◌*◌, ◌^◌, ◌<◌, ◌≤◌, ℤ, pos, ◌+ℤ◌, ◌-ℤ◌, ◌≤ℤ◌, neg_ℤ, Bool, true, false}
use Rattle.std.proofs.Common.{cond, min, length, refl, sym, ap, subst, ◌∙◌, arith}
use Rattle.std.specs.Int.{int_min}
use lib.IntN.{nat_abs}
use Rattle.std.proofs.lemmas.Int.{ints, clamps}
use Rattle.std.proofs.lemmas.Nat.{pow-add}
use Rattle.std.specs.Str.Parse.{digits_value}
use Rattle.bson_decimal.specs.Exponents.{unbiased_exponent}
use Rattle.bson_decimal.specs.NumeralGrammar.{is_minus, Exponent, unwritten, written, Numeral, fraction_digits}
use Rattle.bson_decimal.specs.NumeralGrammar.{written_exponent, exponent, number}
use Rattle.bson_decimal.specs.NearestExponent.{IsDecimalRepresentation, HasNearestExponent, exponent_distance}
use Rattle.bson_decimal.specs.DecimalStrings.{digits_past_34, IsWithinI16Limits}
use Rattle.bson_decimal.proofs.Tens.{tens-cancel}

-- c * 10 ^ (e - 6176) = m * 10 ^ (up - down), with both sides multiplied by 10 ^ (down + 6176)
pub record FitsShifted (m up down c e : ℕ) : Type 0 where
  pub equal : c * 10 ^ (e + down) ≡ m * 10 ^ (up + 6176)
  pub coefficient : c < 10 ^ 34
  pub exponent : e < 12288

-- how far the exponent e - 6176 is from up - down
abbrev pub distance_shifted : ℕ → ℕ → ℕ → ℕ
distance_shifted up down e = ((e + down) - (up + 6176)) + ((up + 6176) - (e + down))

pub record IsNearestShifted (m up down c e : ℕ) : Type 0 where
  pub fits : FitsShifted m up down c e
  pub least : (d f : ℕ) → FitsShifted m up down d f → distance_shifted up down e ≤ distance_shifted up down f

-- the exponent that is written is written_up - written_down
abbrev pub written_up : Exponent → ℕ
written_up unwritten = 0
written_up (written mark s ds) = cond (is_minus s) 0 (digits_value 10 ds)

abbrev pub written_down : Exponent → ℕ
written_down unwritten = 0
written_down (written mark s ds) = cond (is_minus s) (digits_value 10 ds) 0

-- the exponent that is denoted is up n - down n
abbrev pub up : Numeral → ℕ
up n = written_up n.exponent

abbrev pub down : Numeral → ℕ
down n = length (fraction_digits n.fraction) + written_down n.exponent

pub record IsWithin16Shifted (n : Numeral) : Type 0 where
  pub high : written_up n.exponent ≤ 32767
  pub low : written_down n.exponent ≤ 32768
  pub fraction : length (fraction_digits n.fraction) ≤ 32767
  pub least : down n ≤ up n + 32768
  pub cut : digits_past_34 n ≤ 32767
  pub greatest : up n + digits_past_34 n ≤ down n + 32767

-- ---- exponents

abbrev signed : Bool → ℕ → ℤ
signed negative v = cond negative (neg_ℤ (pos v)) (pos v)

signed-is : (b : Bool) (v : ℕ) → signed b v ≡ pos (cond b 0 v) -ℤ pos (cond b v 0)
signed-is true v = omega (arith, ints)
signed-is false v = omega (arith, ints)

written_exponent-is : (e : Exponent) → written_exponent e ≡ pos (written_up e) -ℤ pos (written_down e)
written_exponent-is unwritten = refl
written_exponent-is (written mark s ds) = signed-is (is_minus s) (digits_value 10 ds)

exponent-is : (n : Numeral) → exponent n ≡ pos (up n) -ℤ pos (down n)
exponent-is n = let e = written_exponent-is n.exponent in omega (arith, ints)

-- one of the two is none
signed-low : (b : Bool) (v k : ℕ) → neg_ℤ (pos k) ≤ℤ signed b v → cond b v 0 ≤ k
signed-low true v k h = omega (arith, ints)
signed-low false v k h = omega arith

signed-high : (b : Bool) (v k : ℕ) → signed b v ≤ℤ pos k → cond b 0 v ≤ k
signed-high true v k h = omega arith
signed-high false v k h = omega (arith, ints)

written_down-low : (e : Exponent) (k : ℕ) → neg_ℤ (pos k) ≤ℤ written_exponent e → written_down e ≤ k
written_down-low unwritten k h = omega arith
written_down-low (written mark s ds) k h = signed-low (is_minus s) (digits_value 10 ds) k h

written_up-high : (e : Exponent) (k : ℕ) → written_exponent e ≤ℤ pos k → written_up e ≤ k
written_up-high unwritten k h = omega arith
written_up-high (written mark s ds) k h = signed-high (is_minus s) (digits_value 10 ds) k h

-- ---- limits

pub within16-shifted : (n : Numeral) → IsWithinI16Limits n → IsWithin16Shifted n
within16-shifted n l =
    let x = exponent-is n in
    let least = l.least in
    let greatest = l.greatest in
    record {
      high = written_up-high n.exponent 32767 l.high;
      low = written_down-low n.exponent 32768 l.low;
      fraction = l.fraction;
      least = omega (arith, ints);
      cut = l.cut;
      greatest = omega (arith, ints);
    }

pub within16 : (n : Numeral) → IsWithin16Shifted n → IsWithinI16Limits n
within16 n l =
    let w = written_exponent-is n.exponent in
    let x = exponent-is n in
    let high = l.high in
    let low = l.low in
    let least = l.least in
    let greatest = l.greatest in
    record {
      low = omega (arith, ints);
      high = omega (arith, ints);
      fraction = l.fraction;
      least = omega (arith, ints);
      cut = l.cut;
      greatest = omega (arith, ints);
    }

-- ---- pairs that fit

-- a power split at l
split : (c a l : ℕ) → l ≤ a → c * 10 ^ (a - l) * 10 ^ l ≡ c * 10 ^ a
split c a l h = let e : a ≡ a - l + l = omega arith in rw (ap (λ k. 10 ^ k) e, pow-add 10 (a - l) l) (omega arith)

left : (up down e : ℕ)
    → nat_abs (unbiased_exponent e -ℤ int_min (unbiased_exponent e) (pos up -ℤ pos down)) ≡ e + down - min (e + down) (up + 6176)
left up down e = omega (arith, ints, clamps)

right : (up down e : ℕ)
    → nat_abs ((pos up -ℤ pos down) -ℤ int_min (unbiased_exponent e) (pos up -ℤ pos down))
    ≡ up + 6176 - min (e + down) (up + 6176)
right up down e = omega (arith, ints, clamps)

apart : (up down e : ℕ) → exponent_distance (pos up -ℤ pos down) (unbiased_exponent e) ≡ distance_shifted up down e
apart up down e = omega (arith, ints, clamps)

pub fits : (m up down c e : ℕ) → FitsShifted m up down c e → IsDecimalRepresentation m (pos up -ℤ pos down) c (unbiased_exponent e)
fits m up down c e f =
    let l = min (e + down) (up + 6176) in
    let equal = tens-cancel _ _ l (split c (e + down) l (omega arith) ∙ f.equal
    ∙ sym (split m (up + 6176) l (omega arith))) in
    let within = f.exponent in
    record {
      equal = rw (left up down e, right up down e) equal;
      coefficient = f.coefficient;
      low = omega (arith, ints);
      high = omega (arith, ints);
    }

pub fits-shifted : (m up down c e : ℕ) → IsDecimalRepresentation m (pos up -ℤ pos down) c (unbiased_exponent e) → FitsShifted m up down c e
fits-shifted m up down c e f =
    let l = min (e + down) (up + 6176) in
    let equal = rw (left up down e, right up down e) at f.equal in
    let high = f.high in
    record {
      equal = sym (split c (e + down) l (omega arith)) ∙ ap (λ k. k * 10 ^ l) equal
          ∙ split m (up + 6176) l (omega arith);
      coefficient = f.coefficient;
      exponent = omega (arith, ints);
    }

-- an exponent that fits is that of a stored one
stored-is : (e : ℤ) → neg_ℤ (pos 6176) ≤ℤ e → unbiased_exponent (nat_abs (e +ℤ pos 6176)) ≡ e
stored-is e low = omega (arith, ints, clamps)

nearest-at : (m up down c e : ℕ) → IsNearestShifted m up down c e → HasNearestExponent m (pos up -ℤ pos down) c (unbiased_exponent e)
nearest-at m up down c e h =
    let x = pos up -ℤ pos down in
    record {
      fits = fits m up down c e h.fits;
      least = λ d f g.
          let stored = nat_abs (f +ℤ pos 6176) in
          let at = stored-is f g.low in
          let near = h.least d stored (fits-shifted m up down d stored (subst (λ z. IsDecimalRepresentation m x d z) (sym at) g)) in
          subst (λ z. exponent_distance x (unbiased_exponent e) ≤ exponent_distance x z) at (rw (apart up down e, apart up down stored) near);
    }

nearest-at-shifted : (m up down c e : ℕ) → HasNearestExponent m (pos up -ℤ pos down) c (unbiased_exponent e)
    → IsNearestShifted m up down c e
nearest-at-shifted m up down c e h =
    record {
      fits = fits-shifted m up down c e h.fits;
      least = λ d f g. rw (apart up down e, apart up down f) at (h.least d (unbiased_exponent f) (fits m up down d f g));
    }

pub nearest : (n : Numeral) (c e : ℕ) → IsNearestShifted (number n) (up n) (down n) c e
    → HasNearestExponent (number n) (exponent n) c (unbiased_exponent e)
nearest n c e h = subst (λ x. HasNearestExponent (number n) x c (unbiased_exponent e)) (sym (exponent-is n))
    (nearest-at (number n) (up n) (down n) c e h)

pub nearest-shifted : (n : Numeral) (c e : ℕ) → HasNearestExponent (number n) (exponent n) c (unbiased_exponent e)
    → IsNearestShifted (number n) (up n) (down n) c e
nearest-shifted n c e h =
    nearest-at-shifted (number n) (up n) (down n) c e
    (subst (λ x. HasNearestExponent (number n) x c (unbiased_exponent e)) (exponent-is n) h)
