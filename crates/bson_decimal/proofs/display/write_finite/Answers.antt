use Rattle.std.proofs.Common.{◌≡◌, ◌∙◌, ap, ℕ, ◌<◌, ◌≤◌, List, length, ◌^◌, true, false, ◌&&◌, pos, neg_ℤ}
use Rattle.std.proofs.Common.{FitsSigned, arith}
use Rattle.std.specs.Int.{w32}
use Rattle.std.specs.Prelude.{int_le, unsigned_abs}
use Rattle.std.proofs.lemmas.Int.{ints, to_z-of_z}
use Rattle.bson_decimal.specs.Exponents.{unbiased_exponent}
use Rattle.bson_decimal.specs.DecimalText.{scientific_exponent}
use Rattle.bson_decimal.proofs.display.write_finite.Goals as goal
use Rattle.bson_decimal.proofs.display.write_finite.Goals.{else-exponent-le0-via-then-exponent-le0+else-first_digit_exponent-geminus6}
use Rattle.bson_decimal.proofs.display.write_finite.Goals.{else-exponent-le0-via-else-exponent-le0}

exponent-fits : (stored : ℕ) → stored < 2 ^ 16 → FitsSigned w32 (unbiased_exponent stored)
exponent-fits stored small = omega (arith, ints)

first-fits : (ds : List ℕ) (stored : ℕ) → stored < 2 ^ 16 → length ds ≤ 34
    → FitsSigned w32 (scientific_exponent ds (unbiased_exponent stored))
first-fits ds stored small short = omega (arith, ints)

pub returns-then-first_digit_exponent-geminus6 : goal.returns-then-first_digit_exponent-geminus6
returns-then-first_digit_exponent-geminus6 g c =
    let x = unbiased_exponent c.args.stored_exponent in
    let low : int_le x (pos 0) ≡ true = grind (arith, ints) in
    let near : int_le (neg_ℤ (pos 6)) (scientific_exponent c.args.digits.now x) ≡ true = grind (arith, ints) in
    let places : c.unsigned_abs.result ≡ unsigned_abs x =
    (rw c.unbiased_exponent-exponent.ensures at c.unsigned_abs.ensures.value)
    ∙ ap unsigned_abs (to_z-of_z w32 x (exponent-fits c.args.stored_exponent c.ranges.stored_exponent.fits)) in
    rw (low, near, ← places) c.write_plain.ensures

pub returns-else-exponent-le0 : goal.returns-else-exponent-le0
returns-else-exponent-le0 g c =
    let x = unbiased_exponent c.args.stored_exponent in
    let tests = int_le x (pos 0) && int_le (neg_ℤ (pos 6)) (scientific_exponent c.args.digits.now x) in
    let other : tests ≡ false =
    elim c.else-exponent-le0.branch [
      | else-exponent-le0-via-then-exponent-le0+else-first_digit_exponent-geminus6 w ↦ grind (arith, ints)
      | else-exponent-le0-via-else-exponent-le0 w ↦ grind (arith, ints)
    ] in
    let first = c.scientific_exponent-first_digit_exponent.ensures in
    rw (
      other,
      ← to_z-of_z w32 _
          (first-fits c.args.digits.now c.args.stored_exponent c.ranges.stored_exponent.fits c.requires.short),
      ← first,
    )
    c.write_scientific.ensures
