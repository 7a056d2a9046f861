use Rattle.std.proofs.Common.{◌≡◌, ◌↔◌, ◌<◌, ℕ, ℤ, arith, pos, to_z, of_z, to_z-of_z, FitsSigned, w8, w16, w32, refl}
use Rattle.std.proofs.lemmas.Int.{to_z_pos}
use Rattle.jiff.proofs.SpanFacts.{signed_arith}
use Rattle.jiff.specs.Words.{IsDate}
use Rattle.jiff_core.specs.Calendar.{IsCivilDate}
use Rattle.bson_datetime.proofs.builder.day_number.Goals as goal

-- the same date, of numbers with a sign and of numbers without
date-civil : (y : ℤ) (m d : ℕ) → IsDate y (pos m) (pos d) ↔ IsCivilDate y m d
date-civil y m d = (
  λ h. (
    h.0,
    (omega (arith, signed_arith, h.1.0), omega (arith, signed_arith, h.1.1)),
    (omega (arith, signed_arith, h.2.0), omega (arith, signed_arith, h.2.1)),
  ),
  λ h. (
    h.0,
    (omega (arith, signed_arith, h.1.0), omega (arith, signed_arith, h.1.1)),
    (omega (arith, signed_arith, h.2.0), omega (arith, signed_arith, h.2.1)),
  ),
)

-- the casts of the tested numbers keep them
casts-keep : (y : ℤ) (m d : ℕ) → FitsSigned w32 y → FitsSigned w16 y → m < 128 → d < 128
    → (to_z w32 (of_z w32 y) ≡ y) × (to_z w16 (of_z w16 y) ≡ y) × (to_z w8 m ≡ pos m) × (to_z w8 d ≡ pos d)
casts-keep y m d first fits small_m small_d =
    (to_z-of_z first, to_z-of_z fits, to_z_pos w8 _ (omega (arith, small_m)), to_z_pos w8 _ (omega (arith, small_d)))

pub returns-in-Ok-clause-exists : goal.returns-in-Ok-clause-exists
returns-in-Ok-clause-exists c =
    let same =
    casts-keep c.args.year c.args.month c.args.day c.ranges.year (omega (arith, signed_arith)) (omega arith)
    (omega arith) in
    let date = rw (same.0, same.1, same.2, same.3) at (c.in-Ok.ensures.succeeds.0 refl) in
    (λ ok. (date-civil c.args.year c.args.month c.args.day).0 date, λ exists. refl)

pub returns-in-Err-clause-exists : goal.returns-in-Err-clause-exists
returns-in-Err-clause-exists c =
    let same =
    casts-keep c.args.year c.args.month c.args.day c.ranges.year (omega (arith, signed_arith)) (omega arith)
    (omega arith) in
    let none = rw (same.0, same.1, same.2, same.3) at c.in-Err.ensures.succeeds.1 in
    (λ ok. cc ok, λ exists. cc (none ((date-civil c.args.year c.args.month c.args.day).1 exists)))
