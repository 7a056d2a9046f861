-- Which milliseconds are in the years from 0000 on.
use Rattle.std.proofs.Common.{◌≡◌, ℕ, inl, refl, arith, rules, ℤ, pos, negsuc, neg_ℤ, ◌<ℤ◌, ◌≤ℤ◌}
use Rattle.jiff.specs.Types.{Date, DateTime}
use Rattle.jiff.specs.Words.{epoch_day}
use Rattle.jiff.proofs.Family.{epoch_day-lt, civil_nanos-parts, time_nanos_bound}
use Rattle.jiff.proofs.SpanFacts.{signed_arith}
use Rattle.jiff_core.specs.Calendar.{days_from_civil, day_count, days_of_years, days_of_months}
use Rattle.bson_datetime.specs.JiffConversion.{HasJiffTime}

-- the last day before the year 0000
last_before : Date
last_before =
    record {
      year = neg_ℤ (pos 1);
      month = 12;
      day = 31;
      year_in = search rules;
      month_in = search rules;
      day_in = search rules;
    }

-- its first day
first_of : Date
first_of =
    record { year = pos 0; month = 1; day = 1; year_in = search rules; month_in = search rules; day_in = search rules }

epoch_day-first_of : epoch_day first_of ≡ neg_ℤ (pos 719_528)
unfolding days_from_civil day_count days_of_years days_of_months first_of
epoch_day-first_of = refl

epoch_day-last_before : epoch_day last_before ≡ neg_ℤ (pos 719_529)
unfolding days_from_civil day_count days_of_years days_of_months last_before
epoch_day-last_before = refl

-- a date before the year 0 has a day number below that of 0000-01-01
pub year-negative : (d : Date) → d.year <ℤ pos 0 → epoch_day d <ℤ neg_ℤ (pos 719_528)
unfolding first_of
year-negative d h = omega (arith, signed_arith, epoch_day-lt d first_of (inl h), epoch_day-first_of)

pub year-natural : (d : Date) → pos 0 ≤ℤ d.year → neg_ℤ (pos 719_529) <ℤ epoch_day d
unfolding last_before
year-natural d h =
    let before : last_before.year <ℤ d.year = omega (arith, signed_arith) in
    omega (arith, signed_arith, epoch_day-lt last_before d (inl before), epoch_day-last_before)

-- a moment before the year 0 is a millisecond before -62167219200000
pub moment-negative : (ms : ℤ) (at : DateTime) → HasJiffTime ms at → at.date.year <ℤ pos 0
    → ms <ℤ neg_ℤ (pos 62_167_219_200_000)
moment-negative ms at is h =
    omega (arith, signed_arith, civil_nanos-parts at, time_nanos_bound at.time, year-negative at.date h)

pub moment-natural : (ms : ℤ) (at : DateTime) → HasJiffTime ms at → pos 0 ≤ℤ at.date.year
    → neg_ℤ (pos 62_167_219_200_000) ≤ℤ ms
moment-natural ms at is h =
    omega (arith, signed_arith, civil_nanos-parts at, time_nanos_bound at.time, year-natural at.date h)

-- a number that is not negative
natural : (z : ℤ) → ¬ (z <ℤ pos 0) → (n : ℕ) × (z ≡ pos n)
natural (pos n) h = (n, refl)
natural (negsuc n) h = absurd (h (omega (arith, signed_arith)))

pub natural_year : (z : ℤ) → pos 0 ≤ℤ z → (n : ℕ) × (z ≡ pos n)
natural_year z h = natural z (λ low. omega (arith, signed_arith))

-- from -62167219200000 on the year is a natural number
pub moment-not_negative : (ms : ℤ) (at : DateTime) → HasJiffTime ms at → neg_ℤ (pos 62_167_219_200_000) ≤ℤ ms
    → (y : ℕ) × (at.date.year ≡ pos y)
moment-not_negative ms at is h =
    natural at.date.year (λ low. omega (arith, signed_arith, moment-negative ms at is low))
