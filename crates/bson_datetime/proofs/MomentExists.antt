-- Each millisecond of the years -9999 to 9999 has its moment.
use Rattle.std.proofs.Common.{◌≡◌, ℕ, zero, suc, ◌+◌, ◌-◌, ◌*◌, ◌/◌, ◌%◌, ◌<◌, ◌≤◌, inl, inr, refl, ◌∙◌, arith, ℤ, pos}
use Rattle.std.proofs.Common.{◌+ℤ◌, ◌-ℤ◌, ◌*ℤ◌, ◌≤ℤ◌, unsigned_abs}
use Rattle.std.proofs.lemmas.Bool.{cases_lt}
use Rattle.jiff.specs.Types.{Date, Time, DateTime}
use Rattle.jiff.specs.Words.{epoch_day, time_nanos, days_in_month, IsEpochDay}
use Rattle.jiff.proofs.Family.{civil_nanos-parts}
use Rattle.jiff.proofs.SpanFacts.{signed_arith}
use Rattle.std.specs.Int.{int_rem_euclid}
use Rattle.jiff_core.specs.Calendar.{days_of_years, days_of_months, day_count}
use Rattle.jiff_core.proofs.CalendarLemmas.{days_from_civil-day_count, days_of_months-zero, days_of_months_all}
use Rattle.bson_datetime.specs.JiffConversion.{HasJiffTime}
use Rattle.bson_datetime.specs.CivilTime.{IsCivilMillis, day_of_millis, time_of_millis}
use Rattle.bson_datetime.proofs.CivilLemmas.{year_len, days_of_years-step, days_of_months-step, size_of, unfold_count}

-- a number of days is in a year
find_year : (more k n : ℕ) → days_of_years k ≤ n → n < days_of_years (k + suc more)
    → (y : ℕ) × (days_of_years y ≤ n) × (n < days_of_years (suc y)) × (k ≤ y) × (y ≤ k + more)
find_year zero k n low high =
    let top : k + 1 ≡ suc k = omega arith in
    (k, low, rw top at high, omega arith, omega arith)
find_year (suc more) k n low high =
    elim (cases_lt n (days_of_years (suc k))) [
      | inl below ↦ (k, low, below, omega arith, omega arith)
      | inr above ↦
          let same : k + suc (suc more) ≡ suc k + suc more = omega arith in
          let f = find_year more (suc k) n above (rw same at high) in
          (f.0, f.1, f.2, omega (arith, f.3), omega (arith, f.4))
    ]

find_month : (y : ℤ) (more k n : ℕ) → days_of_months y k ≤ n → n < days_of_months y (k + suc more)
    → (m : ℕ) × (days_of_months y m ≤ n) × (n < days_of_months y (suc m)) × (k ≤ m) × (m ≤ k + more)
find_month y zero k n low high =
    let top : k + 1 ≡ suc k = omega arith in
    (k, low, rw top at high, omega arith, omega arith)
find_month y (suc more) k n low high =
    elim (cases_lt n (days_of_months y (suc k))) [
      | inl below ↦ (k, low, below, omega arith, omega arith)
      | inr above ↦
          let same : k + suc (suc more) ≡ suc k + suc more = omega arith in
          let f = find_month y more (suc k) n above (rw same at high) in
          (f.0, f.1, f.2, omega (arith, f.3), omega (arith, f.4))
    ]

first_years : (days_of_years 1 ≡ 366) × (days_of_years 20000 ≡ 7_304_850)
unfolding days_of_years
first_years = (refl, refl)

-- the date of a year, a month and what is left
date_made : (n k m : ℕ) → 1 ≤ k → k ≤ 19_999 → m ≤ 11 → days_of_years k ≤ n
    → days_of_months (pos k -ℤ pos 10000) m ≤ n - days_of_years k
    → n - days_of_years k < days_of_months (pos k -ℤ pos 10000) (suc m)
    → (d : Date) × (day_count d.year d.month d.day ≡ n)
date_made n k m low high twelve before from to =
    let y = pos k -ℤ pos 10000 in
    let day = n - days_of_years k - days_of_months y m + 1 in
    let fits : day ≤ days_in_month y (suc m) = omega (arith, days_of_months-step y m) in
    let d : Date =
    record {
      year = y;
      month = suc m;
      day = day;
      year_in = (omega (arith, signed_arith), omega (arith, signed_arith));
      month_in =
          (omega arith, omega arith);
      day_in = (omega arith, fits);
    } in
    let natural : pos 0 ≤ℤ (y +ℤ pos 10000) = omega (arith, signed_arith) in
    let size : unsigned_abs (y +ℤ pos 10000) ≡ k = omega (arith, signed_arith, size_of _ natural) in
    let last : suc m - 1 ≡ m = omega arith in
    (d, unfold_count y (suc m) day ∙ rw (size, last) (omega arith))

-- the date with a day number
date_at : (n : ℕ) → 366 ≤ n → n < 7_304_850 → (d : Date) × (day_count d.year d.month d.day ≡ n)
date_at n low high =
    let fy = find_year 19998 1 n (omega (arith, first_years.0)) (omega (arith, first_years.1)) in
    let within : n - days_of_years fy.0 < year_len fy.0 = omega (arith, fy.1, fy.2, days_of_years-step fy.0) in
    let y = pos fy.0 -ℤ pos 10000 in
    let fm =
    find_month y 11 0 (n - days_of_years fy.0) (omega (arith, days_of_months-zero y))
    (omega (arith, days_of_months_all y)) in
    date_made n fy.0 fm.0 fy.3 (omega (arith, fy.4)) (omega (arith, fm.4)) fy.1 fm.1 fm.2

date_of_day : (day : ℤ) → IsEpochDay day → (d : Date) × (epoch_day d ≡ day)
date_of_day day h =
    let natural : pos 0 ≤ℤ (day +ℤ pos 4_371_953) = omega (arith, signed_arith) in
    let size = size_of _ natural in
    let found =
    date_at (unsigned_abs (day +ℤ pos 4_371_953)) (omega (arith, signed_arith, size))
    (omega (arith, signed_arith, size)) in (
      found.0,
      omega (arith, signed_arith, size, found.1, days_from_civil-day_count found.0.year found.0.month found.0.day),
    )

-- the time of so many milliseconds
time_at : (n : ℕ) → n < 86_400_000 → Time
time_at n h =
    record {
      hour = n / 3_600_000;
      minute = n / 60_000 % 60;
      second = n / 1000 % 60;
      subsec_nanosecond = n % 1000 * 1_000_000;
      hour_in = omega arith;
      minute_in = omega arith;
      second_in =
          omega arith;
      subsec_in = omega arith;
    }

time_nanos-time_at : (n : ℕ) (h : n < 86_400_000) → time_nanos (time_at n h) ≡ n * 1_000_000
unfolding time_at
time_nanos-time_at n h = omega arith

-- a millisecond is a day and the milliseconds of the day
split : (ms : ℤ) → (ms ≡ day_of_millis ms *ℤ pos 86_400_000 +ℤ pos (time_of_millis ms)) × (time_of_millis ms < 86_400_000)
split ms =
    let natural : pos 0 ≤ℤ int_rem_euclid ms (pos 86_400_000) = omega (arith, signed_arith) in
    let size = size_of _ natural in
    (omega (arith, signed_arith, size), omega (arith, signed_arith, size))

pub moment_at : (ms : ℤ) → IsCivilMillis ms → (at : DateTime) × HasJiffTime ms at
moment_at ms h =
    let parts = split ms in
    let date = date_of_day (day_of_millis ms) (omega (arith, signed_arith, parts), omega (arith, signed_arith, parts)) in
    let time = time_at (time_of_millis ms) parts.1 in
    let at : DateTime = record { date = date.0; time = time } in
    (at, omega (arith, signed_arith, civil_nanos-parts at, date.1, time_nanos-time_at (time_of_millis ms) parts.1, parts.0))
