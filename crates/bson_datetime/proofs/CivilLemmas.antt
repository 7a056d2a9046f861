-- The walk over years and months finds jiff's date.
use Rattle.std.proofs.Common.{◌≡◌, ℕ, zero, suc, ◌+◌, ◌-◌, ◌<◌, ◌≤◌, nat_lt, true, false, refl, ◌∙◌, arith, ℤ, pos}
use Rattle.std.proofs.Common.{negsuc, ◌+ℤ◌, ◌-ℤ◌, ◌≤ℤ◌, unsigned_abs}
use Rattle.std.proofs.lemmas.Bool.Decides.{nat_tests}
use Rattle.jiff.specs.Types.{Date}
use Rattle.jiff.specs.Words.{epoch_day, days_in_year, days_in_month}
use Rattle.jiff.proofs.SpanFacts.{signed_arith}
use Rattle.jiff_core.specs.Calendar.{days_of_years, days_of_months, day_count}
use Rattle.jiff_core.proofs.CalendarLemmas.{days_from_civil-day_count, days_of_months_mono, day_of_year_bound}
use Rattle.jiff_core.proofs.CalendarLemmas.{days_of_months-zero}
use Rattle.jiff_core.proofs.DateLemmas.{civil}
use Rattle.bson_datetime.specs.CivilTime.{year_and_day, month_and_day, civil_date}

-- the days of the year that begins so many years after -10000
abbrev pub year_len : ℕ → ℕ
year_len k = days_in_year (pos k -ℤ pos 10000)

pub days_of_years-step : (k : ℕ) → days_of_years (suc k) ≡ days_of_years k + year_len k
unfolding days_of_years
days_of_years-step k = refl

-- a later year begins after the days of this one
days_of_years-later : (k more later : ℕ) → later ≡ suc k + more → days_of_years (suc k) ≤ days_of_years later
days_of_years-later k zero later e =
    let same : later ≡ suc k = omega arith in
    rw same (omega arith)
days_of_years-later k (suc more) later e =
    let same : later ≡ suc (suc k + more) = omega arith in
    let before = days_of_years-later k more (suc k + more) refl in
    rw same (omega (arith, before, days_of_years-step (suc k + more)))

year_stops : (more k n : ℕ) → n < year_len k → year_and_day more k n ≡ (k, n)
unfolding year_and_day
year_stops zero k n h = refl
year_stops (suc more) k n h =
    let test : nat_lt n (year_len k) ≡ true = grind (arith, nat_tests) in
    rw test

year_goes_on : (more k n : ℕ) → year_len k ≤ n
    → year_and_day (suc more) k n ≡ year_and_day more (suc k) (n - year_len k)
unfolding year_and_day
year_goes_on more k n h =
    let test : nat_lt n (year_len k) ≡ false = grind (arith, nat_tests) in
    rw test

-- a walk from the year k to the year y
year_walk : (lookahead more k y n r : ℕ) → y ≡ k + lookahead → lookahead ≤ more → days_of_years k + n ≡ days_of_years y + r
    → r < year_len y
    → year_and_day more k n ≡ (y, r)
year_walk zero more k y n r at h e s =
    let same : y ≡ k = omega arith in
    let e' = rw same at e in
    let s' = rw same at s in
    let rest : n ≡ r = omega arith in
    rw (rest, same) (year_stops more k r s')
year_walk (suc lookahead) zero k y n r at h e s = absurd (omega arith)
year_walk (suc lookahead) (suc more) k y n r at h e s =
    let far = days_of_years-later k lookahead y (omega arith) in
    let step = days_of_years-step k in
    let past : year_len k ≤ n = omega arith in
    year_goes_on more k n past
    ∙ year_walk lookahead more (suc k) y (n - year_len k) r (omega arith) (omega arith) (omega arith) s

-- ---- months

pub days_of_months-step : (y : ℤ) (n : ℕ) → days_of_months y (suc n) ≡ days_of_months y n + days_in_month y (suc n)
unfolding days_of_months
days_of_months-step y n = refl

month_stops : (y : ℤ) (more m n : ℕ) → n < days_in_month y m → month_and_day y more m n ≡ (m, n)
unfolding month_and_day
month_stops y zero m n h = refl
month_stops y (suc more) m n h =
    let test : nat_lt n (days_in_month y m) ≡ true = grind (arith, nat_tests) in
    rw test

month_goes_on : (y : ℤ) (more m n : ℕ) → days_in_month y m ≤ n
    → month_and_day y (suc more) m n ≡ month_and_day y more (suc m) (n - days_in_month y m)
unfolding month_and_day
month_goes_on y more m n h =
    let test : nat_lt n (days_in_month y m) ≡ false = grind (arith, nat_tests) in
    rw test

-- a walk from the month k + 1 to the month t + 1
month_walk : (y : ℤ) (lookahead more k t n r : ℕ) → t ≡ k + lookahead → lookahead ≤ more
    → days_of_months y k + n ≡ days_of_months y t + r → r < days_in_month y (suc t)
    → month_and_day y more (suc k) n ≡ (suc t, r)
month_walk y zero more k t n r at h e s =
    let same : t ≡ k = omega arith in
    let e' = rw same at e in
    let s' = rw same at s in
    let rest : n ≡ r = omega arith in
    rw (rest, same) (month_stops y more (suc k) r s')
month_walk y (suc lookahead) zero k t n r at h e s = absurd (omega arith)
month_walk y (suc lookahead) (suc more) k t n r at h e s =
    let far = days_of_months_mono y (suc k) t (omega arith) in
    let step = days_of_months-step y k in
    let past : days_in_month y (suc k) ≤ n = omega arith in
    month_goes_on y more (suc k) n past
    ∙ month_walk y lookahead more (suc k) t (n - days_in_month y (suc k)) r (omega arith) (omega arith) (omega arith) s

-- ---- the date

pub unfold_count : (y : ℤ) (m d : ℕ)
    → day_count y m d ≡ days_of_years (unsigned_abs (y +ℤ pos 10000)) + (days_of_months y (m - 1) + d - 1)
unfolding day_count
unfold_count y m d = refl

parts : (d : Date) (k : ℕ) → d.year +ℤ pos 10000 ≡ pos k
    → day_count d.year d.month d.day ≡ days_of_years k + (days_of_months d.year (d.month - 1) + d.day - 1)
parts d k e = unfold_count d.year d.month d.day ∙ rw e refl

pub days_of_years-none : days_of_years 0 ≡ 0
unfolding days_of_years
days_of_years-none = refl

-- a number that is not negative is its size
pub size_of : (z : ℤ) → pos 0 ≤ℤ z → z ≡ pos (unsigned_abs z)
size_of (pos n) h = refl
size_of (negsuc n) h = absurd (omega (arith, signed_arith))

-- the function gives the date that has the day number
date_found : (d : Date) (k count : ℕ) → d.year +ℤ pos 10000 ≡ pos k
    → unsigned_abs (epoch_day d +ℤ pos 4_371_953) ≡ count → count ≡ day_count d.year d.month d.day
    → civil_date (epoch_day d) ≡ record { year = d.year; month = d.month; day = d.day }
unfolding civil_date
date_found d k count since is e =
    let bound : k ≤ 20000 = omega (arith, signed_arith, d.year_in, since) in
    let year : pos k -ℤ pos 10000 ≡ d.year = omega (arith, signed_arith, since) in
    let rest = days_of_months d.year (d.month - 1) + d.day - 1 in
    let inside : rest < year_len k =
    rw year (omega (arith, day_of_year_bound d.year d.month d.day (civil d), d.day_in)) in
    let total : days_of_years 0 + count ≡ days_of_years k + rest =
    rw days_of_years-none (omega (arith, e, parts d k since)) in
    let y : year_and_day 20000 0 count ≡ (k, rest) =
    year_walk k 20000 0 k count rest (omega arith) bound total inside in
    let month : suc (d.month - 1) ≡ d.month = omega (arith, d.month_in) in
    let here : d.day - 1 < days_in_month d.year (suc (d.month - 1)) = rw month (omega (arith, d.day_in)) in
    let of_year : days_of_months d.year 0 + rest ≡ days_of_months d.year (d.month - 1) + (d.day - 1) =
    rw (days_of_months-zero d.year) (omega (arith, d.day_in)) in
    let m : month_and_day d.year 12 1 rest ≡ (suc (d.month - 1), d.day - 1) =
    month_walk d.year (d.month - 1) 12 0 (d.month - 1) rest (d.day - 1) (omega arith)
    (omega (arith, d.month_in)) of_year here in
    let day : d.day - 1 + 1 ≡ d.day = omega (arith, d.day_in) in
    rw (is, y, year, m, month, day) refl

pub date_of-date : (d : Date) → civil_date (epoch_day d) ≡ record { year = d.year; month = d.month; day = d.day }
date_of-date d =
    let low : pos 0 ≤ℤ (d.year +ℤ pos 10000) = omega (arith, signed_arith, d.year_in) in
    let positive : pos 0 ≤ℤ (epoch_day d +ℤ pos 4_371_953) =
    omega (arith, signed_arith, days_from_civil-day_count d.year d.month d.day) in
    let size = size_of _ positive in
    date_found d (unsigned_abs (d.year +ℤ pos 10000)) (unsigned_abs (epoch_day d +ℤ pos 4_371_953)) (size_of _ low) refl
    (omega (arith, signed_arith, size, days_from_civil-day_count d.year d.month d.day))
