-- The date and time that a number of milliseconds since 1970-01-01T00:00:00Z denotes.
-- The calendar is the proleptic Gregorian one, with the years -9999 to 9999, by the day numbers of `jiff`.
use Rattle.std.specs.Prelude.{◌≡◌, ℕ, zero, suc, ◌+◌, ◌-◌, ◌*◌, ◌/◌, ◌%◌, ◌<◌, nat_lt, ℤ, pos, neg_ℤ, ◌+ℤ◌, ◌-ℤ◌, ◌*ℤ◌}
use Rattle.std.specs.Prelude.{unsigned_abs, if◌then◌else◌}
use Rattle.std.specs.Int.{int_div_euclid, int_rem_euclid}
use Rattle.jiff.specs.Words.{IsBetween, days_in_year, days_in_month}
use Rattle.jiff_core.specs.Calendar.{IsCivilDate, days_from_civil}

-- a date and a time of day in UTC
pub record CivilDateTime : Type 0 where
  pub year : ℤ
  pub month : ℕ
  pub day : ℕ
  pub hour : ℕ
  pub minute : ℕ
  pub second : ℕ
  pub millisecond : ℕ

-- the calendar has the date, and a day has the time
abbrev pub IsCivilDateTime : CivilDateTime → Type 0
IsCivilDateTime civil =
    IsCivilDate civil.year civil.month civil.day × (civil.hour < 24) × (civil.minute < 60) × (civil.second < 60)
    × (civil.millisecond < 1000)

-- a day has the time
abbrev pub IsTimeOfDay : CivilDateTime → Type 0
IsTimeOfDay civil = (civil.hour < 24) × (civil.minute < 60) × (civil.second < 60) × (civil.millisecond < 1000)

-- the milliseconds since midnight
abbrev pub millis_of_day : CivilDateTime → ℕ
millis_of_day civil = (civil.hour * 3600 + civil.minute * 60 + civil.second) * 1000 + civil.millisecond

-- the date and time exists, and is this number of milliseconds after 1970-01-01T00:00:00Z
abbrev pub HasCivilTime : (millis : ℤ) → CivilDateTime → Type 0
HasCivilTime millis civil =
    IsCivilDateTime civil
    × (millis ≡ (days_from_civil civil.year civil.month civil.day *ℤ pos 86_400_000) +ℤ pos (millis_of_day civil))

-- milliseconds of the years -9999 to 9999, which have a date and time
abbrev pub IsCivilMillis : (millis : ℤ) → Type 0
IsCivilMillis millis = IsBetween (neg_ℤ (pos 377_705_116_800_000)) (pos 253_402_300_799_999) millis

-- milliseconds of the years 0000 to 9999, which RFC 3339 can write
abbrev pub IsRfc3339Millis : (millis : ℤ) → Type 0
IsRfc3339Millis millis = IsBetween (neg_ℤ (pos 62_167_219_200_000)) (pos 253_402_300_799_999) millis

-- ---- The date and time of milliseconds, as a function: `HasCivilTime millis (civil_of_millis millis)` for the years -9999 to 9999.

-- the number of the day, from 1970-01-01, and the milliseconds since its midnight. The division rounds down, so that a
-- negative number of milliseconds has the fields of its own day.
abbrev pub day_of_millis : (millis : ℤ) → ℤ
day_of_millis millis = int_div_euclid millis (pos 86_400_000)

abbrev pub time_of_millis : (millis : ℤ) → ℕ
time_of_millis millis = unsigned_abs (int_rem_euclid millis (pos 86_400_000))

-- the year of a day, and the number of days before it in this year. The day is `day_offset` days after the first day of the year
-- that is `years` years after -10000. Subtracts each year that is over.
unfoldable pub year_and_day : (fuel years day_offset : ℕ) → ℕ × ℕ
year_and_day zero years day_offset = (years, day_offset)
year_and_day (suc fuel) years day_offset =
    let days_in_period = days_in_year (pos years -ℤ pos 10000) in
    if nat_lt day_offset days_in_period then (years, day_offset)
    else year_and_day fuel (suc years) (day_offset - days_in_period)

-- the same for the months of a year
unfoldable pub month_and_day : (calendar_year : ℤ) → (fuel month day_offset : ℕ) → ℕ × ℕ
month_and_day calendar_year zero month day_offset = (month, day_offset)
month_and_day calendar_year (suc fuel) month day_offset =
    let days_in_period = days_in_month calendar_year month in
    if nat_lt day_offset days_in_period then (month, day_offset)
    else month_and_day calendar_year fuel (suc month) (day_offset - days_in_period)

pub record CivilDate : Type 0 where
  pub year : ℤ
  pub month : ℕ
  pub day : ℕ

-- the date of a day number: day 0 is 4371953 days after -10000-01-01
unfoldable pub civil_date : (day : ℤ) → CivilDate
civil_date day =
    let year_pair = year_and_day 20000 0 (unsigned_abs (day +ℤ pos 4_371_953)) in
    let month_pair = month_and_day (pos year_pair.0 -ℤ pos 10000) 12 1 year_pair.1 in
    record { year = pos year_pair.0 -ℤ pos 10000; month = month_pair.0; day = month_pair.1 + 1 }

unfoldable pub civil_of_millis : (millis : ℤ) → CivilDateTime
civil_of_millis millis =
    let date = civil_date (day_of_millis millis) in
    let time = time_of_millis millis in
    record {
      year = date.year;
      month = date.month;
      day = date.day;
      hour = time / 3_600_000;
      minute = time / 60_000 % 60;
      second = time / 1000 % 60;
      millisecond = time % 1000;
    }
