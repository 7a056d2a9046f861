-- The fields of a moment and its texts, by jiff's date and time.
use Rattle.std.proofs.Common.{◌≡◌, ℕ, ◌+◌, ◌*◌, ◌/◌, ◌%◌, true, false, refl, ◌∙◌, arith, ℤ, pos, ◌≤ℤ◌}
use Rattle.std.proofs.lemmas.Int.{ints}
use Rattle.std.specs.Int.{int_rem_euclid}
use Rattle.std.specs.Fmt.{signed_decimal}
use Rattle.jiff.specs.Types.{Time, DateTime}
use Rattle.jiff.specs.Words.{epoch_day}
use Rattle.jiff.proofs.Family.{civil_nanos-parts, time_nanos_bound, civil_nanos_range}
use Rattle.jiff.proofs.SpanFacts.{signed_arith}
use Rattle.bson_datetime.specs.JiffConversion.{HasJiffTime, fields_of}
use Rattle.bson_datetime.specs.CivilTime.{CivilDateTime, IsCivilDateTime, HasCivilTime, IsCivilMillis, civil_of_millis, day_of_millis, time_of_millis}
use Rattle.bson_datetime.specs.DateTimeText.{date_time_text, is_civil_millis, civil_text, rfc3339_text, civil_rfc3339_text}
use Rattle.bson_datetime.proofs.CivilLemmas.{date_of-date, size_of}
use Rattle.bson_datetime.proofs.MomentExists.{moment_at}

-- milliseconds since midnight
abbrev pub time_millis : Time → ℕ
time_millis t = (t.hour * 3600 + t.minute * 60 + t.second) * 1000 + t.subsec_nanosecond / 1_000_000

day_of_millis-moment : (ms : ℤ) (at : DateTime) → HasJiffTime ms at → day_of_millis ms ≡ epoch_day at.date
day_of_millis-moment ms at is = omega (arith, signed_arith, civil_nanos-parts at, time_nanos_bound at.time)

rem_natural : (ms : ℤ) → pos 0 ≤ℤ int_rem_euclid ms (pos 86_400_000)
rem_natural ms = omega (arith, signed_arith)

time_of_millis-moment : (ms : ℤ) (at : DateTime) → HasJiffTime ms at → time_of_millis ms ≡ time_millis at.time
time_of_millis-moment ms at is =
    let size = size_of _ (rem_natural ms) in
    omega (arith, signed_arith, civil_nanos-parts at, time_nanos_bound at.time, size, day_of_millis-moment ms at is)

in_range : (ms : ℤ) → IsCivilMillis ms → is_civil_millis ms ≡ true
in_range ms h = grind (arith, ints)

out_of_range : (ms : ℤ) → ¬ (IsCivilMillis ms) → is_civil_millis ms ≡ false
out_of_range ms h = grind (arith, ints)

pub display_text-outside : (ms : ℤ) → ¬ (IsCivilMillis ms) → date_time_text ms ≡ signed_decimal ms
unfolding date_time_text
display_text-outside ms h = rw (out_of_range ms h)

moment-range : (ms : ℤ) (at : DateTime) → HasJiffTime ms at → IsCivilMillis ms
moment-range ms at is = let range = civil_nanos_range at in (omega (arith, signed_arith), omega (arith, signed_arith))

-- the fields of a time
hour_is : (t : Time) → time_millis t / 3_600_000 ≡ t.hour
hour_is t = omega arith

minute_is : (t : Time) → time_millis t / 60_000 % 60 ≡ t.minute
minute_is t = omega arith

second_is : (t : Time) → time_millis t / 1000 % 60 ≡ t.second
second_is t = omega arith

milli_is : (t : Time) → time_millis t % 1000 ≡ t.subsec_nanosecond / 1_000_000
milli_is t = omega arith

-- the function gives the fields of jiff's date and time
pub civil_of_millis-jiff : (ms : ℤ) (at : DateTime) → HasJiffTime ms at → civil_of_millis ms ≡ fields_of at
unfolding civil_of_millis
civil_of_millis-jiff ms at is =
    rw (
      day_of_millis-moment ms at is,
      time_of_millis-moment ms at is,
      date_of-date at.date,
      hour_is at.time,
      minute_is at.time,
      second_is at.time,
      milli_is at.time,
    ) refl

pub display_text-moment : (ms : ℤ) (at : DateTime) → HasJiffTime ms at → date_time_text ms ≡ civil_text (fields_of at)
unfolding date_time_text
display_text-moment ms at is = rw (in_range ms (moment-range ms at is), civil_of_millis-jiff ms at is) refl

-- jiff's date and time has the fields of the moment
moment-fields : (ms : ℤ) (at : DateTime) → HasJiffTime ms at → HasCivilTime ms (fields_of at)
moment-fields ms at is = (
  ((at.date.year_in, at.date.month_in, at.date.day_in), omega arith, omega arith, omega arith, omega arith),
  omega (arith, signed_arith, civil_nanos-parts at),
)

-- each moment of the years -9999 to 9999 has the fields that the function gives
pub moment-civil_of_millis : (ms : ℤ) → IsCivilMillis ms → HasCivilTime ms (civil_of_millis ms)
moment-civil_of_millis ms h =
    let at = moment_at ms h in
    rw (civil_of_millis-jiff ms at.0 at.1) (moment-fields ms at.0 at.1)

-- jiff's date and time with these fields
jiff_of : (c : CivilDateTime) → IsCivilDateTime c → DateTime
jiff_of c is =
    let time : Time = record {
      hour = c.hour;
      minute = c.minute;
      second = c.second;
      subsec_nanosecond = c.millisecond * 1_000_000;
      hour_in = is.1;
      minute_in = is.2;
      second_in = is.3;
      subsec_in = omega arith;
    } in
    record {
      date = record {
        year = c.year;
        month = c.month;
        day = c.day;
        year_in = is.0.0;
        month_in = is.0.1;
        day_in = is.0.2;
      };
      time = time;
    }

fields_of-jiff_of : (c : CivilDateTime) (is : IsCivilDateTime c) → fields_of (jiff_of c is) ≡ c
unfolding jiff_of
fields_of-jiff_of c is =
    let whole : c.millisecond * 1_000_000 / 1_000_000 ≡ c.millisecond = omega arith in
    rw whole refl

jiff_of-moment : (ms : ℤ) (c : CivilDateTime) (is : HasCivilTime ms c) → HasJiffTime ms (jiff_of c is.0)
unfolding jiff_of
jiff_of-moment ms c is = omega (arith, signed_arith, civil_nanos-parts (jiff_of c is.0), is.1)

-- a moment has one date and time
pub civil_of_millis-moment : (ms : ℤ) (c : CivilDateTime) → HasCivilTime ms c → civil_of_millis ms ≡ c
civil_of_millis-moment ms c is = civil_of_millis-jiff ms (jiff_of c is.0) (jiff_of-moment ms c is) ∙ fields_of-jiff_of c is.0

-- and is in the years that the calendar has
pub moment-within : (ms : ℤ) (c : CivilDateTime) → HasCivilTime ms c → IsCivilMillis ms
moment-within ms c is = moment-range ms (jiff_of c is.0) (jiff_of-moment ms c is)

pub rfc-fields : (ms : ℤ) (c : CivilDateTime) → HasCivilTime ms c → rfc3339_text ms ≡ civil_rfc3339_text c
unfolding rfc3339_text
rfc-fields ms c is = rw (civil_of_millis-moment ms c is) refl
