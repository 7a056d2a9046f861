-- Conversions between milliseconds and the dates and times of `jiff`. Only private contracts and proofs cite them.
use Rattle.std.specs.Prelude.{◌≡◌, ◌/◌, ℤ, pos, ◌*ℤ◌}
use Rattle.jiff.specs.Types.{DateTime}
use Rattle.jiff.specs.Words.{civil_nanos}
use Rattle.bson_datetime.specs.CivilTime.{CivilDateTime}

-- the date and time of `jiff` is this number of milliseconds
abbrev pub HasJiffTime : (millis : ℤ) → DateTime → Type 0
HasJiffTime millis jiff_time = civil_nanos jiff_time ≡ millis *ℤ pos 1_000_000

-- the fields of jiff's date and time
abbrev pub fields_of : DateTime → CivilDateTime
fields_of jiff_time = record {
  year = jiff_time.date.year;
  month = jiff_time.date.month;
  day = jiff_time.date.day;
  hour = jiff_time.time.hour;
  minute = jiff_time.time.minute;
  second = jiff_time.time.second;
  millisecond = jiff_time.time.subsec_nanosecond / 1_000_000;
}
