-- The builder of a date-time: its fields after each call.
use Rattle.std.specs.Prelude.{ℕ, ℤ, None, Some, unwrap_or}
use Rattle.bson_datetime.specs.CivilTime.{CivilDateTime}
use Rattle.bson_datetime.specs.declared.builder.DateTimeBuilder.{DateTimeBuilder}
use Rattle.bson_datetime.specs.declared.builder.NoYear.{NoYear}
use Rattle.bson_datetime.specs.declared.builder.NoMonth.{NoMonth}
use Rattle.bson_datetime.specs.declared.builder.NoDay.{NoDay}
use Rattle.bson_datetime.specs.declared.builder.Year.{Year}
use Rattle.bson_datetime.specs.declared.builder.Month.{Month}
use Rattle.bson_datetime.specs.declared.builder.Day.{Day}

-- a builder with nothing set
abbrev pub empty_builder : DateTimeBuilder NoYear NoMonth NoDay
empty_builder = record {
  year = record {};
  month = record {};
  day = record {};
  time = record { hour = None; minute = None; second = None; millisecond = None };
}

-- a builder with one more field set; the other fields are unchanged
abbrev pub with_year : {M D : Type 0} → ℤ → DateTimeBuilder NoYear M D → DateTimeBuilder Year M D
with_year new_value builder = record {
  year = record { calendar_value = new_value };
  month = builder.month;
  day = builder.day;
  time = builder.time;
}

abbrev pub with_month : {Y D : Type 0} → ℕ → DateTimeBuilder Y NoMonth D → DateTimeBuilder Y Month D
with_month new_value builder = record {
  year = builder.year;
  month = record { calendar_value = new_value };
  day = builder.day;
  time = builder.time;
}

abbrev pub with_day : {Y M : Type 0} → ℕ → DateTimeBuilder Y M NoDay → DateTimeBuilder Y M Day
with_day new_value builder = record {
  year = builder.year;
  month = builder.month;
  day = record { calendar_value = new_value };
  time = builder.time;
}

-- the time of day: the last call counts
module _ {Y M D : Type 0} where
  abbrev pub with_hour : ℕ → DateTimeBuilder Y M D → DateTimeBuilder Y M D
  with_hour new_value builder = record builder { time = record builder.time { hour = Some new_value } }

  abbrev pub with_minute : ℕ → DateTimeBuilder Y M D → DateTimeBuilder Y M D
  with_minute new_value builder = record builder { time = record builder.time { minute = Some new_value } }

  abbrev pub with_second : ℕ → DateTimeBuilder Y M D → DateTimeBuilder Y M D
  with_second new_value builder = record builder { time = record builder.time { second = Some new_value } }

  abbrev pub with_millisecond : ℕ → DateTimeBuilder Y M D → DateTimeBuilder Y M D
  with_millisecond new_value builder = record builder { time = record builder.time { millisecond = Some new_value } }

-- the date and time of a builder whose date is set; a part of the time that was not set is 0
abbrev pub civil_fields : DateTimeBuilder Year Month Day → CivilDateTime
civil_fields builder = record {
  year = builder.year.calendar_value;
  month = builder.month.calendar_value;
  day = builder.day.calendar_value;
  hour = unwrap_or builder.time.hour 0;
  minute = unwrap_or builder.time.minute 0;
  second = unwrap_or builder.time.second 0;
  millisecond = unwrap_or builder.time.millisecond 0;
}
