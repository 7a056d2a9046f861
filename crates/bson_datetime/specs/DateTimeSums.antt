-- Sums and differences of date-times, which are numbers of milliseconds.
use Rattle.std.specs.Prelude.{ℕ, ◌/◌, ℤ, pos, ◌+ℤ◌, ◌-ℤ◌, ◌*ℤ◌}
use Rattle.std.specs.Int.{int_min, int_max}
use Rattle.std.specs.Duration.{as_nanos}
use Rattle.std.specs.declared.time.Duration.{Duration}

-- the last date-time, `DateTime::MAX`: 2 ^ 63 - 1
abbrev pub max_millis : ℤ
max_millis = pos 9_223_372_036_854_775_807

-- the whole milliseconds of a duration
abbrev pub whole_millis : Duration → ℕ
whole_millis duration = as_nanos duration / 1_000_000

-- a length in milliseconds, as the nanoseconds of a duration
abbrev pub nanos_of_millis : (millis : ℤ) → ℤ
nanos_of_millis millis = millis *ℤ pos 1_000_000

-- the exact sum with a duration, but at most the last date-time
abbrev pub saturating_sum : (millis : ℤ) → Duration → ℤ
saturating_sum millis duration = int_min max_millis (millis +ℤ pos (whole_millis duration))

-- the milliseconds since `earlier`, or 0 if `earlier` is later
abbrev pub millis_since : (millis earlier : ℤ) → ℤ
millis_since millis earlier = int_max (pos 0) (millis -ℤ earlier)
