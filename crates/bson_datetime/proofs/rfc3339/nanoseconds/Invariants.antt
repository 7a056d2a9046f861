use Rattle.std.proofs.Common.{◌≡◌, ◌+◌, ◌-◌, ◌^◌, ◌≤◌, drop, length}
use Rattle.jiff_fmt.specs.Reader.{fraction_value}
use Rattle.bson_datetime.proofs.rfc3339.nanoseconds.Given as goal

abbrev pub invariant-digits : goal.invariant-digits
invariant-digits l =
    (l.place_value ≡ 10 ^ (9 - l.digit-index)) × (l.nanosecond + l.place_value ≤ 1_000_000_000) × (length l.counted_digits ≤ 9)
    × (l.nanosecond + fraction_value (9 - l.digit-index) (drop l.digit-index l.counted_digits) ≡ fraction_value 9 l.counted_digits)
