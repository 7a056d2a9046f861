use Rattle.std.proofs.Common.{◌≡◌, ◌+◌, ◌^◌, ◌<◌, ◌++◌, length, drop}
use Rattle.std.specs.Fmt.{decimal}
use Rattle.bson_decimal.proofs.display.write_digits.Given as goal

abbrev pub invariant-loop-remaining_coefficient : goal.invariant-loop-remaining_coefficient
invariant-loop-remaining_coefficient l =
    (l.digit_index < 34) × (length l.buffer ≡ 34) × (l.remaining_coefficient < 10 ^ (l.digit_index + 1))
    × (decimal l.remaining_coefficient ++ drop (l.digit_index + 1) l.buffer ≡ decimal l.coefficient)

abbrev pub decreases-loop-remaining_coefficient : goal.decreases-loop-remaining_coefficient
decreases-loop-remaining_coefficient l = l.remaining_coefficient
