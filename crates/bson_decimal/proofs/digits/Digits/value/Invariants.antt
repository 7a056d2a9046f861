use Rattle.std.proofs.Common.{◌≡◌, take}
use Rattle.std.specs.Str.Parse.{AllDigits, digits_value}
use Rattle.bson_decimal.proofs.digits.Digits.value.Given as goal

abbrev pub invariant-loop-digit_index : goal.invariant-loop-digit_index
invariant-loop-digit_index l = AllDigits 10 (take l.digit_index l.self) × (l.number ≡ digits_value 10 (take l.digit_index l.self))
