use Rattle.std.proofs.Common.{◌≡◌, ◌+◌, drop}
use Rattle.std.specs.List.{prefix_len}
use Rattle.bson_decimal.specs.NumeralGrammar.{is_zero}
use Rattle.bson_decimal.proofs.digits.Digits.zeros_after.Given as goal

abbrev pub invariant-loop-digit_index : goal.invariant-loop-digit_index
invariant-loop-digit_index l = l.digit_index + prefix_len is_zero (drop l.digit_index l.self) ≡ l.digit_count + prefix_len is_zero (drop l.digit_count l.self)
