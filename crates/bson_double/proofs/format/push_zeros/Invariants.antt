use Rattle.std.proofs.Common.{◌≡◌, ◌++◌, replicate}
use Rattle.bson_double.proofs.format.push_zeros.Given as goal

abbrev pub invariant-loop-zero : goal.invariant-loop-zero
invariant-loop-zero l = l.text.bytes ≡ l.initial.text.bytes ++ replicate l._zero 48
