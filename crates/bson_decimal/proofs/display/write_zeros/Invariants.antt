use Rattle.std.proofs.Common.{replicate}
use Rattle.std.specs.Fmt.{HasWritten, IsPlainFormatter}
use Rattle.bson_decimal.proofs.display.write_zeros.Given as goal

abbrev pub invariant-loop-i : goal.invariant-loop-i
invariant-loop-i g l =
    IsPlainFormatter l.initial.formatter → HasWritten g.W.Write.write_str_gives l.initial.formatter (replicate l._i 48) l.formatter
