use Rattle.std.proofs.Common.{◌≡◌, replicate}
use Rattle.bson_run.proofs.indent.blanks.Given as goal

abbrev pub invariant-loop : goal.invariant-loop
invariant-loop l = l.blanks.items ≡ replicate l.counter 32
