use Rattle.std.specs.Prelude.{length}
use Rattle.bson_program.proofs.Advising.{IsEnd}
use Rattle.bson_program.proofs.advice.first_advice.Given as goal

abbrev pub invariant-loop-remaining_bytes : goal.invariant-loop-remaining_bytes
invariant-loop-remaining_bytes l = IsEnd l.remaining_bytes l.first_bytes

abbrev pub decreases-loop-remaining_bytes : goal.decreases-loop-remaining_bytes
decreases-loop-remaining_bytes l = length l.remaining_bytes
