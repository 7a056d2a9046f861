use Rattle.std.specs.Prelude.{◌≡◌, ◌++◌, length, map}
use Rattle.bson_program.specs.Messages.{split_lines}
use Rattle.bson_program.proofs.compare_outputs.lines_of.Given as goal

abbrev pub invariant-loop-remaining_bytes : goal.invariant-loop-remaining_bytes
invariant-loop-remaining_bytes l = map (λ line. line.now) l.lines.items ++ split_lines l.remaining_bytes ≡ split_lines l.output

abbrev pub decreases-loop-remaining_bytes : goal.decreases-loop-remaining_bytes
decreases-loop-remaining_bytes l = length l.remaining_bytes
