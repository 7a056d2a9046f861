use Rattle.std.specs.Prelude.{length}
use Rattle.bson_program.proofs.TextParts.{AreCounted}
use Rattle.bson_program.proofs.texts.has_two_texts.Given as goal

abbrev pub invariant-loop-remaining_bytes : goal.invariant-loop-remaining_bytes
invariant-loop-remaining_bytes l = AreCounted l.content l.remaining_bytes l.has_first_text

abbrev pub decreases-loop-remaining_bytes : goal.decreases-loop-remaining_bytes
decreases-loop-remaining_bytes l = length l.remaining_bytes
