use Rattle.std.specs.Prelude.{◌+◌, cond, length}
use Rattle.bson_program.proofs.Sequences.{Reaches}
use Rattle.bson_program.proofs.texts.convert_sequence.Given as goal

abbrev pub invariant-loop-has_more : goal.invariant-loop-has_more
invariant-loop-has_more g l =
    Reaches l.sequence.separator l.invocation l.sequence.bytes.now l.remaining_bytes l.has_more (g.W.Write.contents l.initial.writer)
    (g.W.Write.contents l.writer)

abbrev pub decreases-loop-has_more : goal.decreases-loop-has_more
decreases-loop-has_more g l = length l.remaining_bytes + cond l.has_more 1 0
