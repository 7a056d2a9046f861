use Rattle.std.proofs.Common.{length, take, ◌-◌, ◌≤◌}
use Rattle.std.specs.Io.KnownBytes.{Appends}
use Rattle.bson_convert.proofs.stream.write_whole.Given as goal

abbrev pub invariant-loop-written_count : goal.invariant-loop-written_count
invariant-loop-written_count g l = (l.written_count ≤ length l.bytes)
    × Appends (g.W.Write.contents l.initial.writer) (g.W.Write.contents l.writer) (take l.written_count l.bytes)

abbrev pub decreases-loop-written_count : goal.decreases-loop-written_count
decreases-loop-written_count g l = length l.bytes - l.written_count
