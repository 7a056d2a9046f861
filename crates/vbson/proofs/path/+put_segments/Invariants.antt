use Rattle.std.proofs.Common.{length}
use Rattle.vbson.proofs.path.+put_segments.Given as goal

abbrev pub decreases-put_segments : goal.decreases-put_segments
decreases-put_segments l = length l.segments.now
