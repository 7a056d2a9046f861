use Rattle.std.proofs.Common.{length}
use Rattle.bson_run.proofs.diagnostic.+write_segments.Given as goal

abbrev pub decreases-write_segments : goal.decreases-write_segments
decreases-write_segments p = length p.segments.now
