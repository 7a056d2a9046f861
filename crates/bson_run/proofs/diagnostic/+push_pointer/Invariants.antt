use Rattle.std.proofs.Common.{length}
use Rattle.bson_run.proofs.diagnostic.+push_pointer.Given as goal

abbrev pub decreases-push_pointer : goal.decreases-push_pointer
decreases-push_pointer p = length p.segments.now
