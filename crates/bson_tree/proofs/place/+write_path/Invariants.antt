use Rattle.std.proofs.Common.{length}
use Rattle.bson_tree.proofs.place.+write_path.Given as goal

abbrev pub decreases-write_path : goal.decreases-write_path
decreases-write_path p = length p.segments.now
