use Rattle.std.proofs.Common.{◌+◌, ◌*◌, length}
use Rattle.bson_run.proofs.quoted_value.+passing.Given as goal

abbrev pub decreases-value_at : goal.decreases-value_at
decreases-value_at p = 2 * length p.segments.now

abbrev pub decreases-value_in_array : goal.decreases-value_in_array
decreases-value_in_array p = 2 * length p.inner_segments.now + 1

abbrev pub decreases-value_in_object : goal.decreases-value_in_object
decreases-value_in_object p = 2 * length p.inner_segments.now + 1
