use Rattle.std.proofs.Common.{length}
use Rattle.bson_run.proofs.syntax_error.number_out_of_range.Given as goal

abbrev pub decreases-loop-token : goal.decreases-loop-token
decreases-loop-token l = length l.reader
