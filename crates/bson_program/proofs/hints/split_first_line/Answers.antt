use Rattle.std.proofs.Common.{arith}
use Rattle.bson_program.proofs.Verdicts.{line_within}
use Rattle.bson_program.proofs.hints.split_first_line.Goals as goal

pub split_at-requires : goal.split_at-requires
split_at-requires c = omega (arith, line_within c.args.first_bytes.now)
