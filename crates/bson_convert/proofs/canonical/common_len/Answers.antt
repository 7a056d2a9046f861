use Rattle.bson_convert.proofs.Differences.{differ_there}
use Rattle.bson_convert.proofs.canonical.common_len.Goals as goal

pub returns-then-left_text-byte_index-clause-maximal : goal.returns-then-left_text-byte_index-clause-maximal
returns-then-left_text-byte_index-clause-maximal c =
    λ other. differ_there c.loop-byte_index.byte_index c.args.left_text.now c.args.right_text.now 0 c.if-left_text-byte_index.true
