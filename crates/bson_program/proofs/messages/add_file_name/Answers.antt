use Rattle.std.proofs.Common.{◌<◌, arith, length}
use Rattle.std.proofs.lemmas.Bool.Decides.{nat_tests}
use Rattle.bson_program.proofs.Verdicts.{line_moves, line_within, named_on}
use Rattle.bson_program.proofs.messages.add_file_name.Goals as goal

pub split_at-requires : goal.split_at-requires
split_at-requires c = omega (arith, line_within c.loop-remaining_bytes.remaining_bytes.now)

pub loop-remaining_bytes-smaller : goal.loop-remaining_bytes-smaller
loop-remaining_bytes-smaller c =
    let some : 0 < length c.loop-remaining_bytes.remaining_bytes.now = grind (arith, nat_tests) in
    omega (arith, line_moves c.loop-remaining_bytes.remaining_bytes.now some)

pub loop-remaining_bytes-preserved : goal.loop-remaining_bytes-preserved
loop-remaining_bytes-preserved c =
    let some : 0 < length c.loop-remaining_bytes.remaining_bytes.now = grind (arith, nat_tests) in
    named_on c.args.format c.args.file_name.now c.loop-remaining_bytes.remaining_bytes.now _ _ c.loop-remaining_bytes.named_diagnostics.items _ _ c.line_len.result some
    c.line_len.ensures c.split_at.ensures.front c.split_at.ensures.back c.in_ok-push_in_format.ensures c.loop-remaining_bytes.invariant
