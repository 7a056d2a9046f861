use Rattle.std.proofs.Common.{◌≡◌, ◌++◌, ◌<◌, arith, length, sym, subst}
use Rattle.std.proofs.lemmas.Bool.Decides.{nat_tests}
use Rattle.bson_program.proofs.SameLaws.{one_line_more, texts}
use Rattle.bson_program.proofs.Verdicts.{line_moves, line_within}
use Rattle.bson_program.specs.Messages.{split_lines}
use Rattle.bson_program.proofs.compare_outputs.lines_of.Goals as goal

pub split_at-requires : goal.split_at-requires
split_at-requires c = omega (arith, line_within c.loop-remaining_bytes.remaining_bytes.now)

pub loop-remaining_bytes-smaller : goal.loop-remaining_bytes-smaller
loop-remaining_bytes-smaller c =
    let some : 0 < length c.loop-remaining_bytes.remaining_bytes.now = grind (arith, nat_tests) in
    omega (arith, line_moves c.loop-remaining_bytes.remaining_bytes.now some)

pub loop-remaining_bytes-preserved : goal.loop-remaining_bytes-preserved
loop-remaining_bytes-preserved c =
    let some : 0 < length c.loop-remaining_bytes.remaining_bytes.now = grind (arith, nat_tests) in
    subst (λ lines. texts lines ++ split_lines c.split_at.result.1.now ≡ split_lines c.args.output.now) (sym c.in_ok-push.ensures.items)
    (one_line_more c.loop-remaining_bytes.remaining_bytes.now c.loop-remaining_bytes.lines.items c.split_at.result.0 c.split_at.result.1.now c.args.output.now
    c.line_len.result some c.line_len.ensures c.split_at.ensures.front c.split_at.ensures.back c.loop-remaining_bytes.invariant)
