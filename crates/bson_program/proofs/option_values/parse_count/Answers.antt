use Rattle.std.proofs.Common.{sym, ◌∙◌, arith, ◌≡◌, ◌≢◌, ◌<◌, ◌^◌, get_or}
use Rattle.std.proofs.lemmas.Bool.Decides.{nat_tests}
use Rattle.bson_program.proofs.Spaces.{begins_well, is_count, not_so, reads_count}
use Rattle.bson_program.proofs.option_values.parse_count.Goals as goal

pub returns-then-starts_with_sign_or_zero : goal.returns-then-starts_with_sign_or_zero
returns-then-starts_with_sign_or_zero c count some few is =
    let small : count < 2 ^ 64 = omega (arith, c.ranges.maximum) in
    not_so c.args.arg.now _ c.starts_with_sign_or_zero.ensures c.if-starts_with_sign_or_zero.true (begins_well c.args.arg.now count some small is)

pub returns-in-Ok : goal.returns-in-Ok
returns-in-Ok c =
    let tests = sym c.starts_with_sign_or_zero.ensures ∙ c.if-starts_with_sign_or_zero.false in
    let plus : get_or c.args.arg.now 0 0 ≢ 43 = grind (arith, nat_tests) in
    let other : get_or c.args.arg.now 0 0 ≢ 48 = grind (arith, nat_tests) in
    let it = is_count c.args.arg.now c.parse.result c.in-Ok.count c.parse.ensures.value.0 c.in-Ok.is plus other in
    (it.0, it.1, c.if-count-maximum.true)

pub returns-in_default : goal.returns-in_default
returns-in_default c count some few is =
    let small : count < 2 ^ 64 = omega (arith, c.ranges.maximum) in
    let read = reads_count c.args.arg.now c.parse.result count c.parse.ensures.value.0 small is in
    let same : c.in-Ok.count ≡ count = cc (sym c.in-Ok.is ∙ read) in
    absurd (omega arith)

pub returns-in_default-2 : goal.returns-in_default-2
returns-in_default-2 c count some few is =
    let small : count < 2 ^ 64 = omega (arith, c.ranges.maximum) in
    let read = reads_count c.args.arg.now c.parse.result count c.parse.ensures.value.0 small is in
    absurd cc
