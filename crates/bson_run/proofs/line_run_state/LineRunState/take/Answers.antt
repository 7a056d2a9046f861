use Rattle.std.proofs.Common.{◌++◌, ◌∷◌, [], take, ◌∙◌}
use Rattle.std.proofs.lemmas.Result.{err_from_is_err_and}
use Rattle.bson_run.proofs.LinesLaws.{errs_alone, line_taken, line_stops_in, memory_stops, regrouped, take_more}
use Rattle.bson_run.proofs.LinesLaws.{whole_stops}
use Rattle.bson_run.proofs.line_run_state.LineRunState.take.Goals as goal

pub returns-in_err-extend_line-clause-fault : goal.returns-in_err-extend_line-clause-fault
returns-in_err-extend_line-clause-fault c =
    let p = err_from_is_err_and c.from_residual.result c.from_residual.ensures.1 in
    let inv = c.loop-newline_offset.invariant.1 in
    let e = c.in_err-extend_line.field-0.0 in
    rw (p.1, p.2)
    (whole_stops c.args.bytes.now inv.0 c.loop-newline_offset.unread_bytes.now e c.args.self.now c.loop-newline_offset.self c.extend_line.new.self
    inv.1 inv.2
    (memory_stops c.loop-newline_offset.unread_bytes.now e c.loop-newline_offset.self c.extend_line.new.self c.in_err-extend_line.ensures.fault
    c.extend_line.ensures.unchanged))

pub returns-in_err-end_line-clause-fault : goal.returns-in_err-end_line-clause-fault
returns-in_err-end_line-clause-fault c =
    let p = err_from_is_err_and c.from_residual-in_err-end_line.result c.from_residual-in_err-end_line.ensures.1 in
    let inv = c.loop-newline_offset.invariant.1 in
    let e = c.in_err-end_line.field-0.0 in
    let found = c.in-Some.ensures in
    rw (p.1, p.2)
    (whole_stops c.args.bytes.now inv.0 c.loop-newline_offset.unread_bytes.now e c.args.self.now c.loop-newline_offset.self c.end_line.new.self inv.1
    inv.2
    (line_stops_in c.loop-newline_offset.unread_bytes.now c.in-Some.newline_offset e c.loop-newline_offset.self c.extend_line.new.self c.end_line.new.self found.0
    found.1 found.2 c.in_ok-extend_line.ensures.ok c.extend_line.ensures.unchanged c.in_err-end_line.ensures.fault
    c.in_err-end_line.ensures.unchanged c.in_err-end_line.ensures.keeps_line))

pub returns-clause-fault : goal.returns-clause-fault
returns-clause-fault c =
    let inv = c.loop-newline_offset.invariant.1 in
    errs_alone c.extend_line-2.result c.extend_line-2.ensures.fault (λ e p.
    whole_stops c.args.bytes.now inv.0 c.loop-newline_offset.unread_bytes.now e c.args.self.now c.loop-newline_offset.self c.extend_line-2.new.self
    inv.1 inv.2
    (memory_stops c.loop-newline_offset.unread_bytes.now e c.loop-newline_offset.self c.extend_line-2.new.self p c.extend_line-2.ensures.unchanged))

pub loop-newline_offset-preserved : goal.loop-newline_offset-preserved
loop-newline_offset-preserved c =
    let inv = c.loop-newline_offset.invariant.1 in
    let unread_bytes = c.loop-newline_offset.unread_bytes.now in
    let newline_offset = c.in-Some.newline_offset in
    let found = c.in-Some.ensures in
    let line = take newline_offset unread_bytes ++ 10 ∷ [] in (
      c.in_ok-end_line.ensures.room,
      (
        inv.0 ++ line,
        inv.1 ∙ regrouped inv.0 unread_bytes newline_offset found.0 found.2,
        take_more inv.0 line c.args.self.now c.loop-newline_offset.self c.end_line.new.self inv.2
            (line_taken (take newline_offset unread_bytes) c.loop-newline_offset.self c.extend_line.new.self c.end_line.new.self found.1
            c.in_ok-extend_line.ensures.ok c.extend_line.ensures.unchanged c.in_ok-end_line.ensures.ok),
      ),
    )
