use Rattle.std.proofs.Common.{◌<◌, length, arith}
use Rattle.std.proofs.lemmas.Grind.{common_steps}
use Rattle.bson_run.proofs.LinesLaws.{no_last, last_taken, last_stops, errs_with, oks}
use Rattle.bson_run.proofs.line_run_state.LineRunState.finish_last_line.Goals as goal

pub returns-then-is_empty-clause-ok : goal.returns-then-is_empty-clause-ok
returns-then-is_empty-clause-ok c = no_last _ (grind (arith, common_steps))

pub returns-clause-ok : goal.returns-clause-ok
returns-clause-ok c =
    let some : 0 < length c.args.self.now.line.items = grind (arith, common_steps) in
    oks c.end_line.result c.end_line.ensures.ok (last_taken c.args.self.now c.end_line.new.self some)

pub returns-clause-fault : goal.returns-clause-fault
returns-clause-fault c =
    let some : 0 < length c.args.self.now.line.items = grind (arith, common_steps) in
    errs_with c.end_line.result c.end_line.ensures.unchanged c.end_line.ensures.keeps_line c.end_line.ensures.fault
    (λ e unchanged rejected_text p. last_stops e c.args.self.now c.end_line.new.self some p unchanged rejected_text)
