use Rattle.std.proofs.lemmas.Result.{err_from_is_err_and}
use Rattle.bson_run.proofs.LinesLaws.{errs_alone, oks}
use Rattle.bson_run.proofs.LinesRuns.{block_cut, block_done, block_fails}
use Rattle.bson_run.proofs.lines.process_block.Goals as goal

pub returns-in_err-flush_buffers-clause-fails : goal.returns-in_err-flush_buffers-clause-fails
returns-in_err-flush_buffers-clause-fails g c =
    let p = err_from_is_err_and c.from_residual.result c.from_residual.ensures.1 in
    let partly_written = c.in_err-flush_buffers.ensures in
    rw (p.1, p.2) (λ before given after output_before diagnostics_before running consumed.
    block_cut c.take-step_result.result c.in_err-flush_buffers.field-0.0 c.args.block.now c.args.state.now
    c.take-step_result.new.self c.flush_buffers.new.state c.take-step_result.ensures.ok c.take-step_result.ensures.fault partly_written.fault partly_written.keeps_line_count
    before given after output_before _ _ diagnostics_before _ _ partly_written.partly_written running consumed)

pub returns-clause-ok : goal.returns-clause-ok
returns-clause-ok g c =
    let out = c.in_ok-flush_buffers.ensures in
    oks c.take-step_result.result c.take-step_result.ensures.ok (λ takes before given after output_before diagnostics_before running consumed.
    block_done c.args.block.now c.args.state.now c.take-step_result.new.self c.flush_buffers.new.state before given after output_before
    _ _ diagnostics_before _ _ takes out.ok out.written out.reports_appended running consumed)

pub returns-clause-fails : goal.returns-clause-fails
returns-clause-fails g c =
    let out = c.in_ok-flush_buffers.ensures in
    errs_alone c.take-step_result.result c.take-step_result.ensures.fault (λ e stops before given after output_before diagnostics_before running consumed.
    block_fails e c.args.block.now c.args.state.now c.take-step_result.new.self c.flush_buffers.new.state before
    given after output_before _ _ diagnostics_before _ _ stops out.ok out.written out.reports_appended running consumed)
