use Rattle.std.proofs.lemmas.Result.{err_from_is_err_and}
use Rattle.bson_run.proofs.LinesRuns.{end_cut, end_done, end_fails}
use Rattle.bson_run.proofs.lines.finish_run.Goals as goal

pub returns-in_err-flush_buffers-clause-fails : goal.returns-in_err-flush_buffers-clause-fails
returns-in_err-flush_buffers-clause-fails g c =
    let p = err_from_is_err_and c.from_residual.result c.from_residual.ensures.1 in
    let partly_written = c.in_err-flush_buffers.ensures in
    rw (p.1, p.2) (λ before after output_before diagnostics_before running at_end.
    end_cut c.finish_last_line-step_result.result c.in_err-flush_buffers.field-0.0 c.args.state.now c.finish_last_line-step_result.new.self
    c.flush_buffers.new.state c.finish_last_line-step_result.ensures.ok c.finish_last_line-step_result.ensures.fault partly_written.fault partly_written.keeps_line_count
    before after output_before _ _ diagnostics_before _ _ partly_written.partly_written running at_end)

pub returns-in_err-step_result-clause-fails : goal.returns-in_err-step_result-clause-fails
returns-in_err-step_result-clause-fails g c =
    let p = err_from_is_err_and c.from_residual-in_err-step_result.result c.from_residual-in_err-step_result.ensures.1 in
    let e = c.in_err-step_result.field-0.0 in
    let out = c.in_ok-flush_buffers.ensures in
    rw (p.1, p.2) (λ before after output_before diagnostics_before running at_end.
    end_fails e c.args.state.now c.finish_last_line-step_result.new.self c.flush_buffers.new.state before after output_before _ _
    diagnostics_before _ _ c.in_err-step_result.ensures.fault out.ok out.written out.reports_appended running at_end)

pub returns-clause-done : goal.returns-clause-done
returns-clause-done g c =
    let out = c.in_ok-flush_buffers.ensures in
    λ before after output_before diagnostics_before running at_end.
    end_done c.args.state.now c.finish_last_line-step_result.new.self c.flush_buffers.new.state before after output_before _ _ diagnostics_before _ _
    c.in_ok-step_result.ensures.ok out.ok out.written out.reports_appended running at_end
