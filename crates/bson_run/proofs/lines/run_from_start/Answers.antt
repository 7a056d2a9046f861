use Rattle.std.proofs.Common.{arith}
use Rattle.std.proofs.KnownBytes.{Keeps-refl}
use Rattle.std.proofs.lemmas.Result.{err_from_is_err_and}
use Rattle.bson_run.proofs.LinesLaws.{errs_alone, oks_with}
use Rattle.bson_run.proofs.LinesRuns.{drained, starts, unread}
use Rattle.bson_run.proofs.lines.run_from_start.Goals as goal

pub loop-init : goal.loop-init
loop-init g c = record {
  room = c.requires.room;
  running = starts _ _ _ c.args.state.now c.requires.start;
}

pub returns-in_default-clause-fails : goal.returns-in_default-clause-fails
returns-in_default-clause-fails g c =
    unread _ _ _ _ _ _ _ c.loop.state c.in_default.ensures.bytes c.loop.invariant.running

pub returns-then-read_count-eq0-clause-done : goal.returns-then-read_count-eq0-clause-done
returns-then-read_count-eq0-clause-done g c =
    let all = drained c.read.new.buf c.if-read_count-eq0.true (omega arith) c.in-Ok.ensures.bytes c.loop.invariant.running in
    oks_with c.finish_run.result c.finish_run.ensures.done (λ counts done. done _ _ _ _ all.0 all.1)

pub returns-then-read_count-eq0-clause-fails : goal.returns-then-read_count-eq0-clause-fails
returns-then-read_count-eq0-clause-fails g c =
    let all = drained c.read.new.buf c.if-read_count-eq0.true (omega arith) c.in-Ok.ensures.bytes c.loop.invariant.running in
    errs_alone c.finish_run.result c.finish_run.ensures.fails (λ e fails. fails _ _ _ _ all.0 all.1)

pub returns-in_err-process_block-clause-fails : goal.returns-in_err-process_block-clause-fails
returns-in_err-process_block-clause-fails g c =
    let p = err_from_is_err_and c.from_residual.result c.from_residual.ensures.1 in
    rw (p.1, p.2) (c.in_err-process_block.ensures.fails _ _ _ _ _ c.loop.invariant.running c.in-Ok.ensures.bytes.0)

pub loop-preserved : goal.loop-preserved
loop-preserved g c = record {
  room = c.in_ok-process_block.ensures.room;
  running = c.in_ok-process_block.ensures.ok _ _ _ _ _ c.loop.invariant.running c.in-Ok.ensures.bytes.0;
}

pub returns-clause-fails : goal.returns-clause-fails
returns-clause-fails g c =
    unread _ _ _ _ _ _ _ c.loop.state (Keeps-refl (g.R.Read.remaining c.loop.reader)) c.loop.invariant.running
