use Rattle.bson_run.specs.LinesSteps.{LineCountFits, RunProgress}
use Rattle.bson_run.proofs.lines.run_from_start.Given as goal

abbrev pub invariant-loop : goal.invariant-loop
invariant-loop g l = record {
  room : LineCountFits l.state;
  running : RunProgress l.settings.options l.settings.task l.settings.on_refusal (g.R.Read.remaining l.initial.reader)
      (g.R.Read.remaining l.reader) (g.W.Write.contents l.initial.writer) (g.W.Write.contents l.writer)
      (g.T.Write.contents l.initial.diagnostics_writer) (g.T.Write.contents l.diagnostics_writer) l.state;
}
