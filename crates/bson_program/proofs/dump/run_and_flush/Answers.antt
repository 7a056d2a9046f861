use Rattle.std.specs.Io.Buffered.{writer_buffer, writer_contents, writer_inner}
use Rattle.bson_program.proofs.Dumping.{cut_dump, on_ok}
use Rattle.bson_program.proofs.dump.run_and_flush.Goals as goal

-- the run ended at a document, and goes on after the file
pub returns-in-Err-clause-done : goal.returns-in-Err-clause-done
returns-in-Err-clause-done g c =
    let run_end = c.in-Err.run_end in
    on_ok c.report_end.result _ _ (λ counts is.
    cut_dump c.args.run (g.R.Read.remaining c.args.reader.now) (g.R.Read.remaining c.run_documents-run_result.new.reader)
    (g.W.Write.contents (writer_inner c.args.writer.now))
    (writer_contents g.W.Write.contents c.run_documents-run_result.new.writer)
    (g.W.Write.contents (writer_inner c.flush.new.self)) (g.T.Write.contents c.args.diagnostics_writer.now)
    (g.T.Write.contents c.run_documents-run_result.new.report) (g.T.Write.contents c.report_end.new.diagnostics_writer)
    (writer_buffer c.args.writer.now) (writer_buffer c.flush.new.self) run_end.fault run_end.number run_end.refused run_end.start
    counts.documents counts.refused c.in-Err.ensures.fails c.requires c.in-Ok.ensures.ok c.in-Ok.ensures.bytes
    c.if-run.true is.0 is.1 is.2 is.3)
    c.report_end.ensures.reports_appended
