use Rattle.std.proofs.Common.{◌≤◌}
use Rattle.bson_codec.specs.DumpRuns.{DumpProgress}
use Rattle.bson_codec.proofs.documents.run_documents.Given as goal

abbrev pub invariant-loop-documents : goal.invariant-loop-documents
invariant-loop-documents g l = (l.refused ≤ l.documents)
    × DumpProgress l.run (g.R.Read.remaining l.initial.reader) (g.R.Read.remaining l.reader)
    (g.W.Write.contents l.initial.writer) (g.W.Write.contents l.writer)
    (g.T.Write.contents l.initial.report) (g.T.Write.contents l.report) l.documents l.refused l.start
