use Rattle.std.proofs.Common.{ℕ, Result, IfErr, refl, subst, sym}
use Rattle.bson_codec.specs.DumpRuns.{IsRunEnd}
use Rattle.bson_codec.specs.Streams.{WritesPrefix}
use Rattle.bson_codec.specs.declared.run_end.RunFault.{RunFault}
use Rattle.bson_codec.proofs.Runs.{bad_bytes, cut_line, judged_ends, untold}
use Rattle.bson_codec.proofs.documents.write_or_skip.Goals as goal
use Rattle.bson_codec.proofs.documents.write_or_skip.Goals.{in-Ok-report_skipped, in-Err-report_skipped, else-run-via-then-run+else-may_skip, else-run-via-else-run}

pub returns-in_default-clause-fault : goal.returns-in_default-clause-fault
returns-in_default-clause-fault g c =
    let output_before = g.W.Write.contents c.args.writer.now in
    let output_after = g.W.Write.contents c.write_whole.new.writer in
    cut_line c.args.run c.args.document_number c.args.document_offset c.args.bytes.now c.in-Ok.line.items output_before output_after
    (g.T.Write.contents c.args.report.now) c.in-Ok.ensures.ok
    (subst (WritesPrefix output_before output_after) c.as_slice.ensures.value c.in_default.ensures.prefix_written)

pub returns-then-may_skip-clause-fault : goal.returns-then-may_skip-clause-fault
returns-then-may_skip-clause-fault g c =
    let output_before = g.W.Write.contents c.args.writer.now in
    let diagnostics_before = g.T.Write.contents c.args.report.now in
    let diagnostics_after = g.T.Write.contents c.report_skipped.new.report in
    let bytes = c.args.bytes.now in
    elim c.match-report_skipped.branch [
      | in-Ok-report_skipped w ↦ subst
          (λ (r : Result ℕ RunFault). IfErr r (λ e. IsRunEnd e c.args.run c.args.document_number c.args.document_offset bytes output_before output_before diagnostics_before diagnostics_after))
          (sym w.result-is) tt
      | in-Err-report_skipped w ↦ subst
          (λ (r : Result ℕ RunFault). IfErr r (λ e. IsRunEnd e c.args.run c.args.document_number c.args.document_offset bytes output_before output_before diagnostics_before diagnostics_after))
          (sym w.result-is)
          (untold w.in-Err-report_skipped.error c.args.run c.args.document_number c.args.document_offset bytes c.in-Err.fault output_before diagnostics_before diagnostics_after
          (bad_bytes c.in-Err.fault c.args.run bytes (c.if-may_skip.ensures.0 refl).0 c.in-Err.ensures.fault)
          (c.if-run.true, (c.if-may_skip.ensures.0 refl).1) w.in-Err-report_skipped.ensures.fault)
    ]

pub returns-else-run-clause-fault : goal.returns-else-run-clause-fault
returns-else-run-clause-fault g c =
    judged_ends c.in-Err.fault c.args.run c.args.document_number c.args.document_offset c.args.bytes.now
    (g.W.Write.contents c.args.writer.now) (g.T.Write.contents c.args.report.now) c.in-Err.ensures.fault
    (λ is over. elim c.else-run.branch [
      | else-run-via-then-run+else-may_skip w ↦
          let no = w.if-may_skip.ensures.1 (is, over.1) in absurd cc
      | else-run-via-else-run w ↦ let no = w.if-run.false in let yes = over.0 in absurd cc
    ])
