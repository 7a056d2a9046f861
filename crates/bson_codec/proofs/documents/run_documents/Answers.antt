use Rattle.std.proofs.Common.{◌+◌, List, ℕ, arith, refl, subst}
use Rattle.bson_codec.specs.DumpRuns.{IsLineOrSkip, IsRunEnd}
use Rattle.bson_codec.proofs.Justified.{justified, unread_justified}
use Rattle.bson_codec.proofs.Runs.{run_begins, run_goes_on, run_ends_at, run_ends_unread, run_stops_between, one_at_most}
use Rattle.bson_codec.proofs.Runs.{some_taken}
use Rattle.bson_codec.proofs.documents.run_documents.Goals as goal

pub loop-documents-init : goal.loop-documents-init
loop-documents-init g c = (
  omega arith,
  run_begins c.args.run (g.R.Read.remaining c.args.reader.now) (g.W.Write.contents c.args.writer.now)
      (g.T.Write.contents c.args.report.now),
)

pub loop-documents-preserved : goal.loop-documents-preserved
loop-documents-preserved g c =
    let bytes = c.read_document_bytes.new.bytes.items in
    let number = c.loop-documents.documents + 1 in
    let before = g.W.Write.contents c.loop-documents.writer in
    let after = g.W.Write.contents c.write_or_skip.new.writer in
    let diagnostics_after = g.T.Write.contents c.loop-documents.report in
    let after_tells = g.T.Write.contents c.write_or_skip.new.report in
    let given = subst (λ (b : List ℕ). IsLineOrSkip c.in-Ok.newly_skipped c.args.run number c.loop-documents.start b before after diagnostics_after after_tells)
    c.as_slice-bytes.ensures.value c.in-Ok.ensures.ok in (
      omega (arith, c.loop-documents.invariant.0, one_at_most c.in-Ok.newly_skipped c.args.run number c.loop-documents.start bytes before after diagnostics_after after_tells given),
      run_goes_on c.args.run (g.R.Read.remaining c.args.reader.now)
          (g.R.Read.remaining c.loop-documents.reader) (g.R.Read.remaining c.read_document_bytes.new.reader)
          (g.W.Write.contents c.args.writer.now) before after (g.T.Write.contents c.args.report.now) diagnostics_after after_tells
          c.loop-documents.documents c.loop-documents.refused
          c.loop-documents.start c.in-Ok.newly_skipped c.in-Some.next_start bytes c.loop-documents.invariant.1
          c.in_default.ensures.bytes_read given
          (omega (arith, c.in-Some.ensures, c.len.ensures, c.read_document_bytes.new.bytes.ok)),
    )

pub returns-in-Err-clause-fails : goal.returns-in-Err-clause-fails
returns-in-Err-clause-fails g c =
    run_ends_unread c.args.run (g.R.Read.remaining c.args.reader.now) (g.R.Read.remaining c.loop-documents.reader)
    (g.R.Read.remaining c.read_document_bytes.new.reader) (g.W.Write.contents c.args.writer.now)
    (g.W.Write.contents c.loop-documents.writer) (g.T.Write.contents c.args.report.now)
    (g.T.Write.contents c.loop-documents.report) c.loop-documents.documents c.loop-documents.refused
    c.loop-documents.start (c.loop-documents.documents + 1) c.fault_of_reader-fault.result c.read_document_bytes.ensures.bytes_consumed.0
    c.loop-documents.invariant.1 c.read_document_bytes.ensures.bytes_consumed.1 refl c.fault_of_reader-fault.ensures

pub returns-in-Err-clause-justified : goal.returns-in-Err-clause-justified
returns-in-Err-clause-justified g c =
    unread_justified c.args.run (g.R.Read.remaining c.args.reader.now) c.fault_of_reader-fault.result
    c.loop-documents.start c.fault_of_reader-fault.ensures

pub returns-in-Err-write_or_skip-clause-fails : goal.returns-in-Err-write_or_skip-clause-fails
returns-in-Err-write_or_skip-clause-fails g c =
    let number = c.loop-documents.documents + 1 in
    let before = g.W.Write.contents c.loop-documents.writer in
    let after = g.W.Write.contents c.write_or_skip.new.writer in
    let diagnostics_after = g.T.Write.contents c.loop-documents.report in
    let after_tells = g.T.Write.contents c.write_or_skip.new.report in
    run_ends_at c.args.run (g.R.Read.remaining c.args.reader.now) (g.R.Read.remaining c.loop-documents.reader)
    (g.R.Read.remaining c.read_document_bytes.new.reader) (g.W.Write.contents c.args.writer.now) before after
    (g.T.Write.contents c.args.report.now) diagnostics_after after_tells c.loop-documents.documents c.loop-documents.refused
    c.loop-documents.start number c.in-Err-write_or_skip.fault c.read_document_bytes.new.bytes.items c.loop-documents.invariant.1
    c.in_default.ensures.bytes_read refl (some_taken c.read_document_bytes.new.bytes.items _ (omega (arith, c.read_document_bytes.new.bytes.ok)) c.if-is_empty.ensures) c.in_default.ensures.front
    (subst (λ (b : List ℕ). IsRunEnd c.in-Err-write_or_skip.fault c.args.run number c.loop-documents.start b before after diagnostics_after after_tells)
    c.as_slice-bytes.ensures.value c.in-Err-write_or_skip.ensures.fault)

pub returns-in-Err-write_or_skip-clause-justified : goal.returns-in-Err-write_or_skip-clause-justified
returns-in-Err-write_or_skip-clause-justified g c =
    let number = c.loop-documents.documents + 1 in
    let before = g.W.Write.contents c.loop-documents.writer in
    let after = g.W.Write.contents c.write_or_skip.new.writer in
    let diagnostics_after = g.T.Write.contents c.loop-documents.report in
    let after_tells = g.T.Write.contents c.write_or_skip.new.report in
    justified (run_ends_at c.args.run (g.R.Read.remaining c.args.reader.now) (g.R.Read.remaining c.loop-documents.reader)
    (g.R.Read.remaining c.read_document_bytes.new.reader) (g.W.Write.contents c.args.writer.now) before after
    (g.T.Write.contents c.args.report.now) diagnostics_after after_tells c.loop-documents.documents c.loop-documents.refused
    c.loop-documents.start number c.in-Err-write_or_skip.fault c.read_document_bytes.new.bytes.items c.loop-documents.invariant.1
    c.in_default.ensures.bytes_read refl (some_taken c.read_document_bytes.new.bytes.items _ (omega (arith, c.read_document_bytes.new.bytes.ok)) c.if-is_empty.ensures) c.in_default.ensures.front
    (subst (λ (b : List ℕ). IsRunEnd c.in-Err-write_or_skip.fault c.args.run number c.loop-documents.start b before after diagnostics_after after_tells)
    c.as_slice-bytes.ensures.value c.in-Err-write_or_skip.ensures.fault))

pub returns-clause-fails : goal.returns-clause-fails
returns-clause-fails g c =
    run_stops_between c.args.run (g.R.Read.remaining c.args.reader.now) (g.R.Read.remaining c.loop-documents.reader)
    (g.W.Write.contents c.args.writer.now) (g.W.Write.contents c.loop-documents.writer)
    (g.T.Write.contents c.args.report.now) (g.T.Write.contents c.loop-documents.report) c.loop-documents.documents
    c.loop-documents.refused c.loop-documents.start 18446744073709551615 c.loop-documents.invariant.1
    (omega (arith, c.loop-documents-test.false, c.loop-documents.auto.documents-end))
