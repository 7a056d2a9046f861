use Rattle.std.proofs.Common.{arith, subst, sym}
use Rattle.std.proofs.lemmas.Result.{IfOk-weaker}
use Rattle.bson_bytes.specs.ReadDocuments.{IsReadAsDocumentIn}
use Rattle.bson_bytes.specs.Reading.{reads_bytes}
use Rattle.bson_bytes.proofs.Offered.{grammar_from, fault_stands}
use Rattle.bson_bytes.proofs.OfferedSource.{stopped_at}
use Rattle.bson_model.specs.declared.options.DuplicateKeys.TheVariants.{LastWins}
use Rattle.bson_codec.specs.DumpRuns.{WritesLine}
use Rattle.bson_codec.proofs.Ends.{fault_alone}
use Rattle.bson_codec.proofs.document_line.written_line.Goals as goal

pub add_offset-requires : goal.add_offset-requires
add_offset-requires c =
    let run = c.args.run in
    let fails = stopped_at (λ e. Unit {0}) c.in-Err-Fault.field-0 c.in-Err-Fault.fault (reads_bytes run.depth c.args.bytes.now)
    c.in-Err-Fault.field-0-is c.in-Err-Fault.ensures in
    fault_stands LastWins run.depth c.args.bytes.now c.in-Err-Fault.fault fails

pub returns-in-Ok-clause-ok : goal.returns-in-Ok-clause-ok
returns-in-Ok-clause-ok c =
    let run = c.args.run in
    let (ps, read, (written, utf8)) = c.in-Ok.ensures in
    let grammar = grammar_from LastWins run.depth c.args.bytes.now ps (λ i. omega (arith, c.type_inv.bytes i)) read in
    IfOk-weaker c.end_line.result _ _
    (λ line (is, whole). record {
      pairs = ps;
      read = subst (λ keys. IsReadAsDocumentIn keys run.depth c.args.bytes.now ps) (sym c.requires) grammar;
      written = subst (WritesLine run.options run.line ps) (sym is) written;
      utf8 = whole;
    }) c.end_line.ensures.ok

pub returns-in-Err-Fault-clause-fault : goal.returns-in-Err-Fault-clause-fault
returns-in-Err-Fault-clause-fault c =
    let run = c.args.run in
    let read = reads_bytes run.depth c.args.bytes.now in
    let fails = stopped_at (λ e. Unit {0}) c.in-Err-Fault.field-0 c.in-Err-Fault.fault read c.in-Err-Fault.field-0-is
    c.in-Err-Fault.ensures in
    let place = fault_stands LastWins run.depth c.args.bytes.now c.in-Err-Fault.fault fails in
    rw (c.to_run_fault.ensures, c.add_offset.ensures, c.requires) (fault_alone c.in-Err-Fault.fault c.args.bytes.now read place fails)
