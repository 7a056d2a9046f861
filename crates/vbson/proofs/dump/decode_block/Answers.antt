use Rattle.std.proofs.Common.{sym, subst}
use Rattle.std.proofs.lemmas.Option.{IfSome_then}
use Rattle.vbson.proofs.Dumps.{cut_block}
use Rattle.vbson.specs.Dumps.{IsOutputOfDocuments}
use Rattle.vbson.proofs.dump.decode_block.Goals as goal

-- the run ended at a document
pub returns-in_ok-add_last_diagnostic-in-Err : goal.returns-in_ok-add_last_diagnostic-in-Err
returns-in_ok-add_last_diagnostic-in-Err c =
    let run = c.args.run in
    let block = c.args.block.now in
    let text = c.run_documents.new.writer.items in
    let all = c.in_ok-add_last_diagnostic-in-Err.field-0.items in
    let run_end = c.in-Err.run_end in
    let gives = cut_block run block _ text _ _ all _ run_end.fault run_end.number run_end.refused run_end.start c.in-Err.ensures.fails
    c.new-text.ensures.items c.new-diagnostics.ensures.items c.in_ok-add_last_diagnostic-in-Err.ensures.0 c.in_ok-add_last_diagnostic-in-Err.ensures.1 in
    IfSome_then c.documents_of-in-Err.result c.documents_of-in-Err.ensures
    (λ output is. (
      text,
      all,
      subst (λ n. IsOutputOfDocuments run block text all n output.consumed) (sym is.2)
          (subst (λ n. IsOutputOfDocuments run block text all run_end.number n) (sym is.3) gives),
      is.0,
      is.1,
    ))
