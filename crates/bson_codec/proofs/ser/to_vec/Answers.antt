use Rattle.std.proofs.Common.{List, ℕ, suc, sym, ap, subst, ◌∙◌}
use Rattle.std.proofs.lemmas.Result.{err_from_is_err_and}
use Rattle.bson_bytes.proofs.Offered.{written_read, told_ok}
use Rattle.bson_bytes.specs.ReadDocuments.{IsReadAsDocument}
use Rattle.bson_bytes.specs.PutSteps.{put_document, StopsFor}
use Rattle.bson_bytes.specs.Writing.{pairs_read_back}
use Rattle.bson.specs.View.{document_view}
use Rattle.bson_codec.proofs.ElementLaws.{refusal, only_memory}
use Rattle.bson_codec.proofs.ser.to_vec.Goals as goal

pub returns-in_err-put_document-clause-cause : goal.returns-in_err-put_document-clause-cause
returns-in_err-put_document-clause-cause c =
    let p = err_from_is_err_and c.from_residual.result c.from_residual.ensures.1 in
    let e = c.in_err-put_document.field-0.0 in
    let ps = document_view c.args.document.now in
    let h = subst (λ (output : List ℕ). StopsFor e (put_document ps output)) c.new-output.ensures.items c.in_err-put_document.ensures.put in
    rw (p.1, p.2) (refusal e ps h)

pub returns-in_err-put_document-clause-only : goal.returns-in_err-put_document-clause-only
returns-in_err-put_document-clause-only c =
    let p = err_from_is_err_and c.from_residual.result c.from_residual.ensures.1 in
    let e = c.in_err-put_document.field-0.0 in
    let ps = document_view c.args.document.now in
    let h = subst (λ (output : List ℕ). StopsFor e (put_document ps output)) c.new-output.ensures.items c.in_err-put_document.ensures.put in
    rw p.1 (λ fits. p.2 ∙ only_memory e ps fits (refusal e ps h))

pub returns-clause-ok : goal.returns-clause-ok
returns-clause-ok c =
    let ps = document_view c.args.document.now in
    (told_ok ps c.put_document.new.output.items (ap (put_document ps) (sym c.new-output.ensures.items) ∙ c.in_ok-put_document.ensures.put)).1

pub returns-clause-back : goal.returns-clause-back
returns-clause-back c = λ d nests.
    let ps = document_view c.args.document.now in
    let put = ap (put_document ps) (sym c.new-output.ensures.items) ∙ c.in_ok-put_document.ensures.put in
    let diagnostics_before = told_ok ps c.put_document.new.output.items put in
    subst (λ (output : List ℕ). IsReadAsDocument (suc d) output (pairs_read_back ps)) (sym diagnostics_before.1) (written_read d ps diagnostics_before.0 c.in_ok-put_document.ensures.typed nests)

pub returns-clause-fits : goal.returns-clause-fits
returns-clause-fits c =
    let ps = document_view c.args.document.now in
    (told_ok ps c.put_document.new.output.items (ap (put_document ps) (sym c.new-output.ensures.items) ∙ c.in_ok-put_document.ensures.put)).0
