use Rattle.std.proofs.Common.{◌≡◌, ap, ◌∙◌}
use Rattle.std.proofs.lemmas.Result.{IfOk-weaker}
use Rattle.vbson.specs.DocumentError.{ExplainsDocument, ReportsFinding, finding_code}
use Rattle.vbson.specs.declared.explain.Rejection.{Rejection}
use Rattle.vbson.proofs.document_error.explain_bytes.Goals as goal

pub returns-clause-error_report : goal.returns-clause-error_report
returns-clause-error_report c =
    let it = c.in_ok-finding.finding in
    IfOk-weaker c.rejection_of.result (λ (out : Rejection). ReportsFinding it out)
    (λ (out : Rejection). ExplainsDocument c.args.options c.args.bytes.now out)
    (λ out error_report. record { finding = it; is_finding = c.in_ok-finding.ensures.is_finding; error_report = error_report })
    c.rejection_of.ensures.error_report

pub returns-clause-accepts : goal.returns-clause-accepts
returns-clause-accepts c = λ h.
    let it = c.in_ok-finding.finding in
    IfOk-weaker c.rejection_of.result (λ (out : Rejection). ReportsFinding it out) (λ (out : Rejection). out.code ≡ 0)
    (λ out error_report. error_report.code ∙ ap finding_code (c.in_ok-finding.ensures.accepts h))
    c.rejection_of.ensures.error_report
