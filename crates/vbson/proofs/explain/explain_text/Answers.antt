use Rattle.std.proofs.Common.{◌≡◌, ◌≢◌, [], inl, inr}
use Rattle.std.proofs.lemmas.Result.{IfErr-weaker, IfOk-weaker}
use Rattle.bson_bytes.specs.declared.error.Error.{Error as PathError}
use Rattle.bson_bytes.specs.declared.error.Error.TheVariants as sizes
use Rattle.bson_run.specs.declared.explain.Explanation.TheVariants.{Other}
use Rattle.vbson.specs.Explain.{Explains, ExplainsRejection, HasTooLongPath, ErrorPathIsTooLong, ReportsExplanation}
use Rattle.vbson.specs.declared.explain.Rejection.{Rejection}
use Rattle.vbson.proofs.explain.explain_text.Goals as goal

pub returns-in-Ok-clause-error_report : goal.returns-in-Ok-clause-error_report
returns-in-Ok-clause-error_report c =
    IfOk-weaker c.empty_rejection.result (λ (out : Rejection). ReportsExplanation [] Other [] out)
    (λ (out : Rejection). Explains c.args.options c.args.text.now out) (λ out says. inl (c.in-Ok.ensures.accepted, says))
    c.empty_rejection.ensures.error_report

pub returns-in-Ok-clause-too_long : goal.returns-in-Ok-clause-too_long
returns-in-Ok-clause-too_long c =
    IfErr-weaker c.empty_rejection.result (λ (e : PathError). e ≡ sizes.OutOfMemory)
    (λ (e : PathError). e ≢ sizes.OutOfMemory → ErrorPathIsTooLong c.args.options c.args.text.now) (λ e is reported. absurd (reported is))
    c.empty_rejection.ensures.memory

-- the arm before this one is that of running out of memory
pub returns-in-Err-clause-error_report : goal.returns-in-Err-clause-error_report
returns-in-Err-clause-error_report c =
    IfOk-weaker c.rejection_of_error.result (λ (out : Rejection). ExplainsRejection c.args.options c.args.text.now out)
    (λ (out : Rejection). Explains c.args.options c.args.text.now out) (λ out h. inr h) c.rejection_of_error.ensures.error_report

pub returns-in-Err-clause-too_long : goal.returns-in-Err-clause-too_long
returns-in-Err-clause-too_long c =
    let fault = c.in-Err.fault in
    IfErr-weaker c.rejection_of_error.result (λ (e : PathError). e ≢ sizes.OutOfMemory → HasTooLongPath fault)
    (λ (e : PathError). e ≢ sizes.OutOfMemory → ErrorPathIsTooLong c.args.options c.args.text.now)
    (λ e too_long reported. record { fault = fault; rejected = c.in-Err.ensures.rejected; too_long = too_long reported })
    c.rejection_of_error.ensures.too_long
