use Rattle.std.proofs.Common.{subst, Result, Err}
use Rattle.std.proofs.lemmas.Result.{err_from_is_err_and}
use Rattle.bson_tokens.proofs.Offered.{if_ok}
use Rattle.bson_convert.proofs.EitherOrder.{kept_ok_by, text_converts_by}
use Rattle.bson_convert.proofs.Normalized.{accepted}
use Rattle.bson_convert.specs.Convert.{IsConvertedText, IsRejectedIn}
use Rattle.bson_convert.specs.declared.error.Error.{Error}
use Rattle.bson_convert.proofs.convert.convert_whole.Goals as goal

pub returns-clause-ok : goal.returns-clause-ok
returns-clause-ok c =
    let o = c.args.options in
    let mode = c.args.mode in
    let bytes = c.args.bytes.items in
    let text = c.in_ok-text.text.items in
    let is = subst (λ b. IsConvertedText o.key_order o mode b text) c.deref.ensures.value
    (c.in_ok-text.ensures.ok c.deref.result.now c.in_ok-attempt.ensures.ok) in
    if_ok c.end_line.result c.end_line.ensures.ok
    (λ output line. text_converts_by o.key_order o mode bytes text output.items is line)

pub returns-clause-again : goal.returns-clause-again
returns-clause-again c =
    let o = c.args.options in
    kept_ok_by o.key_order o c.args.mode c.deref.result.now c.in_ok-text.text.items c.end_line.result
    (c.in_ok-text.ensures.ok c.deref.result.now c.in_ok-attempt.ensures.ok)
    (c.in_ok-text.ensures.utf8 c.in_ok-attempt.ensures.utf8) c.end_line.ensures.ok c.end_line.ensures.utf8

pub returns-in_err-text-clause-accepts : goal.returns-in_err-text-clause-accepts
returns-in_err-text-clause-accepts c = λ t v is means.
    let p = err_from_is_err_and c.from_residual-in_err-text.result c.from_residual-in_err-text.ensures.1 in
    let o = c.args.options in
    let bytes = c.args.bytes.items in
    let fault = c.in_err-text.field-0.0 in
    let refused = subst (IsRejectedIn o fault) c.deref.ensures.value
    (c.in_err-text.ensures.fault c.deref.result.now c.in_ok-attempt.ensures.ok) in
    let result : Result (Unit {0}) Error = Err fault in
    rw (p.1, p.2) (accepted o bytes t v is means result refused)
