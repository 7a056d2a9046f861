use Rattle.std.proofs.Common.{◌≡◌}
use Rattle.std.proofs.lemmas.Result.{IfErr-weaker, IfOk-weaker}
use Rattle.bson.specs.View.{bson_view}
use Rattle.bson_model.specs.Value.{document}
use Rattle.bson_run.proofs.EncodeLaws.{encoded, is_meant, unencoded, unread}
use Rattle.bson_run.specs.Encode.{Encodes, IsBytesOf, IsEncodeErrorBy, IsEncodeErrorFor}
use Rattle.bson_run.proofs.encode.encode_whole.Goals as goal

pub returns-in-Ok-clause-ok : goal.returns-in-Ok-clause-ok
returns-in-Ok-clause-ok c =
    let o = c.args.options in
    let text = c.args.bytes.now in
    let value = bson_view c.in-Ok.value in
    IfOk-weaker c.bytes_of.result (λ out. IsBytesOf (λ v. v ≡ value) out.items) (λ out. Encodes o.key_order o text out.items)
    (λ out is. encoded o.key_order o text value out.items c.in-Ok.ensures.ok is) c.bytes_of.ensures.ok

pub returns-in-Ok-clause-accepts : goal.returns-in-Ok-clause-accepts
returns-in-Ok-clause-accepts c = λ ps means fits.
    let o = c.args.options in
    c.bytes_of.ensures.only ps
    (is_meant o.key_order o c.args.bytes.now ps (bson_view c.in-Ok.value) means c.in-Ok.ensures.ok) fits

pub returns-in-Ok-clause-fault : goal.returns-in-Ok-clause-fault
returns-in-Ok-clause-fault c =
    let o = c.args.options in
    let text = c.args.bytes.now in
    let value = bson_view c.in-Ok.value in
    IfErr-weaker c.bytes_of.result (IsEncodeErrorFor (λ v. v ≡ value)) (λ fault. IsEncodeErrorBy o.key_order o fault text)
    (λ fault is. unencoded o.key_order o text value fault c.in-Ok.ensures.ok is) c.bytes_of.ensures.fault

pub returns-in-Err-clause-accepts : goal.returns-in-Err-clause-accepts
returns-in-Err-clause-accepts c = λ ps means fits.
    c.error_of.ensures.memory (c.in-Err.ensures.accepts_in_key_order (document ps) means)

pub returns-in-Err-clause-fault : goal.returns-in-Err-clause-fault
returns-in-Err-clause-fault c =
    let o = c.args.options in
    let text = c.args.bytes.now in
    unread o.key_order o text c.error_of.result (c.error_of.ensures.cause o text c.in-Err.ensures.fault)
