use Rattle.std.proofs.Common.{◌≡◌, ◌∙◌, ap, string_bytes, sym}
use Rattle.std.proofs.lemmas.Result.{IfOk-weaker}
use Rattle.bson_codec.specs.Diagnostics.{fault_kind_message}
use Rattle.vbson.specs.DocumentError.{finding_message, finding_reason, malformed_message}
use Rattle.vbson.proofs.document_error.message_of.Goals as goal

pub returns-in-Malformed : goal.returns-in-Malformed
returns-in-Malformed c =
    let n = c.in-Malformed.offset in
    let description : c.reason_of-description.result.now ≡ fault_kind_message c.in-Malformed.kind =
    c.reason_of-description.ensures ∙ ap finding_reason c.in-Malformed.is in
    let made : malformed_message n c.reason_of-description.result.now ≡ finding_message c.args.finding =
    ap (malformed_message n) description ∙ sym (ap finding_message c.in-Malformed.is) in
    IfOk-weaker c.malformed_message.result (λ message. string_bytes message ≡ malformed_message n c.reason_of-description.result.now)
    (λ message. string_bytes message ≡ finding_message c.args.finding) (λ message is. is ∙ made) c.malformed_message.ensures
