use Rattle.std.proofs.Common.{◌≡◌, ◌⊎◌, Some, IsUtf8, subst}
use Rattle.std.proofs.lemmas.Result.{IfErr-weaker, IfOk-weaker}
use Rattle.bson.specs.View.{document_view}
use Rattle.bson_codec.specs.DocumentText.{IsDocumentTextOf}
use Rattle.bson_model.specs.declared.options.DuplicateKeys.TheVariants.{LastWins}
use Rattle.vbson.proofs.Decoding.{directly, no_document, undecoded, unread_directly}
use Rattle.vbson.specs.Documents.{Decodes, IsOneDocument, IsDecodeFailure, PairsHaveNoTextIn, depth, streaming_form}
use Rattle.vbson.proofs.decode.decode_document.Goals as goal

pub returns-in-Some : goal.returns-in-Some
returns-in-Some c =
    let keys = c.args.keys in
    let o = c.args.options in
    let mode = c.args.mode in
    let f = c.in-Some.form in
    let bytes = c.args.bytes.now in
    let given : streaming_form keys o mode ≡ Some f = cc in
    record {
      ok = IfOk-weaker c.decode_streaming.result
          (λ text. IsDocumentTextOf c.form.result depth bytes text.items × IsUtf8 text.items)
          (λ text. Decodes keys o mode bytes text.items × IsUtf8 text.items)
          (λ text is. (directly keys o mode f bytes text.items given (subst (λ g. IsDocumentTextOf g depth bytes text.items) c.form.ensures is.0), is.1))
          c.decode_streaming.ensures.ok;
      error_status = IfErr-weaker c.decode_streaming.result (λ status. (status ≡ 5) ⊎ ((status ≡ 10) × (IsOneDocument LastWins bytes → ⊥)))
          (λ status. IsDecodeFailure keys o mode status bytes) (λ status h. unread_directly keys o mode f status bytes given h)
          c.decode_streaming.ensures.error_status;
    }

pub returns-in-Ok-clause-error_status : goal.returns-in-Ok-clause-error_status
returns-in-Ok-clause-error_status c =
    let keys = c.args.keys in
    let o = c.args.options in
    let mode = c.args.mode in
    let ps = document_view c.in-Ok.document in
    IfErr-weaker c.write_document.result (λ status. (status ≡ 5) ⊎ ((status ≡ 7) × PairsHaveNoTextIn o mode ps))
    (λ status. IsDecodeFailure keys o mode status c.args.bytes.now)
    (λ status h. undecoded keys o mode status c.args.bytes.now ps c.in-Ok.ensures.ok
    (λ qs read. (c.in-Ok.ensures.only qs read).0) h)
    c.write_document.ensures.error_status

-- reading gave a fault, and did not run out of memory
pub returns-in-Err-Malformed-clause-error_status : goal.returns-in-Err-Malformed-clause-error_status
returns-in-Err-Malformed-clause-error_status c =
    no_document c.args.keys c.args.options c.args.mode c.args.bytes.now (λ h.
    let only = (c.in-Err-Malformed.ensures.only h.0 h.1).1 in
    let is = c.in-Err-Malformed.field-0-is in
    absurd cc)
