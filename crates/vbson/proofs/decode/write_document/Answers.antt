use Rattle.std.proofs.Common.{◌≡◌, IsUtf8, Some, ap, string_bytes, subst, sym}
use Rattle.std.proofs.lemmas.Str.{IsUtf8-string_bytes}
use Rattle.bson.specs.Texts.{IsTextInKeyOrder}
use Rattle.bson.specs.View.{document_view}
use Rattle.bson_scalar.specs.Forms.{form_in}
use Rattle.vbson.proofs.Decoding.{document_seen, text_of_mode}
use Rattle.vbson.specs.Documents.{IsTextOfDocument, form_of_mode}
use Rattle.vbson.proofs.decode.write_document.Goals as goal
use Rattle.vbson.proofs.decode.write_document.Goals.{in-Canonical, in-Relaxed}

pub returns-in-Ok-clause-ok : goal.returns-in-Ok-clause-ok
returns-in-Ok-clause-ok c =
    let o = c.args.options in
    let f = c.match-mode.form in
    let is_text = IsTextOfDocument o c.args.mode (document_view c.args.document) in
    let same = sym (ap (λ v. v.items) c.into_bytes.ensures.value) in
    let in_mode : form_of_mode c.args.mode ≡ Some f = elim c.match-mode.branch [ in-Canonical w ↦ cc | in-Relaxed w ↦ cc ] in
    let written = subst (λ v. IsTextInKeyOrder o.key_order o.doubles (form_in o.layout f) v (string_bytes c.in-Ok.text))
    (document_seen c.args.document) c.in-Ok.ensures.text in
    (subst is_text same (text_of_mode o c.args.mode f _ _ in_mode written), subst IsUtf8 same (IsUtf8-string_bytes c.in-Ok.text))
