use Rattle.std.proofs.Common.{IsUtf8, ap, inr, refl, subst, sym}
use Rattle.std.proofs.lemmas.Str.{IsUtf8-string_bytes}
use Rattle.bson_codec.specs.DocumentText.{IsDocumentTextOf}
use Rattle.vbson.specs.Documents.{depth}
use Rattle.vbson.proofs.streaming.decode_streaming.Goals as goal

pub returns-in-Ok-clause-ok : goal.returns-in-Ok-clause-ok
returns-in-Ok-clause-ok c =
    let same = sym (ap (λ v. v.items) c.into_bytes.ensures.value) in (
      subst (IsDocumentTextOf c.args.form depth c.args.bytes.now) same c.in-Ok.ensures.ok,
      subst IsUtf8 same (IsUtf8-string_bytes c.in-Ok.text),
    )

-- reading gave a fault, and did not run out of memory
pub returns-in-Err-Malformed-clause-error_status : goal.returns-in-Err-Malformed-clause-error_status
returns-in-Err-Malformed-clause-error_status c =
    inr (
      refl,
      λ h.
          let only = c.in-Err-Malformed.ensures.only h.0 h.1 in
          let is = c.in-Err-Malformed.field-0-is in
          absurd cc,
    )
