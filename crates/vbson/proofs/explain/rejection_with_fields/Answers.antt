use Rattle.std.proofs.Common.{refl, subst}
use Rattle.std.proofs.lemmas.Str.{IsUtf8-string_bytes}
use Rattle.vbson.specs.Text.{IsOwnedText}
use Rattle.vbson.proofs.explain.rejection_with_fields.Goals as goal

pub returns : goal.returns
returns c = record {
  code = refl;
  line = refl;
  column = refl;
  offset = refl;
  path = c.text_before_nul.ensures c.args.fields.path.items c.in_ok-path.ensures;
  reason = subst (λ v. IsOwnedText v.items c.text_before_nul-2.result) c.into_bytes.ensures.value
      (c.text_before_nul-2.ensures c.into_bytes.result.items c.in_ok-reason.ensures);
  message = subst (λ v. IsOwnedText v.items c.text_before_nul-3.result) c.into_bytes-2.ensures.value
      (c.text_before_nul-3.ensures c.into_bytes-2.result.items c.in_ok-message.ensures);
  utf8 = IsUtf8-string_bytes c.args.message;
}
