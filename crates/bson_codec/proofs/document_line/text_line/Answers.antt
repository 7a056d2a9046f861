use Rattle.std.proofs.Common.{IsUtf8, subst, sym}
use Rattle.std.proofs.lemmas.Str.{IsUtf8-string_bytes}
use Rattle.bson_codec.proofs.document_line.text_line.Goals as goal

pub end_line-requires : goal.end_line-requires
end_line-requires c = subst (λ v. IsUtf8 v.items) (sym c.into_bytes.ensures.value) (IsUtf8-string_bytes c.in-Ok.text)
