use Rattle.std.proofs.Common.{◌∙◌, IsUtf8, ap, rules, subst, sym}
use Rattle.std.proofs.lemmas.Str.{IsUtf8-string_bytes}
use Rattle.vbson.proofs.decode.show_document.Goals as goal

pub returns-in-Ok-clause-ok : goal.returns-in-Ok-clause-ok
returns-in-Ok-clause-ok c =
    let same = ap (λ v. v.items) c.into_bytes.ensures.value in
    (subst IsUtf8 (sym same) (IsUtf8-string_bytes c.in-Ok.text), same ∙ search rules)
