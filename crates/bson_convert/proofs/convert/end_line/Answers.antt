use Rattle.std.proofs.Common.{◌∷◌, [], IsUtf8, refl, subst, sym}
use Rattle.std.proofs.lemmas.Str.{IsUtf8-append}
use Rattle.json.proofs.Printed.Utf8.{IsUtf8-are_ascii}
use Rattle.bson_convert.specs.Convert.{newline}
use Rattle.bson_convert.proofs.convert.end_line.Goals as goal

pub returns-in-Ok-clause-utf8 : goal.returns-in-Ok-clause-utf8
returns-in-Ok-clause-utf8 c = λ u.
    subst IsUtf8 (sym c.in-Ok.ensures.items)
    (IsUtf8-append c.args.line.items newline u (IsUtf8-are_ascii (10 ∷ []) refl))
