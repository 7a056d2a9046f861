use Rattle.std.proofs.Common.{◌≡◌, ◌++◌, IsUtf8, refl, rules, subst, sym}
use Rattle.std.proofs.lemmas.Str.{IsUtf8-append}
use Rattle.json.proofs.Printed.Utf8.{IsUtf8-are_ascii}
use Rattle.bson_codec.specs.Diagnostics.{line_feed}
use Rattle.bson_codec.proofs.document_line.end_line.Goals as goal

pub returns-in-Ok-clause-ok : goal.returns-in-Ok-clause-ok
returns-in-Ok-clause-ok c =
    let text = c.args.text.items in
    let line : c.push.new.self.items ≡ text ++ line_feed = search rules in
    (line, subst IsUtf8 (sym line) (IsUtf8-append text line_feed c.requires (IsUtf8-are_ascii line_feed refl)))
