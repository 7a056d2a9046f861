use Rattle.std.proofs.Common.{◌≡◌, ◌<◌, string_bytes, sym, ◌∙◌, rules, ne_eqb}
use Rattle.bson_run.specs.ErrorMessages.{escaped_char}
use Rattle.bson_run.proofs.Explaining.{added, hole, shown_control}
use Rattle.bson_run.proofs.shorten.push_escaped.Goals as goal

pub returns-then-is_control : goal.returns-then-is_control
returns-then-is_control c =
    let small : c.args.character < 256 = search rules in
    let is : string_bytes c.in_ok-escape.escape ≡ escaped_char c.args.character =
    hole c.in_radix.result c.laid_out.result _ c.args.character (search rules) c.laid_out.ensures c.in_ok-escape.ensures.ok ∙ shown_control c.args.character small (ne_eqb _ _ c.if-character-eq8232.false) (ne_eqb _ _ c.if-character-eq8233.false) (sym c.is_control.ensures ∙ c.if-is_control.true) in
    added c.push_str-then-is_control.result _ _ _ _ c.push_str-then-is_control.ensures.bytes (c.deref.ensures ∙ is)
