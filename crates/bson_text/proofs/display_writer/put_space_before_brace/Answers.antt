use Rattle.std.proofs.Common.{◌≡◌, ◌∙◌, codes, length, ap, refl, arith, vec_len}
use Rattle.std.specs.Str.{is_utf8}
use Rattle.json.proofs.Printed.Utf8.{IsUtf8-are_ascii}
use Rattle.bson_text.proofs.Utf8Texts.{braced_utf8, joined_utf8, unbraced_utf8}
use Rattle.bson_text.proofs.display_writer.put_space_before_brace.Goals as goal

pub returns-in_ok-extend_from_slice-clause-utf8 : goal.returns-in_ok-extend_from_slice-clause-utf8
returns-in_ok-extend_from_slice-clause-utf8 c =
    let text = c.args.text.now in
    let long : vec_len text ≡ length text.items = grind arith in
    joined_utf8 c.pop.new.self.items (codes " }") c.extend_from_slice.new.self.items
    (ap is_utf8 c.pop.ensures.rest ∙ unbraced_utf8 text.items (vec_len text) c.requires long)
    (IsUtf8-are_ascii (codes " }") refl) c.in_ok-extend_from_slice.ensures.items

pub returns-else-not-is_empty-clause-utf8 : goal.returns-else-not-is_empty-clause-utf8
returns-else-not-is_empty-clause-utf8 c = braced_utf8 c.args.text.now.items c.requires
