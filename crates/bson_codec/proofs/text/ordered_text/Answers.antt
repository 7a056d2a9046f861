use Rattle.std.proofs.Common.{◌≡◌, ◌∙◌, [], IsUtf8, arith, subst, sym}
use Rattle.json.specs.Print.{print}
use Rattle.bson_codec.proofs.WrittenTexts.{in_order}
use Rattle.bson_codec.proofs.text.ordered_text.Goals as goal

pub returns : goal.returns
returns c =
    let (ps, read, (wrote, sound)) = c.in_ok-finished_writer.ensures in
    let new = c.in_ok-finished_writer.finished_writer in
    let before : new.json_writer.before ≡ [] = wrote.2.2 ∙ c.in_ok-writer.ensures.empty.0 in
    let text : c.into_inner.result.items ≡ print new.json_writer.tokens = grind (arith, before) in (
      ps,
      read,
      (
        in_order c.args.doubles c.args.form ps c.into_inner.result.items c.in_ok-writer.writer new wrote sound
            c.in_ok-writer.ensures.modes.0 c.in_ok-writer.ensures.modes.1 c.in_ok-writer.ensures.empty.1 text,
        subst IsUtf8 (sym text) c.into_inner.ensures.utf8,
      ),
    )
