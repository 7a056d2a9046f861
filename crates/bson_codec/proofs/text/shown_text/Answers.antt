use Rattle.std.proofs.lemmas.Str.{IsUtf8-from_is_utf8}
use Rattle.bson_codec.proofs.WrittenTexts.{shown}
use Rattle.bson_codec.proofs.text.shown_text.Goals as goal

pub returns : goal.returns
returns c =
    let (ps, read, (wrote, sound)) = c.in_ok-finished_writer.ensures in
    let new = c.in_ok-finished_writer.finished_writer in (
      ps,
      read,
      (
        shown ps c.in_ok-writer.writer new wrote c.in_ok-writer.ensures.order c.in_ok-writer.ensures.empty.1
            c.in_ok-writer.ensures.empty.0,
        IsUtf8-from_is_utf8 new.text.items new.utf8,
      ),
    )
