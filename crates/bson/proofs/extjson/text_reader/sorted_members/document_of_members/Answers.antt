use Rattle.std.proofs.Common.{sym, ap, ◌∙◌}
use Rattle.bson.specs.View.{pairs_view}
use Rattle.bson.proofs.Seen.{document_view-pairs}
use Rattle.bson.proofs.MembersByKey.{put_collected, from_store}
use Rattle.bson.proofs.extjson.text_reader.sorted_members.document_of_members.Goals as goal

pub returns-in-Ok : goal.returns-in-Ok
returns-in-Ok c =
    let ms = c.args.members.items in
    document_view-pairs record { pairs = c.in-Ok.pairs } ∙ ap pairs_view c.in-Ok.ensures.ok
    ∙ sym (put_collected ms (from_store ms c.in-Ok.ensures.ascending))
