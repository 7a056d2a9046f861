use Rattle.std.proofs.Common.{◌≡◌, IfOk, sym, ap, ◌∙◌, subst}
use Rattle.bson_model.specs.Value.{no_pairs}
use Rattle.bson_model.proofs.Offered.{turned}
use Rattle.bson.specs.SortedMembers.{member_key, member_value, insert_members}
use Rattle.bson.specs.View.{document_view, pairs_view}
use Rattle.bson.proofs.Seen.{document_view-pairs}
use Rattle.bson.proofs.MembersByKey.{put_collected, from_store}
use Rattle.bson.proofs.extjson.text_reader.sorted_members.document_of_many.Goals as goal

pub returns-in-Ok : goal.returns-in-Ok
returns-in-Ok c =
    let ms = c.sort_by_prefix.new.members.items in
    document_view-pairs record { pairs = c.in-Ok.pairs } ∙ ap pairs_view c.in-Ok.ensures.ok
    ∙ sym (put_collected ms (from_store ms c.in-Ok.ensures.ascending))
    ∙ sym (turned member_key member_value c.args.members.items ms no_pairs c.in_ok-sort_by_prefix.ensures)

pub returns-in-Err : goal.returns-in-Err
returns-in-Err c =
    let ms = c.sort_by_prefix.new.members.items in
    subst (λ ps. IfOk c.document_of_unsorted.result (λ document. document_view document ≡ ps))
    (ap (λ v. insert_members v.items no_pairs) c.in-Err.ensures.refused
    ∙ sym (turned member_key member_value c.args.members.items ms no_pairs c.in_ok-sort_by_prefix.ensures))
    c.document_of_unsorted.ensures
