use Rattle.std.proofs.Common.{◌≡◌, IfOk, sym, subst}
use Rattle.bson_model.specs.Value.{no_pairs}
use Rattle.bson_model.proofs.Offered.{turned}
use Rattle.bson.specs.SortedMembers.{member_key, member_value}
use Rattle.bson.specs.View.{document_view}
use Rattle.bson.proofs.extjson.text_reader.sorted_members.document_of_unsorted.Goals as goal

pub returns : goal.returns
returns c =
    let sorted = c.sort_by_key.new.members.items in
    subst (λ ps. IfOk c.document_of_few.result (λ document. document_view document ≡ ps))
    (sym (turned member_key member_value c.args.members.items sorted no_pairs c.in_ok-sort_by_key.ensures))
    c.document_of_few.ensures
