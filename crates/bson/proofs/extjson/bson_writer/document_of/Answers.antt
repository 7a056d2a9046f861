use Rattle.std.proofs.Common.{◌≡◌, IfOk, sym, ap, ◌∙◌, subst}
use Rattle.bson_model.specs.Value.{no_pairs}
use Rattle.bson_tokens.proofs.Offered.{if_ok}
use Rattle.bson.proofs.Pushing.{entries_once, entries_turned}
use Rattle.bson.proofs.Seen.{document_view-pairs}
use Rattle.bson.specs.SortedMembers.{pairs_of_members}
use Rattle.bson.specs.BsonWriterState.{document_in_order}
use Rattle.bson.specs.View.{document_view, pairs_view}
use Rattle.bson.proofs.extjson.bson_writer.document_of.Goals as goal

pub returns-in-Ascending : goal.returns-in-Ascending
returns-in-Ascending c =
    let es = c.args.entries.items in
    let r = c.document_of_members.result in
    subst (λ o. IfOk r (λ d. document_view d ≡ document_in_order o (pairs_of_members es))) (sym c.in-Ascending.is)
    (subst (λ ps. IfOk r (λ d. document_view d ≡ ps)) (entries_turned es no_pairs) c.document_of_members.ensures)

pub returns-in-AsGiven : goal.returns-in-AsGiven
returns-in-AsGiven c =
    let es = c.args.entries.items in
    let r = c.from_entries.result in
    subst (λ o. IfOk r (λ d. document_view d ≡ document_in_order o (pairs_of_members es))) (sym c.in-AsGiven.is)
    (if_ok r c.from_entries.ensures (λ d is. document_view-pairs d ∙ ap pairs_view is ∙ entries_once es))
