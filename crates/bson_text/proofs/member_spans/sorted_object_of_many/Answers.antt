use Rattle.std.proofs.Common.{length, subst}
use Rattle.std.specs.Prelude.{IfSome}
use Rattle.bson_text.specs.MemberSpans.{spans_from, spans_at, IsTextOfSpans}
use Rattle.bson_text.proofs.Placing.{all_below, placed_again, placed_in_order}
use Rattle.bson_text.proofs.member_spans.sorted_object_of_many.Goals as goal

pub join_spans-requires-clause-indexes : goal.join_spans-requires-clause-indexes
join_spans-requires-clause-indexes c =
    let ks = c.args.keys.now in
    let sorted = c.in_ok-sort_by_next_bytes.ensures in
    all_below ks c.sort_by_next_bytes.new.indexes.items
    (placed_again ks c.args.indexes.items c.sort_by_next_bytes.new.indexes.items sorted.stable sorted.permuted c.requires.indexes_by_key)

pub sorted_object_of_few-requires-clause-indexes_by_key : goal.sorted_object_of_few-requires-clause-indexes_by_key
sorted_object_of_few-requires-clause-indexes_by_key c =
    let sorted = c.in_ok-sort_by_next_bytes.ensures in
    placed_again c.args.keys.now c.args.indexes.items c.sort_by_next_bytes.new.indexes.items sorted.stable sorted.permuted
    c.requires.indexes_by_key

pub returns-in-Some : goal.returns-in-Some
returns-in-Some c =
    let ks = c.args.keys.now in
    let buffer = c.args.buffer.now.items in
    let ps = spans_from ks c.args.member_starts.now (length buffer) in
    let new = c.sort_by_next_bytes.new.indexes.items in
    let sorted = c.in_ok-sort_by_next_bytes.ensures in
    let indexes_by_key = placed_again ks c.args.indexes.items new sorted.stable sorted.permuted c.requires.indexes_by_key in
    let joined = subst (λ s. IfSome s (λ object_bytes. IsTextOfSpans (spans_at ps new) buffer object_bytes.items)) c.in-Some.is
    c.in_ok-object_bytes.ensures in
    placed_in_order ks c.args.member_starts.now (length buffer) new buffer c.in-Some.object_bytes.items c.requires.paired indexes_by_key joined
