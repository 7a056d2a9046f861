use Rattle.std.proofs.Common.{length}
use Rattle.bson_text.specs.MemberSpans.{spans_from, spans_at, IsSortedObject, IsTextOfSpans}
use Rattle.bson_text.proofs.SpansInOrder.{ok_more}
use Rattle.bson_text.proofs.Placing.{all_below, placed_again, placed_in_order}
use Rattle.bson_text.proofs.member_spans.sorted_object_of_few.Goals as goal

pub join_spans-requires-clause-indexes : goal.join_spans-requires-clause-indexes
join_spans-requires-clause-indexes c =
    let ks = c.args.keys.now in
    let sorted = c.in_ok-sort_by_key.ensures in
    all_below ks c.sort_by_key.new.indexes.items
    (placed_again ks c.args.indexes.items c.sort_by_key.new.indexes.items sorted.stable sorted.permuted c.requires.indexes_by_key)

pub returns : goal.returns
returns c =
    let ks = c.args.keys.now in
    let buffer = c.args.buffer.now.items in
    let ps = spans_from ks c.args.member_starts.now (length buffer) in
    let new = c.sort_by_key.new.indexes.items in
    let sorted = c.in_ok-sort_by_key.ensures in
    let indexes_by_key = placed_again ks c.args.indexes.items new sorted.stable sorted.permuted c.requires.indexes_by_key in
    ok_more (λ object_bytes. IsTextOfSpans (spans_at ps new) buffer object_bytes.items) (λ object_bytes. IsSortedObject ps buffer object_bytes.items)
    (λ object_bytes h. placed_in_order ks c.args.member_starts.now (length buffer) new buffer object_bytes.items c.requires.paired indexes_by_key h)
    c.join_spans.result c.join_spans.ensures
