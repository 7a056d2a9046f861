use Rattle.std.proofs.Common.{◌≡◌, ◌++◌, drop, length, None, option_map}
use Rattle.std.specs.Prelude.{is_some}
use Rattle.bson_text.specs.MemberSpans.{members_text, object_text, last_of_each_key, spans_from, spans_at, SpanKeysAscend}
use Rattle.bson_text.proofs.member_spans.join_spans.Given as goal

-- what the indexes from here on give gives all of them
abbrev pub invariant-loop-position : goal.invariant-loop-position
invariant-loop-position l =
    let ps = spans_from l.keys l.member_starts (length l.buffer.items) in
    let left = last_of_each_key (spans_at ps (drop l.position l.indexes.items)) in
    let all = last_of_each_key (spans_at ps l.indexes.items) in
    record {
      text : l.joined_bytes.items ++ members_text l.buffer.items (is_some l.last_key) left ≡ object_text l.buffer.items all;
      ascend : SpanKeysAscend (option_map (λ s. s.now) l.last_key) left → SpanKeysAscend None all;
    }
