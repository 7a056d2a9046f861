use Rattle.std.proofs.Common.{◌≡◌, ◌≤◌, drop, take, length, map}
use Rattle.std.specs.List.{All}
use Rattle.bson_tokens.specs.NormalizerStates.{entry_at, IsMemberSpanOf, SpansMatch, MemberSpanValues}
use Rattle.bson_tokens.proofs.member_order.join_spans.Given as goal

-- those that were joined are in the text; those that are left are as they were
abbrev pub invariant-spans : goal.invariant-spans
invariant-spans l =
    let all = l.initial.spans.items in
    record {
      within : l.span_index ≤ length all;
      long : length l.spans.items ≡ length all;
      left : drop l.span_index l.spans.items ≡ drop l.span_index all;
      stand : (values : MemberSpanValues) → All (IsMemberSpanOf l.body values) all
          → SpansMatch l.text.items (take l.span_index l.spans.items) (map (entry_at values) (take l.span_index all));
    }
