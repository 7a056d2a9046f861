use Rattle.std.proofs.Common.{◌≡◌, ◌<◌, ◌≤◌, ◌++◌, drop, take, length}
use Rattle.bson_tokens.specs.NormalizerStates.{merge, member_span_key}
use Rattle.bson_tokens.specs.PutMembers.{merged, merged_from}
use Rattle.bson_tokens.proofs.member_order.merge_equal_keys.Given as goal

-- those that are kept, and then what the last and those that are left give, are all; those that are left are as they were
abbrev pub invariant-spans : goal.invariant-spans
invariant-spans l =
    let all = l.initial.spans.items in
    record {
      merged_count : l.merged_count < l.span_index;
      within : l.span_index ≤ length all;
      long : length l.spans.items ≡ length all;
      left : drop l.span_index l.spans.items ≡ drop l.span_index all;
      whole : take l.merged_count l.spans.items ++ merged_from member_span_key merge l.last_span (drop l.span_index all) ≡ merged member_span_key merge all;
    }
