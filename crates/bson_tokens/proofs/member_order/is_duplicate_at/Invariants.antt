use Rattle.std.proofs.Common.{◌≢◌, ◌<◌, ℕ, slice_index_or}
use Rattle.bson_tokens.specs.NormalizerStates.{member_span_key}
use Rattle.bson_tokens.specs.declared.member_order.MemberSpan.{MemberSpan}
use Rattle.bson_tokens.proofs.member_order.is_duplicate_at.Given as goal

-- none so far has the key
abbrev pub invariant-loop-earlier_index : goal.invariant-loop-earlier_index
invariant-loop-earlier_index l =
    (i : ℕ) (d : MemberSpan) → i < l.earlier_index → member_span_key (slice_index_or l.spans.items i d) ≢ l.key
