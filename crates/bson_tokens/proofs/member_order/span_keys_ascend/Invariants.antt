use Rattle.std.proofs.Common.{drop, map, None, option_map}
use Rattle.bson_tokens.specs.NormalizerStates.{member_span_key}
use Rattle.bson_tokens.specs.PutMembers.{KeysAscendFrom}
use Rattle.bson_tokens.proofs.member_order.span_keys_ascend.Given as goal

-- if the keys from here on are in ascending order, all keys are
abbrev pub invariant-loop-span_index : goal.invariant-loop-span_index
invariant-loop-span_index l =
    KeysAscendFrom (option_map (λ s. s.now) l.last_key) (map member_span_key (drop l.span_index l.spans.items))
    → KeysAscendFrom None (map member_span_key l.spans.items)
