use Rattle.std.proofs.Common.{◌<◌, ℕ}
use Rattle.bson_tokens.specs.NormalizerStates.{IsFirstSpanOfKey}
use Rattle.bson_tokens.proofs.member_order.are_few_and_distinct.Given as goal

-- those so far have keys of their own
abbrev pub invariant-loop-span_index : goal.invariant-loop-span_index
invariant-loop-span_index l = (j : ℕ) → j < l.span_index → IsFirstSpanOfKey l.spans.items j
