use Rattle.std.proofs.Common.{rules}
use Rattle.std.proofs.lemmas.Cmp.{nat_cmp_total, nat_list_cmp_total, on_total, then_total}
use Rattle.std.proofs.lemmas.List.MinMax.{ranks_by}
use Rattle.std.proofs.lemmas.List.Sorted.{answers_always}
use Rattle.std.specs.Ordering.{is_lt}
use Rattle.bson_tokens.specs.NormalizerStates.{key_and_offset_cmp, member_span_key, span_offset}
use Rattle.bson_tokens.proofs.member_order.sort_by_key.Goals as goal

pub returns-clause-sorted : goal.returns-clause-sorted
returns-clause-sorted c =
    c.sort_unstable_by.ensures.sorted (λ p q. is_lt (key_and_offset_cmp p q))
    (ranks_by (then_total (on_total member_span_key nat_list_cmp_total) (on_total span_offset nat_cmp_total)) (λ p. p))
    (answers_always _ _ _ (λ g a r h q. search rules))
