use Rattle.std.proofs.Common.{rules}
use Rattle.std.proofs.lemmas.List.Sorted.{answers_always}
use Rattle.bson_tokens.specs.NormalizerStates.{span_offset}
use Rattle.bson_tokens.proofs.member_order.sort_by_offset.Goals as goal

pub returns-clause-sorted : goal.returns-clause-sorted
returns-clause-sorted c = c.sort_unstable_by_key.ensures.sorted span_offset (answers_always _ _ _ (λ g a r h q. search rules))
