use Rattle.std.proofs.Common.{◌≡◌, false, true, subst, rules}
use Rattle.std.proofs.lemmas.Bool.{MatchBool-at_true, MatchBool-at_false}
use Rattle.std.proofs.lemmas.List.Sorted.{answers_always}
use Rattle.bson_store.specs.KeyIndex.{stored_pairs, HasAscendingKeys}
use Rattle.bson_store.proofs.Adjacent.{is_below, ascend_from, not_ascending, distinct_from}
use Rattle.bson_store.proofs.small.SmallPairs.try_from_ascending.Goals as goal

pub returns-then-not-is_sorted_by-clause-taken : goal.returns-then-not-is_sorted_by-clause-taken
returns-then-not-is_sorted_by-clause-taken g c =
    let tested = c.is_sorted_by.ensures.cases is_below (answers_always _ _ _ (λ f a r h q. search rules)) in
    let stop = MatchBool-at_false _ _ c.if-not-is_sorted_by.true tested in
    subst (λ ps. HasAscendingKeys (stored_pairs ps) → false ≡ true) c.deref.ensures.value
    (not_ascending c.deref.result.now stop)

pub returns-clause-ascending : goal.returns-clause-ascending
returns-clause-ascending g c =
    let tested = c.is_sorted_by.ensures.cases is_below (answers_always _ _ _ (λ f a r h q. search rules)) in
    let next = MatchBool-at_true _ _ c.if-not-is_sorted_by.false tested in
    subst (λ ps. HasAscendingKeys (stored_pairs ps)) c.deref.ensures.value (ascend_from c.deref.result.now next)

pub invariant_of-result : goal.invariant_of-result
invariant_of-result g c =
    let tested = c.is_sorted_by.ensures.cases is_below (answers_always _ _ _ (λ f a r h q. search rules)) in
    let next = MatchBool-at_true _ _ c.if-not-is_sorted_by.false tested in
    let up = subst (λ ps. HasAscendingKeys (stored_pairs ps)) c.deref.ensures.value (ascend_from c.deref.result.now next) in
    rw c.shrink_to_fit.ensures.items (distinct_from (stored_pairs c.args.pairs.items) up, λ more. up)
