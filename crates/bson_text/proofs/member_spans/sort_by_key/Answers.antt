use Rattle.std.proofs.Common.{rules}
use Rattle.std.proofs.lemmas.Cmp.{nat_list_cmp_total}
use Rattle.std.proofs.lemmas.Fn.{always_returns_same}
use Rattle.std.proofs.lemmas.List.MinMax.{ranks_by}
use Rattle.bson_model.proofs.Offered.{sorted_by}
use Rattle.bson_text.specs.MemberSpans.{key_at_or_empty}
use Rattle.bson_text.proofs.member_spans.sort_by_key.Goals as goal

pub returns-clause-stable : goal.returns-clause-stable
returns-clause-stable c =
    let key = key_at_or_empty c.args.keys.now in
    sorted_by key nat_list_cmp_total (λ k. k) c.args.indexes.now.items c.sort_by.new.self.items
    (c.in_ok-sort_by.ensures.stable _ (ranks_by nat_list_cmp_total key)
    (always_returns_same _ _ _ (λ a r g q. search rules)))
