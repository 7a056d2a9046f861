use Rattle.std.proofs.Common.{List, ℕ, rules}
use Rattle.std.proofs.lemmas.Fn.{always_returns_same}
use Rattle.std.specs.Cmp.{nat_cmp_total}
use Rattle.bson_model.proofs.Offered.{sorted_by}
use Rattle.bson_text.specs.KeyBytes.{bytes_as_number, common_prefix_end}
use Rattle.bson_text.specs.MemberSpans.{key_at_or_empty}
use Rattle.bson_text.proofs.member_spans.sort_by_next_bytes.Goals as goal

pub returns-clause-stable : goal.returns-clause-stable
returns-clause-stable c =
    let f = λ (k : List ℕ). bytes_as_number k (common_prefix_end c.common_prefix_length-prefix_length.result k) 8 in
    let key = key_at_or_empty c.args.keys.now in
    sorted_by key nat_cmp_total f c.args.indexes.now.items c.sort_by_cached_key.new.self.items
    (c.in_ok-sort_by_cached_key.ensures.stable (λ n. f (key n)) (always_returns_same _ _ _ (λ a r g q. search rules)))
