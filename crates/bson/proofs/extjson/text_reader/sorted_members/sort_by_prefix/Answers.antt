use Rattle.std.proofs.Common.{ℕ, List, string_bytes, rules}
use Rattle.std.proofs.lemmas.List.Sorted.{answers_always}
use Rattle.std.specs.Cmp.{nat_cmp_total}
use Rattle.bson_model.proofs.Offered.{sorted_by}
use Rattle.bson_tokens.specs.KeyPrefix.{key_prefix_number}
use Rattle.bson.specs.SortedMembers.{member_key}
use Rattle.bson.proofs.extjson.text_reader.sorted_members.sort_by_prefix.Goals as goal

pub returns : goal.returns
returns c =
    let f = λ (k : List ℕ). key_prefix_number k 16 in
    sorted_by member_key nat_cmp_total f c.args.members.now.items c.sort_by_cached_key.new.self.items
    (c.in_ok-sort_by_cached_key.ensures.stable (λ m. f (string_bytes m.key))
    (answers_always _ _ _ (λ g a r h q. search rules)))
