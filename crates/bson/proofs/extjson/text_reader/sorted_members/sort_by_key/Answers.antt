use Rattle.std.proofs.Common.{string_bytes, rules}
use Rattle.std.proofs.lemmas.Cmp.{nat_list_cmp_total}
use Rattle.std.proofs.lemmas.List.MinMax.{ranks_by}
use Rattle.std.proofs.lemmas.List.Sorted.{answers_always}
use Rattle.bson_model.proofs.Offered.{sorted_by}
use Rattle.bson.specs.SortedMembers.{member_key}
use Rattle.bson.proofs.extjson.text_reader.sorted_members.sort_by_key.Goals as goal

pub returns : goal.returns
returns c =
    sorted_by member_key nat_list_cmp_total (λ k. k) c.args.members.now.items c.sort_by.new.self.items
    (c.in_ok-sort_by.ensures.stable _ (ranks_by nat_list_cmp_total (λ m. string_bytes m.key))
    (answers_always _ _ _ (λ g a r h q. search rules)))
