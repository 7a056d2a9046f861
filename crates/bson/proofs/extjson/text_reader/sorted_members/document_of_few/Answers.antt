use Rattle.std.proofs.Common.{sym, subst}
use Rattle.bson_model.specs.Sorted.{KeysAscend}
use Rattle.bson_model.specs.Value.{no_pairs}
use Rattle.bson.proofs.MembersByKey.{all_ascend}
use Rattle.bson.proofs.extjson.text_reader.sorted_members.document_of_few.Goals as goal

pub document_of_ascending-requires : goal.document_of_ascending-requires
document_of_ascending-requires c = subst KeysAscend (sym c.in_ok-unique_members.ensures) (all_ascend c.args.members.items no_pairs tt)
