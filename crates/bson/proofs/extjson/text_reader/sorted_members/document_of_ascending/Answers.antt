use Rattle.bson.proofs.MembersByKey.{to_store}
use Rattle.bson.proofs.extjson.text_reader.sorted_members.document_of_ascending.Goals as goal

pub unreachable-requires : goal.unreachable-requires
unreachable-requires c = let taken = c.in-Err.ensures.taken (to_store c.args.members.items c.requires) in cc
