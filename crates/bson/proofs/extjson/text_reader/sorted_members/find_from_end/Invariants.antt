use Rattle.std.proofs.Common.{◌≤◌, length}
use Rattle.bson.proofs.Members.{IsBelowAt}
use Rattle.bson.proofs.extjson.text_reader.sorted_members.find_from_end.Given as goal

abbrev pub invariant-walk : goal.invariant-walk
invariant-walk l = (l.member_index ≤ length l.unique_members.items) × IsBelowAt l.key l.unique_members.items l.member_index

abbrev pub decreases-walk : goal.decreases-walk
decreases-walk l = l.member_index
