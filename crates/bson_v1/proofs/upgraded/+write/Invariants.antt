use Rattle.std.proofs.Common.{◌≡◌, ◌+◌, ◌*◌, length}
use Rattle.bson_tokens.specs.NormalizerStates.{array_rest, object_rest}
use Rattle.bson_v1.specs.WrittenTokens.{upgraded_items_tokens, upgraded_members_tokens}
use Rattle.bson_v1.proofs.Passing.{whole}
use Rattle.bson_v1.proofs.upgraded.+write.Given as goal

abbrev pub decreases-write_started_value : goal.decreases-write_started_value
decreases-write_started_value l = 8 * l.depth

abbrev pub decreases-write_value : goal.decreases-write_value
decreases-write_value l = 8 * l.depth + 1

abbrev pub decreases-write_items : goal.decreases-write_items
decreases-write_items l = 8 * l.depth + 2

abbrev pub decreases-write_members : goal.decreases-write_members
decreases-write_members l = 8 * l.depth + 2

abbrev pub decreases-write_member : goal.decreases-write_member
decreases-write_member l = 8 * l.depth + 3

abbrev pub decreases-write_complete_scope : goal.decreases-write_complete_scope
decreases-write_complete_scope l = 8 * l.depth + 4

abbrev pub decreases-write_scope : goal.decreases-write_scope
decreases-write_scope l = 8 * l.depth + 5

abbrev pub decreases-write_later_members : goal.decreases-write_later_members
decreases-write_later_members l = 8 * l.depth + 6

abbrev pub decreases-write_object : goal.decreases-write_object
decreases-write_object l = 8 * l.depth + 7

-- what is left, written after what was written, is the whole
abbrev pub invariant-write_items-items : goal.invariant-write_items-items
invariant-write_items-items l = (l.writer.before ≡ l.initial.writer.before)
    × (whole upgraded_items_tokens l.initial.writer.tokens (array_rest l.depth l.initial.reader)
    ≡ whole upgraded_items_tokens l.writer.tokens (array_rest l.depth l.reader))

abbrev pub decreases-write_items-items : goal.decreases-write_items-items
decreases-write_items-items l = length l.reader

abbrev pub invariant-write_members-members : goal.invariant-write_members-members
invariant-write_members-members l = (l.writer.before ≡ l.initial.writer.before)
    × (whole upgraded_members_tokens l.initial.writer.tokens (object_rest l.depth l.initial.reader)
    ≡ whole upgraded_members_tokens l.writer.tokens (object_rest l.depth l.reader))

abbrev pub decreases-write_members-members : goal.decreases-write_members-members
decreases-write_members-members l = length l.reader
