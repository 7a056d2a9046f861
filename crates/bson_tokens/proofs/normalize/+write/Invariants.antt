use Rattle.std.proofs.Common.{◌≡◌, ◌+◌, ◌*◌, List, [], length}
use Rattle.bson_tokens.specs.NormalizerStates.{JsonMember, array_rest, object_rest, item_numbers_in_range, member_numbers_in_range, if_valid}
use Rattle.bson_tokens.proofs.Standing.{Grown}
use Rattle.bson_tokens.proofs.Writing.{found, whole}
use Rattle.bson_tokens.proofs.normalize.+write.Given as goal

abbrev pub decreases-write_value : goal.decreases-write_value
decreases-write_value l = 2 * l.depth

abbrev pub decreases-write_items : goal.decreases-write_items
decreases-write_items l = 2 * l.depth + 1

abbrev pub decreases-write_members : goal.decreases-write_members
decreases-write_members l = 2 * l.depth + 1

-- what is left, written after what was written, is the whole
abbrev pub invariant-write_items-items : goal.invariant-write_items-items
invariant-write_items-items l = record {
  key_order : l.normalizer.key_order ≡ l.initial.normalizer.key_order;
  whole : whole l.initial.normalizer (if_valid item_numbers_in_range (array_rest l.depth l.initial.reader))
      ≡ whole l.normalizer (if_valid item_numbers_in_range (array_rest l.depth l.reader));
}

abbrev pub decreases-write_items-items : goal.decreases-write_items-items
decreases-write_items-items l = length l.reader

-- the members so far follow the start, and what is left, inserted into them, is the whole
abbrev pub invariant-write_members-members : goal.invariant-write_members-members
invariant-write_members-members l = record {
  key_order : l.normalizer.key_order ≡ l.initial.normalizer.key_order;
  entries : List JsonMember;
  grown : Grown l.initial.normalizer.text.items l.normalizer.text.items l.normalizer.needs_comma l.spans.items entries;
  found : found l.normalizer.key_order [] (if_valid member_numbers_in_range (object_rest l.depth l.initial.reader))
      ≡ found l.normalizer.key_order entries (if_valid member_numbers_in_range (object_rest l.depth l.reader));
}

abbrev pub decreases-write_members-members : goal.decreases-write_members-members
decreases-write_members-members l = length l.reader
