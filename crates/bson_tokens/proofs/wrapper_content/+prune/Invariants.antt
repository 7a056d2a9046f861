use Rattle.std.proofs.Common.{◌≡◌, ◌+◌, ◌*◌, length, option_map}
use Rattle.serde_json.specs.Data.{Items, Members, no_members}
use Rattle.serde_json.specs.View.{members_view}
use Rattle.bson_tokens.specs.WrapperContent.{pruned_members_or_none}
use Rattle.bson_tokens.proofs.Elements.{Lists}
use Rattle.bson_tokens.proofs.Collecting.{Collects}
use Rattle.bson_tokens.proofs.wrapper_content.+prune.Given as goal

abbrev pub decreases-pruned_value : goal.decreases-pruned_value
decreases-pruned_value l = 2 * l.depth

abbrev pub decreases-skip_items : goal.decreases-skip_items
decreases-skip_items l = 2 * l.depth + 1

abbrev pub decreases-kept_members : goal.decreases-kept_members
decreases-kept_members l = 2 * l.depth + 1

abbrev pub invariant-skip_items-items : goal.invariant-skip_items-items
invariant-skip_items-items l = (front : Items → Items) × Lists l.depth l.initial.reader l.reader front

abbrev pub decreases-skip_items-items : goal.decreases-skip_items-items
decreases-skip_items-items l = length l.reader

-- what is kept is kept of the members so far
abbrev pub invariant-kept_members-members : goal.invariant-kept_members-members
invariant-kept_members-members l = (so_far : Members)
    × Collects l.depth no_members l.initial.reader l.reader so_far
    × (option_map (λ m. members_view m.entries) l.members_so_far ≡ pruned_members_or_none l.max_levels so_far)

abbrev pub decreases-kept_members-members : goal.decreases-kept_members-members
decreases-kept_members-members l = length l.reader
