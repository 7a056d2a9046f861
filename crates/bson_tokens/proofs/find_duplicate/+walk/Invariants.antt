use Rattle.std.proofs.Common.{◌≡◌, ℕ, ◌+◌, ◌*◌, List, [], length}
use Rattle.json.specs.Json.{Items, Members, items, members, value}
use Rattle.bson_tokens.specs.DuplicateKeyPath.{first_duplicate_in_items, first_duplicate_in_members, path_of_result, first_path}
use Rattle.bson_tokens.proofs.Keys.{Holds}
use Rattle.bson_tokens.proofs.Reading.{ToGo}
use Rattle.bson_tokens.proofs.find_duplicate.+walk.Given as goal

abbrev pub decreases-find_in_value : goal.decreases-find_in_value
decreases-find_in_value l = 2 * l.depth

abbrev pub decreases-find_in_items : goal.decreases-find_in_items
decreases-find_in_items l = 2 * l.depth + 1

abbrev pub decreases-find_in_members : goal.decreases-find_in_members
decreases-find_in_members l = 2 * l.depth + 1

-- what was read precedes what is left, and so does its verdict
abbrev pub invariant-find_in_items-items : goal.invariant-find_in_items-items
invariant-find_in_items-items l = (front : Items → Items)
    × ToGo (items (value l.depth)) l.initial.reader front l.reader
    × ((js : Items) → first_duplicate_in_items 0 (front js) ≡ first_path (path_of_result l.earliest_path) (first_duplicate_in_items l.item_index js))

abbrev pub decreases-find_in_items-items : goal.decreases-find_in_items-items
decreases-find_in_items-items l = length l.reader

abbrev pub invariant-find_in_members-members : goal.invariant-find_in_members-members
invariant-find_in_members-members l = (front : Members → Members)
    × ToGo (members (value l.depth)) l.initial.reader front l.reader
    × (before : List (List ℕ)) × Holds l.keys before
    × ((ms : Members) → first_duplicate_in_members [] (front ms) ≡ first_path (path_of_result l.earliest_path) (first_duplicate_in_members before ms))

abbrev pub decreases-find_in_members-members : goal.decreases-find_in_members-members
decreases-find_in_members-members l = length l.reader
