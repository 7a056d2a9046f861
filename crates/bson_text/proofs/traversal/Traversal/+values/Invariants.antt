use Rattle.std.proofs.Common.{◌≡◌, ℕ, ◌+◌, ◌*◌, ◌≤◌, ◌++◌, List, length, option_map}
use Rattle.json.specs.Json.{value, items, members, members_step}
use Rattle.bson_text.specs.TraversalResults.{members_after_key}
use Rattle.bson_text.proofs.Objects.{Key}
use Rattle.bson_text.proofs.Walking.{ItemsToGo, ToGo}
use Rattle.bson_text.proofs.Faults.{ItemsFrom, MembersFrom}
use Rattle.bson_text.proofs.Denials.{ItemsStill, MembersStill}
use Rattle.bson_text.proofs.traversal.Traversal.+values.Given as goal

abbrev pub decreases-write_value : goal.decreases-write_value
decreases-write_value g l = 4 * l.level.depth

abbrev pub decreases-write_object : goal.decreases-write_object
decreases-write_object g l = 4 * l.level.depth + 3

abbrev pub decreases-write_wrapper : goal.decreases-write_wrapper
decreases-write_wrapper g l = 4 * l.level.depth + 2

abbrev pub decreases-write_scope : goal.decreases-write_scope
decreases-write_scope g l = 4 * l.level.depth

abbrev pub decreases-write_code : goal.decreases-write_code
decreases-write_code g l = 4 * l.level.depth + 1

abbrev pub decreases-write_array : goal.decreases-write_array
decreases-write_array g l = 4 * l.level.depth + 1

abbrev pub decreases-write_document : goal.decreases-write_document
decreases-write_document g l = 4 * l.level.depth + 1

abbrev pub invariant-write_array-items : goal.invariant-write_array-items
invariant-write_array-items g l = (length l.self.reader ≤ length l.initial.self.reader)
    × (l.self.keys.items ≡ l.initial.self.keys.items)
    × (n : ℕ) × (length l.self.reader ≤ n)
    × ItemsToGo l.level.doubles g.W.ValueWriter.wrote_value g.W.ValueWriter.item_name_of
    (items (value l.level.depth) (length l.initial.self.reader) l.initial.self.reader) (items (value l.level.depth) n l.self.reader) l.index
    l.initial.self.writer l.self.writer
    × ItemsFrom l.level.doubles (items (value l.level.depth) (length l.initial.self.reader) l.initial.self.reader)
    (items (value l.level.depth) n l.self.reader) l.index
    × ItemsStill l.level.doubles (g.W.ValueWriter.may_give_up l.level.doubles) g.W.ValueWriter.sorts_keys (items (value l.level.depth) (length l.initial.self.reader) l.initial.self.reader)
    (items (value l.level.depth) n l.self.reader)

abbrev pub decreases-write_array-items : goal.decreases-write_array-items
decreases-write_array-items g l = length l.self.reader

abbrev pub invariant-write_document-members : goal.invariant-write_document-members
invariant-write_document-members g l = (length l.self.reader ≤ length l.initial.self.reader)
    × (ks : List Key) × (l.self.keys.items ≡ l.initial.self.keys.items ++ ks)
    × (n : ℕ) × (length l.self.reader ≤ n)
    × ToGo l.level.doubles g.W.ValueWriter.wrote_value g.W.ValueWriter.wrote_key l.is_document
    (members_after_key l.level.depth (option_map (λ s. s.now) l.first_key) l.initial.self.reader)
    (members_step (value l.level.depth) (members (value l.level.depth) n) (option_map (λ s. s.now) l.pending_key) l.self.reader)
    ks l.initial.self.writer l.self.writer
    × MembersFrom l.level.doubles l.is_document
    (members_after_key l.level.depth (option_map (λ s. s.now) l.first_key) l.initial.self.reader)
    (members_step (value l.level.depth) (members (value l.level.depth) n) (option_map (λ s. s.now) l.pending_key) l.self.reader)
    × MembersStill l.level.doubles (g.W.ValueWriter.may_give_up l.level.doubles) g.W.ValueWriter.sorts_keys l.is_document
    (members_after_key l.level.depth (option_map (λ s. s.now) l.first_key) l.initial.self.reader)
    (members_step (value l.level.depth) (members (value l.level.depth) n) (option_map (λ s. s.now) l.pending_key) l.self.reader)

abbrev pub decreases-write_document-members : goal.decreases-write_document-members
decreases-write_document-members g l = length l.self.reader
