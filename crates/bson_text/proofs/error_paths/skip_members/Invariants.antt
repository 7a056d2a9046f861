use Rattle.std.proofs.Common.{◌≡◌, ℕ, List, length, Some, ◌||◌, is_some}
use Rattle.json.specs.Json.{value, members, Members}
use Rattle.json.specs.Token.{Token}
use Rattle.bson_text.specs.ErrorPaths.{has_wrapper_key}
use Rattle.bson_text.proofs.error_paths.skip_members.Given as goal

abbrev pub invariant-members : goal.invariant-members
invariant-members l = (n : ℕ) (ms : Members) (r : List Token) → members (value l.depth) n l.initial.reader ≡ Some (ms, r)
    → (m : ℕ) × (ks : Members) × (members (value l.depth) m l.reader ≡ Some (ks, r))
    × (has_wrapper_key ms ≡ (is_some l.first_wrapper || has_wrapper_key ks))

abbrev pub decreases-members : goal.decreases-members
decreases-members l = length l.reader
