use Rattle.std.proofs.Common.{◌≡◌, ℕ, List, length, Some}
use Rattle.json.specs.Json.{value, items, Items}
use Rattle.json.specs.Token.{Token}
use Rattle.bson_text.proofs.error_paths.skip_items.Given as goal

abbrev pub invariant-items : goal.invariant-items
invariant-items l = (n : ℕ) (js : Items) (r : List Token) → items (value l.depth) n l.initial.reader ≡ Some (js, r)
    → (m : ℕ) × (ks : Items) × (items (value l.depth) m l.reader ≡ Some (ks, r))

abbrev pub decreases-items : goal.decreases-items
decreases-items l = length l.reader
