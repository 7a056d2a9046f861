use Rattle.std.proofs.Common.{◌≡◌, ℕ, ◌-◌, ◌<◌, ◌≤◌, length, true, get_or}
use Rattle.bson_model.specs.Same.{same}
use Rattle.bson.specs.View.{bson_view}
use Rattle.bson.specs.declared.bson.Bson.{Bson}
use Rattle.bson.proofs.Places.{IsSameAt}
use Rattle.bson.proofs.equality.+same.Given as goal

abbrev pub invariant-same_documents-loop-left_index : goal.invariant-same_documents-loop-left_index
invariant-same_documents-loop-left_index l = (k : ℕ) → k < l.left_index → IsSameAt l.left.pairs l.right.pairs k

abbrev pub decreases-same_lists-items : goal.decreases-same_lists-items
decreases-same_lists-items l = length l.left.items - l.item_index

abbrev pub invariant-same_lists-items : goal.invariant-same_lists-items
invariant-same_lists-items l = (l.item_index ≤ length l.left.items) × ((k : ℕ) (d : Bson) → k < l.item_index
    → same (bson_view (get_or l.left.items k d)) (bson_view (get_or l.right.items k d)) ≡ true)
