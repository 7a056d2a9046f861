-- The positions of pairs before and after the pair at a position is removed.
use Rattle.std.specs.Prelude.{ℕ, zero, suc}

-- the position of a pair before the removal
abbrev pub position_before_removal : (removed_position pair_position : ℕ) → ℕ
position_before_removal zero pair_position = suc pair_position
position_before_removal (suc removed_position) zero = zero
position_before_removal (suc removed_position) (suc pair_position) =
    suc (position_before_removal removed_position pair_position)

-- the position of another pair after the removal
abbrev pub position_after_removal : (removed_position pair_position : ℕ) → ℕ
position_after_removal zero zero = zero
position_after_removal zero (suc pair_position) = pair_position
position_after_removal (suc removed_position) zero = zero
position_after_removal (suc removed_position) (suc pair_position) =
    suc (position_after_removal removed_position pair_position)
