use Rattle.std.specs.Prelude.{◌≡◌, ◌<◌, ◌≤◌, ℕ, get_or, length, true}
use Rattle.json.specs.Word.{is_space}
use Rattle.bson_json.proofs.sequence.end_before_white_space.Given as goal

abbrev pub decreases-loop-end : goal.decreases-loop-end
decreases-loop-end l = l.end

abbrev pub invariant-loop-end : goal.invariant-loop-end
invariant-loop-end l = record {
  within : l.end ≤ length l.bytes;
  spaces : (index : ℕ) → l.end ≤ index → index < length l.bytes → is_space (get_or l.bytes index 0) ≡ true;
}
