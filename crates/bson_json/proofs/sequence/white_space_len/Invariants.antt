use Rattle.std.specs.Prelude.{◌≡◌, ◌<◌, ◌≤◌, ◌-◌, ℕ, get_or, length, true}
use Rattle.json.specs.Word.{is_space}
use Rattle.bson_json.proofs.sequence.white_space_len.Given as goal

abbrev pub decreases-loop-byte_index : goal.decreases-loop-byte_index
decreases-loop-byte_index l = length l.bytes - l.byte_index

abbrev pub invariant-loop-byte_index : goal.invariant-loop-byte_index
invariant-loop-byte_index l = record {
  within : l.byte_index ≤ length l.bytes;
  spaces : (index : ℕ) → index < l.byte_index → is_space (get_or l.bytes index 0) ≡ true;
}
