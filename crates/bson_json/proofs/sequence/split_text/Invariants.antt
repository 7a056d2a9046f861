use Rattle.std.specs.Prelude.{◌≡◌, ◌≤◌, ◌-◌, drop, length, take, zero}
use Rattle.bson_json.specs.Sequence.{open_brackets_of, outside, parts, scan_state_of}
use Rattle.bson_json.proofs.Scanned.{put_before}
use Rattle.bson_json.proofs.sequence.split_text.Given as goal

abbrev pub decreases-loop-byte_index : goal.decreases-loop-byte_index
decreases-loop-byte_index l = length l.content - l.byte_index

abbrev pub invariant-loop-byte_index : goal.invariant-loop-byte_index
invariant-loop-byte_index l = record {
  split : parts l.separator (outside zero) l.content
      ≡ put_before (take l.byte_index l.content) (parts l.separator (scan_state_of l.scan_state) (drop l.byte_index l.content));
  depth : open_brackets_of l.scan_state ≤ l.byte_index;
}
