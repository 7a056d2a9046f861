use Rattle.std.proofs.Common.{◌≡◌}
use Rattle.bson_text.specs.KeyBytes.{bytes_as_number, common_prefix_end}
use Rattle.bson_text.proofs.member_spans.next_eight_bytes.Given as goal

abbrev pub invariant-bytes : goal.invariant-bytes
invariant-bytes l = l.bytes_as_number ≡ bytes_as_number l.key (common_prefix_end l.prefix_length l.key) l.position
