use Rattle.std.proofs.Common.{◌≡◌, take}
use Rattle.bson_convert.proofs.canonical.common_len.Given as goal

abbrev pub invariant-loop-byte_index : goal.invariant-loop-byte_index
invariant-loop-byte_index l = take l.byte_index l.left_text ≡ take l.byte_index l.right_text
