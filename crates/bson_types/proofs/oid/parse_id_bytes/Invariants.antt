use Rattle.std.proofs.Common.{◌≡◌, ◌*◌, length, take, drop}
use Rattle.hex.specs.Hex.{decode_pairs}
use Rattle.hex.proofs.Pairs.{prepend}
use Rattle.bson_types.proofs.oid.parse_id_bytes.Given as goal

abbrev pub invariant-bytes : goal.invariant-bytes
invariant-bytes l =
    (length l.bytes ≡ 12)
    × (decode_pairs 0 l.text ≡ prepend (take l.byte_index l.bytes) (decode_pairs (2 * l.byte_index) (drop (2 * l.byte_index) l.text)))
