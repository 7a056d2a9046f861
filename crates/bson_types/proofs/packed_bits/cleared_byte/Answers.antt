use Rattle.std.proofs.Common.{bit_and, ap, ◌∙◌, arith}
use Rattle.std.proofs.lemmas.Nat.Bits.{and_high_mask, ones_shl}
use Rattle.bson_types.proofs.packed_bits.cleared_byte.Goals as goal

pub returns : goal.returns
returns c =
    ap (bit_and c.args.byte) (ones_shl 8 c.args.padding (omega arith))
    ∙ and_high_mask 8 c.args.padding (omega arith) c.args.byte c.ranges.byte.fits
