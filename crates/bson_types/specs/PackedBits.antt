-- The bytes and the padding of a vector of packed bits.
use Rattle.std.specs.Prelude.{ℕ, List}
use Rattle.bson_types.specs.declared.packed_bits.PackedBitVector.{PackedBitVector}

-- its bytes, whose bits go from the highest down
abbrev pub packed_bytes : PackedBitVector → List ℕ
packed_bytes bit_vector = bit_vector.bytes.items

-- the number of lowest bits of the last byte that are ignored
abbrev pub packed_padding : PackedBitVector → ℕ
packed_padding bit_vector = bit_vector.padding
