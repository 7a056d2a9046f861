-- Vectors and their bytes (the MongoDB BSON binary vector format).
use Rattle.std.specs.Prelude.{ℕ, ◌%◌, ◌==◌, ◌&&◌, ◌||◌, nat_lt, not, Bool, false, true, List, ◌∷◌, length, map}
use Rattle.std.specs.Prelude.{if◌then◌else◌}
use Rattle.std.specs.Int.{w8, w32, cast_unsigned, to_le_bytes}
use Rattle.std.specs.List.{flat_map}
use Rattle.bson_types.specs.PackedBits.{packed_bytes, packed_padding}
use Rattle.bson_types.specs.IgnoredBits.{cleared_bytes, ignored_bits}
use Rattle.bson_types.specs.declared.vector.Vector.{Vector}
use Rattle.bson_types.specs.declared.vector.Vector.TheVariants.{Int8, Float32, PackedBit}

-- the four bytes of each number, the lowest first
abbrev pub u32_le_bytes : (number_list : List ℕ) → List ℕ
u32_le_bytes number_list = flat_map (to_le_bytes w32) number_list

-- type, padding, data
abbrev pub vector_bytes : Vector → List ℕ
vector_bytes (Int8 vector_content) = 0x03 ∷ 0 ∷ map (cast_unsigned w8) vector_content.items
vector_bytes (Float32 vector_content) = 0x27 ∷ 0 ∷ u32_le_bytes vector_content.items
vector_bytes (PackedBit vector_content) = 0x10 ∷ packed_padding vector_content ∷ packed_bytes vector_content

-- the bytes of a vector whose ignored bits may be anything: a known type, no padding but of packed bits,
-- integers of four bytes
abbrev pub is_vector_with_any_ignored_bits : (bytes : List ℕ) → Bool
is_vector_with_any_ignored_bits (type_byte ∷ padding ∷ data_bytes) =
    if type_byte == 0x10 then nat_lt padding 8 && (not (length data_bytes == 0) || (padding == 0))
    else (padding == 0) && ((type_byte == 0x03) || ((type_byte == 0x27) && (length data_bytes % 4 == 0)))
is_vector_with_any_ignored_bits _ = false

-- the ignored bits, which only packed bits have, are zero
abbrev pub has_zero_ignored_bits : (bytes : List ℕ) → Bool
has_zero_ignored_bits (type_byte ∷ padding ∷ data_bytes) =
    not (type_byte == 0x10) || (ignored_bits data_bytes padding == 0)
has_zero_ignored_bits _ = true

-- the bytes of a vector
abbrev pub is_vector_bytes : (bytes : List ℕ) → Bool
is_vector_bytes bytes = is_vector_with_any_ignored_bits bytes && has_zero_ignored_bits bytes

-- the same bytes with the ignored bits zero
abbrev pub vector_with_cleared_bits : (bytes : List ℕ) → List ℕ
vector_with_cleared_bits (type_byte ∷ padding ∷ data_bytes) =
    type_byte ∷ padding ∷ (if type_byte == 0x10 then cleared_bytes data_bytes padding else data_bytes)
vector_with_cleared_bits bytes = bytes
