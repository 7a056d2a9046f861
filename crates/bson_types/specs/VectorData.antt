-- The data of a vector, and that its bytes determine it.
use Rattle.std.specs.Prelude.{◌≡◌, ◌<◌, ◌^◌, ℕ, ℤ, List, [], ◌∷◌, map, FitsSigned}
use Rattle.std.specs.Int.{w8, cast_signed, cast_unsigned}
use Rattle.std.specs.List.{AllByRecursion}
use Rattle.bson_types.specs.PackedBits.{packed_bytes, packed_padding}
use Rattle.bson_types.specs.IgnoredBits.{ignored_bits}
use Rattle.bson_types.specs.VectorBytes.{u32_le_bytes}
use Rattle.bson_types.specs.declared.packed_bits.PackedBitVector.{PackedBitVector}
use Rattle.bson_types.specs.declared.vector.Vector.{Vector}
use Rattle.bson_types.specs.declared.vector.Vector.TheVariants as vector

-- signed bytes, patterns of 32 bits, or bytes of packed bits with their padding
pub data VectorData : Type 0 where
  int8 : (signed_numbers : List ℤ) → VectorData
  float32 : (float32_patterns : List ℕ) → VectorData
  packed : (bytes : List ℕ) → (padding : ℕ) → VectorData

-- the data of a vector
abbrev pub vector_data : Vector → VectorData
vector_data (vector.Int8 vector_content) = int8 vector_content.items
vector_data (vector.Float32 vector_content) = float32 vector_content.items
vector_data (vector.PackedBit vector_content) = packed (packed_bytes vector_content) (packed_padding vector_content)

-- the same with each number of 8 bits as the number from -128 to 127 that has its byte; equal for a vector in range
abbrev pub data_in_range : Vector → VectorData
data_in_range (vector.Int8 vector_content) = int8 (map (cast_signed w8) (map (cast_unsigned w8) vector_content.items))
data_in_range (vector.Float32 vector_content) = float32 vector_content.items
data_in_range (vector.PackedBit vector_content) = packed (packed_bytes vector_content) (packed_padding vector_content)

-- the data of packed bits
abbrev pub packed_bits_data : PackedBitVector → VectorData
packed_bits_data vector_content = packed (packed_bytes vector_content) (packed_padding vector_content)

-- its bytes: type, padding, data
abbrev pub data_bytes : VectorData → List ℕ
data_bytes (int8 signed_numbers) = 0x03 ∷ 0 ∷ map (cast_unsigned w8) signed_numbers
data_bytes (float32 float32_patterns) = 0x27 ∷ 0 ∷ u32_le_bytes float32_patterns
data_bytes (packed bytes padding) = 0x10 ∷ padding ∷ bytes

-- each number is in the range of its type; a padding is below 8, and 0 if there are no bytes, and the ignored bits are
-- zero
abbrev pub IsDataInRange : VectorData → Type 0
IsDataInRange (int8 signed_numbers) = AllByRecursion (FitsSigned w8) signed_numbers
IsDataInRange (float32 float32_patterns) = AllByRecursion (λ pattern. pattern < 2 ^ 32) float32_patterns
IsDataInRange (packed bytes padding) = (padding < 8) × (bytes ≡ [] → padding ≡ 0) × (ignored_bits bytes padding ≡ 0)

-- bytes of a vector: some data in range has them
abbrev pub IsVectorBytes : (bytes : List ℕ) → Type 0
IsVectorBytes bytes = (vector_content : VectorData) × IsDataInRange vector_content × (data_bytes vector_content ≡ bytes)

-- the bytes determine the data: any data in range with these bytes is equal to it
abbrev pub IsOnlyDataOf : (bytes : List ℕ) → VectorData → Type 0
IsOnlyDataOf bytes vector_content = (other_content : VectorData) → IsDataInRange other_content
    → data_bytes other_content ≡ bytes → other_content ≡ vector_content
