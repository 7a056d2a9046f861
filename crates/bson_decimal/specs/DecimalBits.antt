-- The value of the 16 bytes of a decimal: IEEE 754-2008, section 3.5.2, decimal128 with its coefficient as one binary
-- number. BSON 1.1 stores the 128 bits with their lowest byte first.
use Rattle.std.specs.Prelude.{◌≡◌, ℕ, ◌+◌, ◌*◌, ◌/◌, ◌%◌, ◌^◌, ◌<◌, Bool, true, false, List, length, slice_index}
use Rattle.std.specs.Prelude.{nat_lt, ◌==◌, if◌then◌else◌}
use Rattle.std.specs.Int.{w128, from_le_bytes, to_le_bytes}
use Rattle.bson_decimal.specs.declared.bits.Decoded.{Decoded}
use Rattle.bson_decimal.specs.declared.bits.Decoded.TheVariants.{Nan, Infinity, Finite}

-- 16 bytes
abbrev pub IsDecimalBytes : (bytes : List ℕ) → Type 0
IsDecimalBytes bytes = (length bytes ≡ 16) × ((byte_index : ℕ) → slice_index bytes byte_index < 256)

-- the value of some bits, given the lowest of them and their number
abbrev pub bit_field : (bits lowest width : ℕ) → ℕ
bit_field bits lowest width = bits / 2 ^ lowest % 2 ^ width

abbrev pub is_bit_set : (bits lowest : ℕ) → Bool
is_bit_set bits lowest = bit_field bits lowest 1 == 1

-- a coefficient of more than 34 digits counts as 0
abbrev pub canonical_coefficient : (coefficient : ℕ) → ℕ
canonical_coefficient coefficient = if nat_lt coefficient (10 ^ 34) then coefficient else 0

-- Bit 127 is the sign. Bits 126 to 122 are all one in a NaN, whose bit 121 says that it signals, and all but the last
-- are one in an infinity. Otherwise, if bits 126 and 125 are both one, the pattern has the second form: the stored
-- exponent in bits 124 to 111 and a coefficient above 10 ^ 34 - 1. Otherwise it has the first form: the stored exponent
-- in bits 126 to 113 and the coefficient below them.
abbrev pub decoded_decimal_bits : (bits : ℕ) → Decoded
decoded_decimal_bits bits =
    if bit_field bits 122 5 == 31 then Nan (is_bit_set bits 127) (is_bit_set bits 121)
    else (if bit_field bits 122 5 == 30 then Infinity (is_bit_set bits 127)
    else (if bit_field bits 125 2 == 3 then Finite (is_bit_set bits 127) 0 (bit_field bits 111 14)
    else Finite (is_bit_set bits 127) (canonical_coefficient (bit_field bits 0 113)) (bit_field bits 113 14)))

-- the value of 16 bytes
abbrev pub decoded_decimal : (bytes : List ℕ) → Decoded
decoded_decimal bytes = decoded_decimal_bits (from_le_bytes w128 bytes)

-- a NaN, of either sign, quiet or signalling
abbrev pub is_decimal_nan : Decoded → Bool
is_decimal_nan (Nan negative signalling) = true
is_decimal_nan (Infinity negative) = false
is_decimal_nan (Finite negative coefficient stored_exponent) = false

abbrev pub sign_bit : (negative : Bool) → ℕ
sign_bit negative = if negative then 2 ^ 127 else 0

-- the first form of a sign, a coefficient and a stored exponent
abbrev pub encoded_finite : (negative : Bool) → (coefficient stored_exponent : ℕ) → ℕ
encoded_finite negative coefficient stored_exponent = sign_bit negative + stored_exponent * 2 ^ 113 + coefficient

-- The canonical bit pattern of a value, which is written: for a NaN the positive quiet one without a payload, for an
-- infinity the one of its sign with no other bit set, for a finite number its first form.
abbrev pub canonical_decimal_bits : Decoded → ℕ
canonical_decimal_bits (Nan negative signalling) = 124 * 2 ^ 120
canonical_decimal_bits (Infinity negative) = sign_bit negative + 120 * 2 ^ 120
canonical_decimal_bits (Finite negative coefficient stored_exponent) =
    encoded_finite negative coefficient stored_exponent

-- the canonical bytes of the same value
unfoldable pub canonical_decimal : (bytes : List ℕ) → List ℕ
canonical_decimal bytes = to_le_bytes w128 (canonical_decimal_bits (decoded_decimal bytes))
