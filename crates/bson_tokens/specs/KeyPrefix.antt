-- The first bytes of a key as a number.
use Rattle.std.specs.Prelude.{ℕ, zero, suc, ◌*◌, ◌%◌, ◌^◌, List, slice_index_or}
use Rattle.std.specs.Int.Bits.{bit_or}

-- the first n bytes, with zeros for those that are missing
abbrev pub key_prefix_number : (key_bytes : List ℕ) → (byte_count : ℕ) → ℕ
key_prefix_number key_bytes zero = 0
key_prefix_number key_bytes (suc byte_count) =
    bit_or (key_prefix_number key_bytes byte_count * 256 % 2 ^ 128) (slice_index_or key_bytes byte_count 0)
