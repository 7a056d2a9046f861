-- The bytes of a key after the common prefix as a number. For private clauses.
use Rattle.std.specs.Prelude.{ℕ, zero, suc, ◌+◌, ◌*◌, ◌%◌, ◌^◌, min, List, length, slice_index_or}
use Rattle.std.specs.Int.Bits.{bit_or}

-- the end of the prefix, or of a shorter key
abbrev pub common_prefix_end : (prefix_length : ℕ) → (key_bytes : List ℕ) → ℕ
common_prefix_end prefix_length key_bytes = min prefix_length (length key_bytes)

-- this number of bytes from the start on, with zeros for missing bytes
abbrev pub bytes_as_number : (key_bytes : List ℕ) → (start byte_count : ℕ) → ℕ
bytes_as_number key_bytes start zero = 0
bytes_as_number key_bytes start (suc byte_count) =
    bit_or (bytes_as_number key_bytes start byte_count * 256 % 2 ^ 64) (slice_index_or key_bytes (start + byte_count) 0)
