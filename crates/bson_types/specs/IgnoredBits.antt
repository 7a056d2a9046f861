-- The ignored bits of packed bits: the lowest bits of the last byte, as many as the padding says. The MongoDB BSON
-- binary vector format requires them to be zero.
use Rattle.std.specs.Prelude.{ℕ, ◌-◌, ◌*◌, ◌/◌, ◌%◌, ◌^◌, List, length, slice_index, slice_set}

-- the last byte, 0 if there is none
abbrev pub last_byte : (bytes : List ℕ) → ℕ
last_byte bytes = slice_index bytes (length bytes - 1)

-- the ignored bits as a number, which is 0 if each of them is 0
abbrev pub ignored_bits : (bytes : List ℕ) → (padding : ℕ) → ℕ
ignored_bits bytes padding = last_byte bytes % 2 ^ padding

-- the bytes with the ignored bits zero
abbrev pub cleared_bytes : (bytes : List ℕ) → (padding : ℕ) → List ℕ
cleared_bytes bytes padding = slice_set bytes (length bytes - 1) (last_byte bytes / 2 ^ padding * 2 ^ padding)
