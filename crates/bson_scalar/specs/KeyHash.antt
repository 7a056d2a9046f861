-- The hash of a key: a polynomial of its bytes with an odd base, modulo 2^64.
use Rattle.std.specs.Prelude.{ℕ, zero, suc, ◌+◌, ◌*◌, ◌%◌, ◌^◌, List, length, slice_index_or}

-- the hash of the first bytes, so many
abbrev pub hash_of_first_bytes : (key_bytes : List ℕ) (byte_count : ℕ) → ℕ
hash_of_first_bytes key_bytes zero = 0
hash_of_first_bytes key_bytes (suc byte_count) =
    (hash_of_first_bytes key_bytes byte_count * 11400714819323198485 % 2 ^ 64
    + slice_index_or key_bytes byte_count 0) % 2 ^ 64

abbrev pub key_hash : (key_bytes : List ℕ) → ℕ
key_hash key_bytes = hash_of_first_bytes key_bytes (length key_bytes)
