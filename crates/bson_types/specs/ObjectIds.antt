-- Object ids: twelve bytes, and their strings of 24 hexadecimal digits.
use Rattle.std.specs.Prelude.{◌≡◌, ℕ, ◌+◌, ◌*◌, ◌^◌, ◌%◌, ◌==◌, not, ℤ, pos, List, [], ◌∷◌, length, slice_index, Option}
use Rattle.std.specs.Prelude.{Some, None, if◌then◌else◌, position, take, drop}
use Rattle.std.specs.Int.{from_be_bytes, w32}
use Rattle.std.specs.Ordering.{nat_cmp, on, then_cmp}
use Rattle.std.specs.declared.cmp.Ordering.{Ordering}
pub use Rattle.hex.specs.Hex.{encode_lower, is_hex_digit, IsBytes}
use Rattle.bson_types.specs.HexText.{IsHexText}

-- the string is 24 hexadecimal digits of either case, two for each of the twelve bytes
abbrev pub IsOidText : (text id : List ℕ) → Type 0
IsOidText text id = IsHexText text id × (length id ≡ 12)

-- why a string is not an object id: its length, or a byte that is not a digit, with its offset
pub data OidFault : Type 0 where
  BadLength : (byte_count : ℕ) → OidFault
  BadCharacter : (character byte_offset : ℕ) → OidFault

-- the offset of the first byte that is not a digit
abbrev pub first_non_digit : (text : List ℕ) → Option ℕ
first_non_digit text = position (λ character. not (is_hex_digit character)) text

abbrev pub oid_fault_at : (text : List ℕ) → (non_digit_offset : Option ℕ) → OidFault
oid_fault_at text None = BadLength (length text)
oid_fault_at text (Some byte_offset) = BadCharacter (slice_index text byte_offset) byte_offset

-- an odd length first, then the first byte that is no digit, then the length
abbrev pub oid_fault : (text : List ℕ) → OidFault
oid_fault text = if length text % 2 == 1 then BadLength (length text) else oid_fault_at text (first_non_digit text)

-- the milliseconds of the id: the seconds are its first four bytes
abbrev pub oid_millis : (id : List ℕ) → ℤ
oid_millis id = pos (from_be_bytes w32 (take 4 id) * 1000)

-- twelve bytes
abbrev pub IsObjectId : (id : List ℕ) → Type 0
IsObjectId id = (length id ≡ 12) × IsBytes id

-- an unsigned big-endian number
unfoldable pub big_endian_number : (bytes : List ℕ) → ℕ
big_endian_number [] = 0
big_endian_number (first_byte ∷ other_bytes) = first_byte * 256 ^ length other_bytes + big_endian_number other_bytes

-- the numbers of an id: 4 bytes of seconds, 5 of process id, 3 of counter
abbrev pub seconds_of : (id : List ℕ) → ℕ
seconds_of id = big_endian_number (take 4 id)

abbrev pub process_id_of : (id : List ℕ) → ℕ
process_id_of id = big_endian_number (take 5 (drop 4 id))

abbrev pub counter_of : (id : List ℕ) → ℕ
counter_of id = big_endian_number (drop 5 (drop 4 id))

-- the order of ids: by seconds, then by process id, then by counter
abbrev pub object_id_order : (id other_id : List ℕ) → Ordering
object_id_order = then_cmp (on seconds_of nat_cmp) (then_cmp (on process_id_of nat_cmp) (on counter_of nat_cmp))
