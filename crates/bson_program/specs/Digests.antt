-- The digests of lines.
use Rattle.std.specs.Prelude.{◌≡◌, ◌==◌, ℕ, List, [], ◌∷◌, ◌++◌, if◌then◌else◌, slice_range, take}
use Rattle.hex.specs.Hex.{encode_lower}
use Rattle.sha2.specs.Hashers.{Holds256}
use Rattle.sha2.specs.Sha256.{sha256}
use Rattle.sha2.specs.declared.Sha256.{Sha256}

-- the digest of a line without its newline, as hex digits, and a newline
abbrev pub digest_line : (line : List ℕ) → List ℕ
digest_line line = encode_lower (sha256 line) ++ 10 ∷ []

-- the digests of the lines that end in the bytes; the first line begins with what is before them
unfoldable pub digests_from : (open_line bytes : List ℕ) → List ℕ
digests_from open_line [] = []
digests_from open_line (byte ∷ bytes) =
    if byte == 10 then digest_line open_line ++ digests_from [] bytes else digests_from (open_line ++ byte ∷ []) bytes

-- the bytes of the last line, which no newline ends
unfoldable pub open_line_after : (open_line bytes : List ℕ) → List ℕ
open_line_after open_line [] = open_line
open_line_after open_line (byte ∷ bytes) =
    if byte == 10 then open_line_after [] bytes else open_line_after (open_line ++ byte ∷ []) bytes

-- ---- for private clauses

-- the hasher has the beginning of the line that is not ended before this place, up to where the rest of it starts
pub record HasOpenLine (hasher : Sha256) (open_line bytes : List ℕ) (start offset : ℕ) : Type 0 where
  pub hashed_bytes : List ℕ
  pub holds : Holds256 hasher hashed_bytes
  pub is_open_line : hashed_bytes ++ slice_range bytes start offset ≡ open_line_after open_line (take offset bytes)
