-- Strings that are written into a buffer of the caller's.
use Rattle.std.specs.Prelude.{◌≡◌, ◌<◌, ◌≤◌, ◌++◌, ℕ, List, IsUtf8, drop, length}

-- the text, which is UTF-8, is at the start of the buffer, the rest of the buffer is unchanged, and this is the length
-- of the text
pub record IsWrittenToBuffer (text buffer_before buffer_after : List ℕ) (len : ℕ) : Type 0 where
  pub utf8 : IsUtf8 text
  pub fits : length text ≤ length buffer_before
  pub filled : buffer_after ≡ text ++ drop (length text) buffer_before
  pub count : len ≡ length text

-- the buffer is smaller than the text, and unchanged; this is the length that the text needs
pub record IsLargerThanBuffer (text buffer_before buffer_after : List ℕ) (len : ℕ) : Type 0 where
  pub too_short : length buffer_before < length text
  pub unchanged : buffer_after ≡ buffer_before
  pub needed : len ≡ length text
