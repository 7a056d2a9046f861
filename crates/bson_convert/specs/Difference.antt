-- The first position at which two lists of bytes differ.
use Rattle.std.specs.Prelude.{◌≡◌, ◌≢◌, ℕ, suc, List, take}

-- they differ in the byte of this column, counted from 1, and in none before it
pub record IsFirstDifferenceAt (column : ℕ) (bytes other_bytes : List ℕ) : Type 0 where
  pub common_length : ℕ
  pub counted : column ≡ suc common_length
  pub same : take common_length bytes ≡ take common_length other_bytes
  pub differ : take column bytes ≢ take column other_bytes
