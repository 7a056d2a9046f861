-- Output text that the caller owns.
use Rattle.std.specs.Prelude.{◌≡◌, ℕ, List, [], ◌∷◌, ◌++◌, length}
use Rattle.vbson.specs.declared.text.Text.{Text}

abbrev pub nul : List ℕ
nul = 0 ∷ []

-- the bytes are the text and a NUL, and the length is the text's
pub record IsOwnedText (text : List ℕ) (owned_text : Text) : Type 0 where
  pub bytes : owned_text.bytes.now ≡ text ++ nul
  pub len : owned_text.len ≡ length text
