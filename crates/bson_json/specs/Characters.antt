-- The characters that a string may have unescaped, as RFC 8259 has them. `IsUnescaped` of `Grammar` is the same a byte at a
-- time.
use Rattle.std.specs.Prelude.{◌⊎◌, ◌≤◌, ℕ}
use Rattle.std.specs.Char.{IsScalar}

-- unescaped = %x20-21 / %x23-5B / %x5D-10FFFF, except the surrogates, which UTF-8 excludes
abbrev pub IsUnescapedCharacter : (code_point : ℕ) → Type 0
IsUnescapedCharacter code_point = IsScalar code_point × (((0x20 ≤ code_point) × (code_point ≤ 0x21)) ⊎ (((0x23 ≤ code_point) × (code_point ≤ 0x5B)) ⊎ (0x5D ≤ code_point)))
