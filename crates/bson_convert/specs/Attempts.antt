-- The result of reading bytes once, in either order of keys.
use Rattle.std.specs.Prelude.{ℕ, List, IsUtf8, string_bytes}
use Rattle.bson_model.specs.declared.options.Options.{Options}
use Rattle.bson_tokens.specs.Normalized.{IsNormalizedText}
use Rattle.bson_convert.specs.Convert.{IsAccepted, IsConvertedText}
use Rattle.bson_convert.specs.declared.conversion_attempt.Attempt.{Attempt}
use Rattle.bson_convert.specs.declared.conversion_attempt.Attempt.TheVariants.{Written, Normalized}
use Rattle.bson_convert.specs.declared.mode.Mode.{Mode}

-- a text for the mode of the value that the bytes mean, or the normalized text of the bytes, which means something
abbrev pub IsAttemptResult : Options → Mode → (bytes : List ℕ) → Attempt → Type 0
IsAttemptResult options mode bytes (Written text) = IsConvertedText options.key_order options mode bytes text.items
IsAttemptResult options mode bytes (Normalized text) = IsUtf8 bytes
    × IsNormalizedText options.key_order bytes (string_bytes text) × IsAccepted options (string_bytes text)

-- the text that was written is UTF-8; the other is by its type
abbrev pub IsUtf8Attempt : Attempt → Type 0
IsUtf8Attempt (Written text) = IsUtf8 text.items
IsUtf8Attempt (Normalized text) = Unit {0}
