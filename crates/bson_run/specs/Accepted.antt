-- The output of an accepted text.
use Rattle.std.specs.Prelude.{◌≡◌, ℕ, List, IsUtf8, string_bytes}
use Rattle.bson_model.specs.declared.options.Options.{Options}
use Rattle.bson_convert.specs.Convert.{IsAccepted}
use Rattle.bson_convert.specs.InOrder.{ConvertsBy}
use Rattle.bson_run.specs.declared.accepted.Accepted.{Accepted}
use Rattle.bson_run.specs.declared.accepted.Accepted.TheVariants.{Output, Normalized}

-- the output of it
abbrev pub Outputs : Options → Accepted → (output : List ℕ) → Type 0
Outputs options (Output bytes) output = output ≡ bytes.items
Outputs options (Normalized mode text) output = ConvertsBy options.key_order options mode (string_bytes text) output

-- the text that it has means something
abbrev pub IsAcceptedText : Options → Accepted → Type 0
IsAcceptedText options (Output bytes) = Unit {0}
IsAcceptedText options (Normalized mode text) = IsAccepted options (string_bytes text)

-- an output that it has is UTF-8; the texts are by their type
abbrev pub IsUtf8Accepted : Accepted → Type 0
IsUtf8Accepted (Output bytes) = IsUtf8 bytes.items
IsUtf8Accepted normalized = Unit {0}

-- it has an output, and each that it has is one of these
pub record HasOutput (options : Options) (is_output : List ℕ → Type 0) (accepted : Accepted) : Type 0 where
  pub is_accepted : IsAcceptedText options accepted
  pub each_output : (output : List ℕ) → Outputs options accepted output → is_output output
