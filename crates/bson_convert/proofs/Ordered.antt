-- Conversion in input order of keys: the one output of the value that the bytes denote in that order.
use Rattle.std.proofs.Common.{◌≡◌, ◌++◌, ◌∙◌, ℕ, List, ap}
use Rattle.std.specs.Prelude.{IsUtf8}
use Rattle.bson_model.specs.Value.{Value}
use Rattle.bson_model.specs.declared.options.KeyOrder.TheVariants.{AsGiven}
use Rattle.bson_model.specs.declared.options.Options.{Options}
use Rattle.bson_tokens.proofs.Offered.{meant_in_order}
use Rattle.bson_tokens.specs.Normalized.{IsNormalizedText}
use Rattle.bson_convert.specs.Convert.{IsConvertedText, IsTextForMode, newline}
use Rattle.bson_convert.specs.InOrder.{ConvertsInOrder, IsOutputInOrder}
use Rattle.bson_convert.specs.declared.mode.Mode.{Mode}
use Rattle.bson_convert.specs.declared.mode.Mode.TheVariants.{Canonical, Relaxed, Show}

module _ (o : Options) where
  line_in_order : (mode : Mode) (v : Value) (text output : List ℕ) → IsTextForMode AsGiven o mode v text
      → output ≡ text ++ newline → IsOutputInOrder o mode v output
  line_in_order Canonical v text output is line = record { text = text; is_text = is; line = line }
  line_in_order Relaxed v text output is line = record { text = text; is_text = is; line = line }
  line_in_order Show v text output is line = line ∙ ap (λ l. l ++ newline) is

  pub text_converts : (mode : Mode) (bytes text output : List ℕ) → IsConvertedText AsGiven o mode bytes text
      → output ≡ text ++ newline → ConvertsInOrder o mode bytes output
  text_converts mode bytes text output (v, (utf8, meaning), is) line = record {
    value = v;
    utf8 = utf8;
    meaning = meaning;
    is_output = line_in_order mode v text output is line;
  }

  -- the text of the normalized text is that of the text
  pub converted_alike : (mode : Mode) (text normalized written : List ℕ) → IsUtf8 text
      → IsNormalizedText AsGiven text normalized → IsConvertedText AsGiven o mode normalized written
      → IsConvertedText AsGiven o mode text written
  converted_alike mode text normalized written utf8 is (v, (valid, meaning), of) =
      (v, (utf8, (meant_in_order o.doubles text normalized v is).0 meaning), of)
