-- The output of an accepted text.
use Rattle.std.proofs.Common.{ℕ, List, Vec, Global, sym, subst}
use Rattle.std.specs.Prelude.{IsUtf8}
use Rattle.bson_model.specs.declared.options.KeyOrder.{KeyOrder}
use Rattle.bson_model.specs.declared.options.KeyOrder.TheVariants.{Ascending, AsGiven}
use Rattle.bson_model.specs.declared.options.Options.{Options}
use Rattle.bson_tokens.proofs.Offered.{meant_in_order, text_read}
use Rattle.bson_tokens.specs.Normalized.{IsNormalizedText}
use Rattle.bson_convert.proofs.Offered.{text_alike}
use Rattle.bson_convert.specs.InOrder.{ConvertsBy}
use Rattle.bson_convert.specs.declared.mode.Mode.{Mode}
use Rattle.bson_run.specs.Accepted.{HasOutput}
use Rattle.bson_run.specs.declared.accepted.Accepted.TheVariants.{Output}

module _ (o : Options) where
  pub at_once : (gives : List ℕ → Type 0) (bytes : Vec ℕ Global) → gives bytes.items → HasOutput o gives (Output bytes)
  at_once gives bytes is = record { is_accepted = tt; each_output = λ output same. subst gives (sym same) is }

-- the output of a normalized text is that of the text
pub outputs_alike : (k : KeyOrder) (o : Options) (mode : Mode) (text normalized output : List ℕ) → IsUtf8 text
    → IsNormalizedText k text normalized → ConvertsBy k o mode normalized output → ConvertsBy k o mode text output
outputs_alike Ascending o mode text normalized output utf8 is x = record {
  tree = x.tree;
  value = x.value;
  text = text_alike o text normalized utf8 (text_read Ascending text normalized is) x.tree x.text;
  meaning = x.meaning;
  is_output = x.is_output;
}
outputs_alike AsGiven o mode text normalized output utf8 is x = record {
  value = x.value;
  utf8 = utf8;
  meaning = (meant_in_order o.doubles text normalized x.value is).0 x.meaning;
  is_output = x.is_output;
}
