-- What is packed of a normalized text is what is to be packed of the text.
use Rattle.std.proofs.Common.{ℕ, List, Result, Ok, Err, Vec, Global, IfOk, sym, ◌∙◌, subst}
use Rattle.std.specs.Prelude.{IsUtf8}
use Rattle.bson_scalar.specs.declared.form.Doubles.{Doubles}
use Rattle.bson_model.specs.TextMeaning.{HasTextMeaningIn, HasTextMeaningInKeyOrder}
use Rattle.bson_model.specs.Value.{Value, document}
use Rattle.bson_model.specs.declared.options.KeyOrder.{KeyOrder}
use Rattle.bson_model.specs.declared.options.KeyOrder.TheVariants.{Ascending, AsGiven}
use Rattle.bson_tokens.proofs.Offered.{meant_in_order, text_read}
use Rattle.bson_tokens.specs.Normalized.{IsNormalizedText}
use Rattle.bson_codec.specs.PackedText.{IsBytesOf}
use Rattle.bson_codec.proofs.AscendingTrees.{means_sorted}

-- the value of the normalized text in its own order is that of the text in the order
meant_alike : (k : KeyOrder) (D : Doubles) (text normalized : List ℕ) (v : Value) → IsUtf8 text
    → IsNormalizedText k text normalized → HasTextMeaningInKeyOrder AsGiven D normalized v
    → HasTextMeaningInKeyOrder k D text v
meant_alike AsGiven D text normalized v utf8 is means = (utf8, (meant_in_order D text normalized v is).0 means.1)
meant_alike Ascending D text normalized v utf8 is means =
    let (t, read, has) = means.1.by_default in
    subst (HasTextMeaningIn D text) (means_sorted D text normalized v is means.1) (record {
      tree = t;
      text = record { utf8 = utf8; tree_read = sym (text_read Ascending text normalized is) ∙ read };
      meaning = has;
    })

pub packed_alike : {E : Type 0} (k : KeyOrder) (D : Doubles) (text normalized : List ℕ) (r : Result (Vec ℕ Global) E)
    → IsUtf8 text → IsNormalizedText k text normalized
    → IfOk r (λ out. IsBytesOf (HasTextMeaningInKeyOrder AsGiven D normalized) out.items)
    → IfOk r (λ out. IsBytesOf (HasTextMeaningInKeyOrder k D text) out.items)
packed_alike k D text normalized (Err e) utf8 is x = x
packed_alike k D text normalized (Ok out) utf8 is x = record {
  pairs = x.pairs;
  meaning = meant_alike k D text normalized (document x.pairs) utf8 is x.meaning;
  fits = x.fits;
  canonical = x.canonical;
  back = x.back;
}
