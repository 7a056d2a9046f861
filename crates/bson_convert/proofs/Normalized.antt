-- A text of the same tree has the same meaning, and a text with a meaning is not rejected.
use Rattle.std.proofs.Common.{◌≡◌, ℕ, List, Result, Ok, Err, Some, None, IfErr, refl, sym, ◌∙◌, subst}
use Rattle.std.specs.Prelude.{IsUtf8}
use Rattle.serde_json.specs.Data.{Data}
use Rattle.serde_json.specs.Read.{read}
use Rattle.bson_model.specs.Means.{MeansIn}
use Rattle.bson_model.specs.OrderedTexts.{HasMeaningInOrder}
use Rattle.bson_model.specs.Sorted.{sorted}
use Rattle.bson_model.specs.Value.{Value}
use Rattle.bson_model.proofs.Offered.{tree_one}
use Rattle.bson_model.specs.TextMeaning.{HasTextMeaningIn, IsTextOf}
use Rattle.bson_model.specs.declared.options.Options.{Options}
use Rattle.bson_convert.specs.Convert.{IsAccepted, IsRejectedIn}
use Rattle.bson_convert.specs.declared.error.Error.{Error}
use Rattle.bson_convert.specs.declared.error.Error.TheVariants.{CannotRead, CannotWrite, NotJson, NotExtendedJson}
use Rattle.bson_convert.specs.declared.error.Error.TheVariants.{NoBytes, NotCanonical, OutOfMemory}

module _ (o : Options) (bytes : List ℕ) (t : Data) (v : Value) (is : IsTextOf bytes t) (means : MeansIn o.doubles t v) where
  memory_alone : (f : Error) → IsRejectedIn o f bytes → f ≡ OutOfMemory
  memory_alone OutOfMemory h = refl
  memory_alone NotJson h =
      let none : read bytes ≡ None = h is.utf8 in let some : read bytes ≡ Some t = is.tree_read in cc
  memory_alone (NotExtendedJson place) h =
      absurd (h.2.nothing v (subst (λ u. MeansIn o.doubles u v) (tree_one bytes t h.0 is h.1) means))
  memory_alone CannotRead h = absurd h
  memory_alone (NoBytes why) h = absurd h
  memory_alone (NotCanonical column) h = absurd h
  memory_alone CannotWrite h = absurd h

  -- bytes that mean something are refused for want of memory alone
  pub accepted : {X : Type 0} (r : Result X Error) → IfErr r (λ f. IsRejectedIn o f bytes)
      → IfErr r (λ f. f ≡ OutOfMemory)
  accepted (Ok x) h = tt
  accepted (Err f) h = memory_alone f h

module _ (o : Options) (text normalized : List ℕ) (utf8 : IsUtf8 text) (same : read normalized ≡ read text) where
  pub text_alike : (t : Data) → IsTextOf normalized t → IsTextOf text t
  text_alike t is = record { utf8 = utf8; tree_read = sym same ∙ is.tree_read }

  pub meant_alike : (v : Value) → HasTextMeaningIn o.doubles normalized v → HasTextMeaningIn o.doubles text v
  meant_alike v has = record { tree = has.tree; text = text_alike has.tree has.text; meaning = has.meaning }

  pub refused_alike : (f : Error) → IsUtf8 normalized → IsRejectedIn o f normalized → IsRejectedIn o f text
  refused_alike NotJson valid none = λ _. sym same ∙ none valid
  refused_alike (NotExtendedJson place) valid (t, is, first) = (t, text_alike t is, first)
  refused_alike OutOfMemory valid is = tt
  refused_alike CannotRead valid is = is
  refused_alike (NoBytes why) valid is = is
  refused_alike (NotCanonical column) valid is = is
  refused_alike CannotWrite valid is = is

-- a text that means a value in the order of its keys means something
pub accepted_in_order : (o : Options) (text : List ℕ) (v : Value) → IsUtf8 text → HasMeaningInOrder o.doubles text v
    → IsAccepted o text
accepted_in_order o text v utf8 m =
    (m.by_default.0, sorted v, record { utf8 = utf8; tree_read = m.by_default.1 }, m.by_default.2.means)
