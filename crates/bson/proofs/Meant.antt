-- What a text means that was read as another text or in its order.
use Rattle.std.proofs.Common.{◌≡◌, ℕ, List, Result, Ok, Err, Some, IfOk, IfErr, option_map, sym, ap, ◌∙◌}
use Rattle.std.specs.Prelude.{IsUtf8}
use Rattle.serde_json.specs.Data.{Data}
use Rattle.bson_scalar.specs.declared.form.Doubles.{Doubles}
use Rattle.bson_model.specs.Normal.{NumbersInRange}
use Rattle.bson_model.specs.Sorted.{sorted}
use Rattle.bson_model.specs.Value.{Value}
use Rattle.bson_model.specs.OrderedTrees.{tree_sorted_by_key}
use Rattle.bson_model.proofs.OfferedInOrder.{forgets, read_forgotten, comes_back}
use Rattle.bson_tokens.specs.Normalized.{IsNormalizedText}
use Rattle.bson_model.specs.declared.options.KeyOrder.TheVariants as normalized
use Rattle.bson_tokens.proofs.Offered.{text_read, meant_in_order}
use Rattle.bson.specs.TextMeaning.{IsTextOf, HasTextMeaningIn, HasTextMeaningInKeyOrder, IsTextFaultIn, TextMeansInKeyOrder, RoundTripsInKeyOrder}
use Rattle.bson_model.specs.declared.options.KeyOrder.{KeyOrder}
use Rattle.bson_model.specs.declared.options.KeyOrder.TheVariants.{Ascending, AsGiven}
use Rattle.bson.specs.declared.extjson.text_error.TextError.{TextError}
use Rattle.bson.specs.declared.extjson.text_error.TextError.TheVariants.{OutOfMemory}
use Rattle.bson.proofs.Accepted.{accepted, came_back, is_ranged}

module _ (D : Doubles) (text : List ℕ) (utf8 : IsUtf8 text) where
  -- the value of the text that it is normalized as
  pub meant_by_key : (written : List ℕ) (v : Value) → IsNormalizedText normalized.Ascending text written
      → HasTextMeaningIn D written v → HasTextMeaningIn D text v
  meant_by_key written v is means = record {
    tree = means.tree;
    text = record {
      utf8 = utf8;
      tree_read = sym (text_read normalized.Ascending text written is) ∙ means.text.tree_read;
    };
    meaning = means.meaning;
  }

  pub meant_by_first_places : (written : List ℕ) (v : Value) → IsNormalizedText normalized.AsGiven text written
      → HasTextMeaningInKeyOrder AsGiven D written v → HasTextMeaningInKeyOrder AsGiven D text v
  meant_by_first_places written v is means = (utf8, (meant_in_order D text written v is).0 means.1)

-- ---- what was read in either order

module _ (D : Doubles) {X : Type 0} (see : X → Value) (bytes : List ℕ) where
  pub ranged_by : (o : KeyOrder) (r : Result X TextError) → IfOk r (λ x. HasTextMeaningInKeyOrder o D bytes (see x))
      → IfOk r (λ x. NumbersInRange (see x))
  ranged_by Ascending r h = is_ranged D see bytes r h
  ranged_by AsGiven (Ok x) h = h.1.within_type_range
  ranged_by AsGiven (Err e) h = tt

  pub back_by : (o : KeyOrder) (r : Result X TextError) → IfOk r (λ x. HasTextMeaningInKeyOrder o D bytes (see x))
      → IfOk r (λ x. RoundTripsInKeyOrder o D (see x))
  back_by Ascending r h = came_back D see bytes r h
  back_by AsGiven (Ok x) h = comes_back D (see x) bytes h.1
  back_by AsGiven (Err e) h = tt

  -- a text that has a meaning in the order is not refused
  pub accepted_by : (o : KeyOrder) (r : Result X TextError) → IfErr r (λ e. IsTextFaultIn D bytes e) → (v : Value)
      → TextMeansInKeyOrder o D bytes v → IfErr r (λ e. e ≡ OutOfMemory)
  accepted_by Ascending r fault v means = accepted D bytes r fault means.0 v means.1 means.2
  accepted_by AsGiven r fault v means =
      let by_default : IsTextOf bytes (tree_sorted_by_key means.0) =
      record { utf8 = means.1; tree_read = read_forgotten bytes ∙ ap (option_map tree_sorted_by_key) means.2 } in
      accepted D bytes r fault (tree_sorted_by_key means.0) (sorted v) by_default (forgets D means.3)
