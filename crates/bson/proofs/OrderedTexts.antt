-- What the text of a value's tree in its own order is.
use Rattle.std.proofs.Common.{◌≡◌, ◌++◌, ℕ, List, true, false, Result, Ok, Err, String, Global, string_bytes, refl, sym, ap, ◌∙◌}
use Rattle.std.specs.Prelude.{is_ok, IfOk, OnOk, OnErr}
use Rattle.serde_json.specs.Data.{Data}
use Rattle.bson_scalar.specs.TreeText.{text_of}
use Rattle.bson_scalar.specs.declared.form.Doubles.{Doubles}
use Rattle.bson_scalar.specs.declared.form.Form.{Form}
use Rattle.bson_scalar.specs.declared.write_error.WriteError.{WriteError}
use Rattle.bson_scalar.specs.declared.write_error.WriteError.TheVariants.{FiniteDouble, OutOfMemory}
use Rattle.bson_scalar.proofs.Offered.{text_is as as_text}
use Rattle.bson_model.specs.Normal.{writable_in, NumbersInRange}
use Rattle.bson_model.specs.Value.{Value}
use Rattle.bson_model.specs.DistinctKeys.{AllKeysDistinct}
use Rattle.bson_model.proofs.OfferedInOrder.{has_no_float, text_in_order, writable_is, written_from}
use Rattle.bson.specs.KeyOrders.{writes_in_key_order}
use Rattle.bson.specs.Texts.{ReturnsWrittenText, AppendsText, IsTextInKeyOrder, IsTextInOrder}
use Rattle.bson_model.specs.declared.options.KeyOrder.{KeyOrder}
use Rattle.bson_model.specs.declared.options.KeyOrder.TheVariants.{Ascending, AsGiven}
use Rattle.bson.proofs.KeyOrders.{as_given_is}
use Rattle.bson.proofs.WholeTexts.{text_by_default, text_finite, text_is, text_writable}

module _ (D : Doubles) (f : Form) (v : Value) where
  is_writable : (t : Data) → writes_in_key_order AsGiven D f v ≡ Ok t → writable_in D v ≡ true
  is_writable t h = sym (writable_is D f v) ∙ ap is_ok (sym (as_given_is D f v) ∙ h)

  -- the text of a tree that writing gives
  text_of_tree : (t : Data) (s : List ℕ) → writes_in_key_order AsGiven D f v ≡ Ok t → s ≡ text_of t → NumbersInRange v → AllKeysDistinct v
      → IsTextInOrder D f v s
  text_of_tree t s w is within_type_range distinct =
      let h = written_from D f v t (sym (as_given_is D f v) ∙ w) in
      text_in_order D f v t s (is ∙ sym (as_text D f t (has_no_float D f v t h))) h within_type_range distinct

  ordered_is : (r : Result (String Global) WriteError) → ReturnsWrittenText r (writes_in_key_order AsGiven D f v) → OnOk r (NumbersInRange v)
      → OnOk r (AllKeysDistinct v) → IfOk r (λ s. IsTextInOrder D f v (string_bytes s))
  ordered_is (Ok s) g within_type_range distinct = text_of_tree g.0 (string_bytes s) g.1 g.2 within_type_range distinct
  ordered_is (Err e) g within_type_range distinct = tt

  ordered_writable : (r : Result (String Global) WriteError) → ReturnsWrittenText r (writes_in_key_order AsGiven D f v)
      → OnOk r (writable_in D v ≡ true)
  ordered_writable (Ok s) g = is_writable g.0 g.1
  ordered_writable (Err e) g = tt

  ordered_finite : (r : Result (String Global) WriteError) → ReturnsWrittenText r (writes_in_key_order AsGiven D f v)
      → r ≡ Err FiniteDouble → writable_in D v ≡ false
  ordered_finite (Ok s) g e = cc
  ordered_finite (Err OutOfMemory) g e = cc
  ordered_finite (Err FiniteDouble) g e = sym (writable_is D f v) ∙ ap is_ok (sym (as_given_is D f v) ∙ g)

  -- ---- after other bytes

  module _ (old new : List ℕ) where
    pub appended_is : (r : Result (Unit {0}) WriteError) → AppendsText r (writes_in_key_order AsGiven D f v) old new → OnOk r (NumbersInRange v)
        → OnOk r (AllKeysDistinct v) → IfOk r (λ _. (s : List ℕ) × IsTextInOrder D f v s × (new ≡ old ++ s))
    appended_is (Ok done) g within_type_range distinct =
        (text_of g.0, text_of_tree g.0 (text_of g.0) g.1 refl within_type_range distinct, g.2)
    appended_is (Err e) g within_type_range distinct = tt

    pub nothing_appended : (r : Result (Unit {0}) WriteError) → AppendsText r (writes_in_key_order AsGiven D f v) old new
        → OnErr r (new ≡ old)
    nothing_appended (Ok done) g = tt
    nothing_appended (Err e) g = g.1

    pub appended_writable : (r : Result (Unit {0}) WriteError) → AppendsText r (writes_in_key_order AsGiven D f v) old new
        → OnOk r (writable_in D v ≡ true)
    appended_writable (Ok done) g = is_writable g.0 g.1
    appended_writable (Err e) g = tt

    pub appended_finite : (r : Result (Unit {0}) WriteError) → AppendsText r (writes_in_key_order AsGiven D f v) old new
        → r ≡ Err FiniteDouble → writable_in D v ≡ false
    appended_finite (Ok done) g e = cc
    appended_finite (Err OutOfMemory) g e = cc
    appended_finite (Err FiniteDouble) g e = sym (writable_is D f v) ∙ ap is_ok (sym (as_given_is D f v) ∙ g.0)

  -- ---- in either order

  pub text_by : (o : KeyOrder) (r : Result (String Global) WriteError) → ReturnsWrittenText r (writes_in_key_order o D f v)
      → OnOk r (NumbersInRange v) → OnOk r (AllKeysDistinct v) → IfOk r (λ s. IsTextInKeyOrder o D f v (string_bytes s))
  text_by Ascending r g within_type_range distinct = text_is D f v r (text_by_default D f v r g) within_type_range
  text_by AsGiven r g within_type_range distinct = ordered_is r g within_type_range distinct

  pub writable_by : (o : KeyOrder) (r : Result (String Global) WriteError) → ReturnsWrittenText r (writes_in_key_order o D f v)
      → OnOk r (writable_in D v ≡ true)
  writable_by Ascending r g = text_writable D f v r (text_by_default D f v r g)
  writable_by AsGiven r g = ordered_writable r g

  pub finite_by : (o : KeyOrder) (r : Result (String Global) WriteError) → ReturnsWrittenText r (writes_in_key_order o D f v)
      → r ≡ Err FiniteDouble → writable_in D v ≡ false
  finite_by Ascending r g e = text_finite D f v r (text_by_default D f v r g) e
  finite_by AsGiven r g e = ordered_finite r g e
