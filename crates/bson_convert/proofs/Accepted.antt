-- Bytes have an output if and only if they are accepted.
use Rattle.std.proofs.Common.{◌↔◌, ◌++◌, ℕ, List, Ok, refl}
use Rattle.bson_scalar.specs.TreeText.{tree_text}
use Rattle.bson_scalar.specs.declared.form.Form.{Form}
use Rattle.bson_scalar.specs.Forms.{form_in}
use Rattle.bson_scalar.specs.declared.form.Form.TheVariants as form
use Rattle.bson_model.specs.Displayed.{display_text}
use Rattle.bson_model.specs.Value.{Value}
use Rattle.bson_model.specs.Laws.{HasMeaningIn}
use Rattle.bson_model.specs.TextMeaning.{HasTextMeaningIn, HasTextMeaningInKeyOrder}
use Rattle.bson_model.specs.ValueTexts.{IsTextInKeyOrder}
use Rattle.bson_model.specs.declared.options.KeyOrder.{KeyOrder}
use Rattle.bson_model.specs.declared.options.KeyOrder.TheVariants.{Ascending, AsGiven}
use Rattle.bson_model.specs.declared.options.Options.{Options}
use Rattle.bson_model.proofs.Offered.{in_range_in, means_to_in, read_comes_back_in, read_tree, value_read_in}
use Rattle.bson_model.proofs.OfferedInOrder.{comes_back, meant_by_text, sorted_text, text_in_order}
use Rattle.bson_convert.specs.Convert.{IsAccepted, IsTextForMode, newline}
use Rattle.bson_convert.specs.InOrder.{ConvertsBy}
use Rattle.bson_convert.specs.declared.mode.Mode.{Mode}
use Rattle.bson_convert.specs.declared.mode.Mode.TheVariants.{Canonical, Relaxed, Show}
use Rattle.bson_convert.proofs.EitherOrder.{text_converts_by}
use Rattle.bson_convert.proofs.Normalized.{accepted_in_order}

module _ (o : Options) (bytes : List ℕ) where
  -- the value that the bytes mean, its keys in the order
  sorted_meaning : IsAccepted o bytes → (v : Value) × HasTextMeaningIn o.doubles bytes v
  sorted_meaning (t, v, is, means) =
      let meaning : HasMeaningIn o.doubles t v =
      (value_read_in o.doubles (λ (y : Value). y) t (Ok v) (means_to_in o.doubles means)).ok in
      (v, record { tree = t; text = is; meaning = meaning })

  meant : (k : KeyOrder) → IsAccepted o bytes → (v : Value) × HasTextMeaningInKeyOrder k o.doubles bytes v
  meant Ascending accepts = sorted_meaning accepts
  meant AsGiven accepts =
      let (v, has) = sorted_meaning accepts in
      let (w, ordered, same) = meant_by_text o.doubles bytes v (has.tree, has.text.tree_read, has.meaning) in
      (w, (has.text.utf8, ordered))

  -- the value has a text in each form
  text_in : (k : KeyOrder) (f : Form) (v : Value) → HasTextMeaningInKeyOrder k o.doubles bytes v
      → (text : List ℕ) × IsTextInKeyOrder k o.doubles f v text
  text_in Ascending f v has =
      let D = o.doubles in
      let tree = read_tree bytes has.tree has.text.tree_read in
      let (u, is) = read_comes_back_in D has.tree v tree has.meaning.means f in
      (tree_text D f u, sorted_text D f v u (tree_text D f u) refl is.written (in_range_in D has.meaning.means tree))
  text_in AsGiven f v (utf8, meaning) =
      let D = o.doubles in
      let (u, is) = comes_back D v bytes meaning f in (
        tree_text D f u,
        text_in_order D f v u (tree_text D f u) refl is.written meaning.within_type_range meaning.distinct,
      )

  text_for : (k : KeyOrder) (mode : Mode) (v : Value) → HasTextMeaningInKeyOrder k o.doubles bytes v
      → (text : List ℕ) × IsTextForMode k o mode v text
  text_for k Canonical v has = text_in k (form_in o.layout form.Canonical) v has
  text_for k Relaxed v has = text_in k (form_in o.layout form.Relaxed) v has
  text_for k Show v has = (display_text v, refl)

  accepted_again : (k : KeyOrder) (mode : Mode) (output : List ℕ) → ConvertsBy k o mode bytes output → IsAccepted o bytes
  accepted_again Ascending mode output x = (x.tree, x.value, x.text, x.meaning.means)
  accepted_again AsGiven mode output x = accepted_in_order o bytes x.value x.utf8 x.meaning

  pub has_output : (k : KeyOrder) (mode : Mode)
      → (IsAccepted o bytes ↔ ((output : List ℕ) × ConvertsBy k o mode bytes output))
  has_output k mode = (
    λ accepts.
        let (v, has) = meant k accepts in
        let (text, is) = text_for k mode v has in
        (text ++ newline, text_converts_by k o mode bytes text (text ++ newline) (v, has, is) refl),
    λ x. accepted_again k mode x.0 x.1,
  )
