-- Conversion in either order of keys: the one output of the bytes, which is converted to itself.
use Rattle.std.proofs.Common.{◌≡◌, ◌++◌, ℕ, List, Vec, Global, Result, Ok, Err, IfOk, sym, ap, ◌∙◌, subst}
use Rattle.std.proofs.lemmas.Option.{same_Some}
use Rattle.std.specs.Prelude.{IsUtf8}
use Rattle.bson_scalar.specs.TreeText.{tree_text}
use Rattle.bson_scalar.specs.declared.form.Form.{Form}
use Rattle.bson_scalar.specs.Forms.{form_in}
use Rattle.bson_scalar.specs.declared.form.Form.TheVariants as form
use Rattle.bson_model.specs.OrderedMeans.{MeansInOrder}
use Rattle.bson_model.specs.OrderedTexts.{HasMeaningInOrder}
use Rattle.bson_model.specs.Value.{Value}
use Rattle.bson_model.specs.declared.options.KeyOrder.{KeyOrder}
use Rattle.bson_model.specs.declared.options.KeyOrder.TheVariants.{Ascending, AsGiven}
use Rattle.bson_model.specs.declared.options.Options.{Options}
use Rattle.bson_tokens.proofs.Offered.{text_read}
use Rattle.bson_tokens.specs.Normalized.{IsNormalizedText}
use Rattle.bson_convert.specs.Convert.{IsConvertedText, IsRejectedIn, newline}
use Rattle.bson_convert.specs.InOrder.{ConvertsBy, IsFixedPointBy, IsLineInOrder, IsOutputInOrder}
use Rattle.bson_convert.specs.declared.error.Error.{Error}
use Rattle.bson_convert.specs.declared.error.Error.TheVariants.{CannotRead, CannotWrite, NotJson, NotExtendedJson}
use Rattle.bson_convert.specs.declared.error.Error.TheVariants.{NoBytes, NotCanonical, OutOfMemory}
use Rattle.bson_convert.specs.declared.mode.Mode.{Mode}
use Rattle.bson_convert.specs.declared.mode.Mode.TheVariants.{Canonical, Relaxed, Show}
use Rattle.bson_convert.proofs.Converting.{converts_one, text_converts}
use Rattle.bson_convert.proofs.Normalized.{meant_alike}
use Rattle.bson_convert.proofs.Ordered.{converted_alike, text_converts as ordered_text_converts}
use Rattle.bson_convert.proofs.TwiceInOrder.{kept_by}

-- the text that the bytes are converted to, and a newline, is their output
pub text_converts_by : (k : KeyOrder) (o : Options) (mode : Mode) (bytes text output : List ℕ)
    → IsConvertedText k o mode bytes text → output ≡ text ++ newline → ConvertsBy k o mode bytes output
text_converts_by Ascending o mode bytes text output is line = text_converts o mode bytes text output is line
text_converts_by AsGiven o mode bytes text output is line = ordered_text_converts o mode bytes text output is line

-- a text that is ended is converted to itself
pub kept_ok_by : (k : KeyOrder) (o : Options) (mode : Mode) (bytes text : List ℕ) (r : Result (Vec ℕ Global) Error)
    → IsConvertedText k o mode bytes text → IsUtf8 text → IfOk r (λ ended. ended.items ≡ text ++ newline)
    → (IsUtf8 text → IfOk r (λ ended. IsUtf8 ended.items)) → IfOk r (λ ended. IsFixedPointBy k o mode ended.items)
kept_ok_by k o mode bytes text (Ok ended) is utf8 line valid =
    kept_by k o mode bytes ended.items (text_converts_by k o mode bytes text ended.items is line) (valid utf8)
kept_ok_by k o mode bytes text (Err e) is utf8 line valid = tt

module _ (o : Options) where
  one_line : (f : Form) (v : Value) (a b : List ℕ) → IsLineInOrder o.doubles f v a → IsLineInOrder o.doubles f v b → b ≡ a
  one_line f v a b x y =
      let trees = x.is_text.only_tree y.is_text.tree y.is_text.written in
      let texts : y.text ≡ x.text = y.is_text.compact ∙ ap (tree_text o.doubles f) trees ∙ sym x.is_text.compact in
      y.line ∙ ap (λ t. t ++ newline) texts ∙ sym x.line

  one_output : (mode : Mode) (v : Value) (a b : List ℕ) → IsOutputInOrder o mode v a → IsOutputInOrder o mode v b → b ≡ a
  one_output Canonical v a b x y = one_line (form_in o.layout form.Canonical) v a b x y
  one_output Relaxed v a b x y = one_line (form_in o.layout form.Relaxed) v a b x y
  one_output Show v a b x y = y ∙ sym x

  one_value : (text : List ℕ) (v w : Value) → HasMeaningInOrder o.doubles text v → HasMeaningInOrder o.doubles text w → w ≡ v
  one_value text v w x y =
      let trees = same_Some y.tree x.tree (sym y.tree_read ∙ x.tree_read) in
      x.one w (subst (λ t. MeansInOrder o.doubles t w) trees y.means)

-- the bytes have one output
pub converts_one_by : (k : KeyOrder) (o : Options) (mode : Mode) (bytes a b : List ℕ) → ConvertsBy k o mode bytes a
    → ConvertsBy k o mode bytes b → b ≡ a
converts_one_by Ascending o mode bytes a b x y = converts_one o mode bytes a b x y
converts_one_by AsGiven o mode bytes a b x y =
    one_output o mode x.value a b x.is_output
    (subst (λ v. IsOutputInOrder o mode v b) (one_value o bytes x.value y.value x.meaning y.meaning) y.is_output)

-- the text of the normalized bytes is that of the bytes
pub converted_alike_by : (k : KeyOrder) (o : Options) (mode : Mode) (bytes normalized text : List ℕ) → IsUtf8 bytes
    → IsNormalizedText k bytes normalized → IsConvertedText k o mode normalized text → IsConvertedText k o mode bytes text
converted_alike_by Ascending o mode bytes normalized text utf8 is x =
    (x.0, meant_alike o bytes normalized utf8 (text_read Ascending bytes normalized is) x.0 x.1, x.2)
converted_alike_by AsGiven o mode bytes normalized text utf8 is x = converted_alike o mode bytes normalized text utf8 is x

-- errors do not depend on the order of keys
pub rejected_in_any_order : (o : Options) (k : KeyOrder) (f : Error) (bytes : List ℕ)
    → IsRejectedIn (record o { key_order = k }) f bytes → IsRejectedIn o f bytes
rejected_in_any_order o k NotJson bytes h = h
rejected_in_any_order o k (NotExtendedJson place) bytes h = h
rejected_in_any_order o k OutOfMemory bytes h = h
rejected_in_any_order o k CannotRead bytes h = h
rejected_in_any_order o k (NoBytes why) bytes h = h
rejected_in_any_order o k (NotCanonical column) bytes h = h
rejected_in_any_order o k CannotWrite bytes h = h
