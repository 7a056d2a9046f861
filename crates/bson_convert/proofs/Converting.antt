-- The bytes have one tree, it one value, and that one output.
use Rattle.std.proofs.Common.{◌≡◌, ◌++◌, ℕ, List, sym, ap, ◌∙◌, subst}
use Rattle.bson_scalar.specs.TreeText.{tree_text}
use Rattle.bson_scalar.specs.declared.form.Form.{Form}
use Rattle.bson_scalar.specs.Forms.{form_in}
use Rattle.bson_scalar.specs.declared.form.Form.TheVariants as form
use Rattle.bson_model.specs.Means.{MeansIn}
use Rattle.bson_model.specs.Value.{Value}
use Rattle.bson_model.specs.Laws.{IsReadFormIn}
use Rattle.bson_convert.specs.Convert.{ConvertsIn, IsWrittenIn, IsOutputIn, IsTextForMode, IsConvertedText, newline}
use Rattle.bson_convert.specs.declared.mode.Mode.{Mode}
use Rattle.bson_convert.specs.declared.mode.Mode.TheVariants.{Canonical, Relaxed, Show}
use Rattle.bson_model.specs.declared.options.KeyOrder.TheVariants.{Ascending}
use Rattle.bson_model.specs.declared.options.Options.{Options}
use Rattle.bson_model.proofs.Offered.{tree_one}
use Rattle.bson_convert.proofs.Again.{is_written}

module _ (o : Options) where
  written_one : (f : Form) (v : Value) (a b : List ℕ) → IsWrittenIn o f v a → IsWrittenIn o f v b → b ≡ a
  written_one f v a b x y =
      y.line.text ∙ ap (λ t. tree_text o.doubles f t ++ newline) (x.is_tree.one y.tree y.is_tree.written) ∙ sym x.line.text

  output_one : (mode : Mode) (v : Value) (a b : List ℕ) → IsOutputIn o mode v a → IsOutputIn o mode v b → b ≡ a
  output_one Canonical v a b x y = written_one (form_in o.layout form.Canonical) v a b x y
  output_one Relaxed v a b x y = written_one (form_in o.layout form.Relaxed) v a b x y
  output_one Show v a b x y = y ∙ sym x

  pub converts_one : (mode : Mode) (bytes a b : List ℕ) → ConvertsIn o mode bytes a → ConvertsIn o mode bytes b → b ≡ a
  converts_one mode bytes a b x y =
      let m : MeansIn o.doubles x.tree y.value =
      subst (λ t. MeansIn o.doubles t y.value) (tree_one bytes y.tree x.tree y.text x.text) y.meaning.means in
      output_one mode x.value a b x.is_output (subst (λ w. IsOutputIn o mode w b) (x.meaning.one y.value m) y.is_output)

  text_output : (mode : Mode) (v : Value) (text output : List ℕ) → IsReadFormIn o.doubles v → IsTextForMode Ascending o mode v text
      → output ≡ text ++ newline → IsOutputIn o mode v output
  text_output Canonical v text output p i l = is_written o (form_in o.layout form.Canonical) v text output p i l
  text_output Relaxed v text output p i l = is_written o (form_in o.layout form.Relaxed) v text output p i l
  text_output Show v text output p i l = l ∙ ap (λ s. s ++ newline) i

  -- the text that the bytes are converted to, and a newline, is their output
  pub text_converts : (mode : Mode) (bytes text output : List ℕ) → IsConvertedText Ascending o mode bytes text
      → output ≡ text ++ newline → ConvertsIn o mode bytes output
  text_converts mode bytes text output (v, m, i) l = record {
    tree = m.tree;
    value = v;
    text = m.text;
    meaning = m.meaning;
    is_output = text_output mode v text output m.meaning.read_form i l;
  }
