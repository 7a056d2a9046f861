-- Output in a form is read as a tree with the same output.
use Rattle.std.proofs.Common.{◌≡◌, ℕ, List, Ok, refl, sym, ap, subst, ◌∙◌}
use Rattle.std.specs.Prelude.{IsUtf8}
use Rattle.serde_json.specs.Data.{Data}
use Rattle.serde_json.specs.Read.{read}
use Rattle.bson_scalar.specs.TreeText.{HasNoFloatIn, tree_text}
use Rattle.bson_scalar.specs.declared.form.Form.{Form}
use Rattle.bson_scalar.specs.Forms.{form_in}
use Rattle.bson_scalar.specs.declared.form.Form.TheVariants as form
use Rattle.bson_model.specs.Laws.{HasMeaningIn, IsTreeOfIn}
use Rattle.bson_model.specs.Texts.{HasTextIn, IsTree}
use Rattle.bson_model.specs.Value.{Value}
use Rattle.bson_model.proofs.Offered.{in_range_in, means_to_in, read_tree, value_read_in}
use Rattle.bson_model.proofs.OfferedInOrder.{sorted_text}
use Rattle.bson_model.specs.TextMeaning.{IsTextOf}
use Rattle.bson_model.specs.declared.options.Options.{Options}
use Rattle.bson_convert.specs.Convert.{ConvertsIn, ConvertsToItself, IsFixedPointIn, IsOutputIn, IsWrittenIn}
use Rattle.bson_convert.specs.declared.mode.Mode.{Mode}
use Rattle.bson_convert.specs.declared.mode.Mode.TheVariants.{Canonical, Relaxed, Show}
use Rattle.bson_model.proofs.Offered.{numbers}
use Rattle.bson_convert.proofs.Deep.{shallow}
use Rattle.bson_convert.proofs.Newline.{read_then}

module _ (o : Options) (f : Form) where
  -- the tree of a value that was read means a value that has the output too
  pub record Again (u : Data) (output : List ℕ) : Type 0 where
    pub value : Value
    pub fits : IsTree u
    pub no_float : HasNoFloatIn o.doubles f u
    pub meaning : HasMeaningIn o.doubles u value
    pub is_written : IsWrittenIn o f value output

  pub again : (bytes output : List ℕ) (t : Data) (v : Value) → IsTextOf bytes t → HasMeaningIn o.doubles t v
      → (w : IsWrittenIn o f v output) → Again w.tree output
  again bytes output t v is m w =
      let D = o.doubles in
      let u = w.tree in
      let own = sorted_text D f v u (tree_text D f u) refl w.is_tree.written
      (in_range_in D m.means (read_tree bytes t is.tree_read)) in
      let own_tree : u ≡ own.tree = own.is_tree.one u w.is_tree.written in
      let has : HasTextIn D f v u = subst (HasTextIn D f v) (sym own_tree) (own.reads_again m.read_form.0) in
      let x = has.means.0 in
      let meaning : HasMeaningIn D u x = (value_read_in D (λ (y : Value). y) u (Ok x) (means_to_in D has.means.1)).ok in
      let other = sorted_text D f x u (tree_text D f u) refl has.means.3 (in_range_in D has.means.1 has.is_tree) in
      let other_tree : u ≡ other.tree = other.is_tree.one u has.means.3 in
      let other_is_tree : IsTreeOfIn D f x u = subst (IsTreeOfIn D f x) (sym other_tree) other.is_tree in
      record {
        value = x;
        fits = has.is_tree;
        no_float = w.is_tree.no_float;
        meaning = meaning;
        is_written = record { tree = u; is_tree = other_is_tree; line = w.line; again = w.again };
      }

  kept : (mode : Mode) (bytes output : List ℕ) (t : Data) (v : Value) → IsTextOf bytes t → HasMeaningIn o.doubles t v
      → IsUtf8 output → (w : IsWrittenIn o f v output) → ((v : Value) → IsWrittenIn o f v output → IsOutputIn o mode v output)
      → ConvertsToItself o f mode output
  kept mode bytes output t v is m utf8 w of =
      let a = again bytes output t v is m w in
      record {
        tree = w.tree;
        text = w.line.text;
        again = λ shallow. record {
          tree = w.tree;
          value = a.value;
          text = record { utf8 = utf8; tree_read = ap read w.line.text ∙ read_then _ ∙ w.line.read_again shallow };
          meaning = a.meaning;
          is_output = of a.value a.is_written;
        };
        shallow_if_text = λ other is_text. shallow o.doubles f w.tree a.no_float (numbers w.tree a.fits) other
            (sym (read_then _) ∙ ap read (sym w.line.text) ∙ is_text.tree_read);
      }

pub output_kept : (o : Options) (mode : Mode) (bytes output : List ℕ) → ConvertsIn o mode bytes output → IsUtf8 output
    → IsFixedPointIn o mode output
output_kept o Canonical bytes output x utf8 =
    kept o (form_in o.layout form.Canonical) Canonical bytes output x.tree x.value x.text x.meaning utf8 x.is_output (λ v w. w)
output_kept o Relaxed bytes output x utf8 =
    kept o (form_in o.layout form.Relaxed) Relaxed bytes output x.tree x.value x.text x.meaning utf8 x.is_output (λ v w. w)
output_kept o Show bytes output x utf8 = tt
