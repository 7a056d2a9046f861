-- The line that a text is converted to under the options.
use Rattle.std.proofs.Common.{◌≡◌, ◌++◌, ℕ, IsUtf8, List, subst}
use Rattle.bson_convert.specs.Convert.{newline}
use Rattle.bson_convert.specs.InOrder.{ConvertsBy, IsFixedPointBy}
use Rattle.bson_convert.specs.declared.mode.Mode.{Mode}
use Rattle.bson_convert.specs.declared.mode.Mode.TheVariants.{Canonical, Relaxed, Show}
use Rattle.bson_model.specs.Displayed.{display_text}
use Rattle.bson_model.specs.declared.options.KeyOrder.{KeyOrder}
use Rattle.bson_model.specs.declared.options.KeyOrder.TheVariants.{Ascending, AsGiven}
use Rattle.bson_model.specs.declared.options.Options.{Options}
use Rattle.bson_scalar.specs.Forms.{form_in}
use Rattle.bson_scalar.specs.TreeText.{tree_text}
use Rattle.bson_scalar.specs.declared.form.Form.TheVariants as form
use Rattle.vbson.proofs.Preprocessed.{IsReadBy, under}
use Rattle.vbson.specs.Convert.{IsLineUnder}
use Rattle.vbson.specs.declared.options.CallOptions.{CallOptions}

-- a line that a text is converted to ends in a newline
ended : (k : KeyOrder) (o : Options) (mode : Mode) (input line : List ℕ) → ConvertsBy k o mode input line
    → (text : List ℕ) × (line ≡ text ++ newline)
ended Ascending o Canonical input line h =
    (tree_text o.doubles (form_in o.layout form.Canonical) h.is_output.tree, h.is_output.line.text)
ended Ascending o Relaxed input line h =
    (tree_text o.doubles (form_in o.layout form.Relaxed) h.is_output.tree, h.is_output.line.text)
ended Ascending o Show input line h = (display_text h.value, h.is_output)
ended AsGiven o Canonical input line h = (h.is_output.text, h.is_output.line)
ended AsGiven o Relaxed input line h = (h.is_output.text, h.is_output.line)
ended AsGiven o Show input line h = (display_text h.value, h.is_output)

-- the line of the text that is read in the place of a text
pub line_under : (options : CallOptions) (mode : Mode) (text : List ℕ) (o : Options) (read line : List ℕ) → IsReadBy options text o read
    → ConvertsBy o.key_order o mode read line → IsUtf8 line → IsFixedPointBy o.key_order o mode line → IsLineUnder options mode text line
line_under options mode text o read line is converts utf8 again =
    let (before, whole) = ended o.key_order o mode read line converts in
    record {
      text = before;
      converts = under (λ p x. ConvertsBy p.key_order p mode x (before ++ newline)) options text o read is
          (subst (λ (x : List ℕ). ConvertsBy o.key_order o mode read x) whole converts);
      utf8 = subst IsUtf8 whole utf8;
      unchanged_by_conversion = subst (λ (p : Options). IsFixedPointBy p.key_order p mode (before ++ newline)) is.with_options
          (subst (λ (x : List ℕ). IsFixedPointBy o.key_order o mode x) whole again);
      whole = whole;
    }
