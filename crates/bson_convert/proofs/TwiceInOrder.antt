-- Output in the order of keys is read as a value with the same output.
use Rattle.std.proofs.Common.{◌≡◌, ◌≤◌, ◌++◌, ℕ, List, Some, option_and_then, ap, ◌∙◌}
use Rattle.std.specs.Prelude.{IsUtf8}
use Rattle.json.specs.Json as json
use Rattle.serde_json.specs.Data.{depth}
use Rattle.serde_json.specs.Read.{max_depth}
use Rattle.bson_scalar.specs.declared.form.Form.{Form}
use Rattle.bson_scalar.specs.Forms.{form_in}
use Rattle.bson_scalar.specs.declared.form.Form.TheVariants as form
use Rattle.bson_model.specs.Normal.{as_read_back, normal_form}
use Rattle.bson_model.specs.Value.{Value}
use Rattle.bson_model.specs.OrderedTrees.{tree_of_json, read_in_order}
use Rattle.bson_model.specs.OrderedTexts.{HasMeaningInOrder, IsOrderedTextOf}
use Rattle.bson_model.proofs.OfferedInOrder.{text_in_order, text_means, written_again}
use Rattle.bson_model.specs.declared.options.KeyOrder.{KeyOrder}
use Rattle.bson_model.specs.declared.options.KeyOrder.TheVariants.{Ascending, AsGiven}
use Rattle.bson_model.specs.declared.options.Options.{Options}
use Rattle.bson_convert.specs.Convert.{newline}
use Rattle.bson_convert.specs.declared.mode.Mode.{Mode}
use Rattle.bson_convert.specs.declared.mode.Mode.TheVariants.{Canonical, Relaxed, Show}
use Rattle.bson_convert.proofs.Newline.{tokens_then}
use Rattle.bson_convert.proofs.Twice.{output_kept as sorted_kept}
use Rattle.bson_convert.specs.InOrder.{ConvertsBy, ConvertsInOrder, ConvertsToItselfInOrder, IsFixedPointBy}
use Rattle.bson_convert.specs.InOrder.{IsFixedPointInOrder, IsLineInOrder, IsOutputInOrder}

pub read_kept_then : (text : List ℕ) → read_in_order (text ++ newline) ≡ read_in_order text
read_kept_then text =
    ap (λ ts. option_and_then tree_of_json (option_and_then (λ p. json.if_last p.0 p.1) (json.value max_depth ts))) (tokens_then text)

module _ (o : Options) (f : Form) where
  -- a text that is read as the tree means a value that has the line too
  pub again_in_order : (mode : Mode) (bytes output text : List ℕ) (v : Value) → HasMeaningInOrder o.doubles bytes v
      → (line : IsLineInOrder o.doubles f v output)
      → ((w : Value) → IsLineInOrder o.doubles f w output → IsOutputInOrder o mode w output)
      → IsUtf8 text → read_in_order text ≡ Some line.is_text.tree → ConvertsInOrder o mode text output
  again_in_order mode bytes output text v m line of utf8 read =
      let D = o.doubles in
      let t = line.is_text.tree in
      let ordered : IsOrderedTextOf D f v t = line.is_text.ordered m.read_form.0 in
      let w = as_read_back f (normal_form v) in
      let meaning : HasMeaningInOrder D text w = text_means D text t w read ordered.means in
      let is_text = text_in_order D f w t line.text line.is_text.compact (written_again D f v t ordered.written)
      meaning.within_type_range meaning.distinct in
      record {
        value = w;
        utf8 = utf8;
        meaning = meaning;
        is_output = of w (record { text = line.text; is_text = is_text; line = line.line });
      }

  -- the text of the line is read as its tree
  pub line_read : (bytes output : List ℕ) (v : Value) → HasMeaningInOrder o.doubles bytes v
      → (line : IsLineInOrder o.doubles f v output) → depth line.is_text.tree ≤ max_depth
      → read_in_order line.text ≡ Some line.is_text.tree
  line_read bytes output v m line shallow =
      ap read_in_order line.is_text.compact ∙ (line.is_text.ordered m.read_form.0).own_text.in_order shallow

  is_kept : (mode : Mode) (bytes output : List ℕ) (v : Value) → HasMeaningInOrder o.doubles bytes v → IsUtf8 output
      → IsLineInOrder o.doubles f v output
      → ((w : Value) → IsLineInOrder o.doubles f w output → IsOutputInOrder o mode w output)
      → ConvertsToItselfInOrder o f mode output
  is_kept mode bytes output v m utf8 line of = record {
    tree = line.is_text.tree;
    text = line.line ∙ ap (λ s. s ++ newline) line.is_text.compact;
    again = λ shallow. again_in_order mode bytes output output v m line of utf8
        (ap read_in_order line.line ∙ read_kept_then line.text ∙ line_read bytes output v m line shallow);
  }

output_kept : (o : Options) (mode : Mode) (bytes output : List ℕ) → ConvertsInOrder o mode bytes output → IsUtf8 output
    → IsFixedPointInOrder o mode output
output_kept o Canonical bytes output x utf8 =
    is_kept o (form_in o.layout form.Canonical) Canonical bytes output x.value x.meaning utf8 x.is_output (λ w line. line)
output_kept o Relaxed bytes output x utf8 =
    is_kept o (form_in o.layout form.Relaxed) Relaxed bytes output x.value x.meaning utf8 x.is_output (λ w line. line)
output_kept o Show bytes output x utf8 = tt

pub kept_by : (k : KeyOrder) (o : Options) (mode : Mode) (bytes output : List ℕ) → ConvertsBy k o mode bytes output
    → IsUtf8 output → IsFixedPointBy k o mode output
kept_by Ascending o mode bytes output x utf8 = sorted_kept o mode bytes output x utf8
kept_by AsGiven o mode bytes output x utf8 = output_kept o mode bytes output x utf8
