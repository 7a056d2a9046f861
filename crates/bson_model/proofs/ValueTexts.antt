-- The compact text of a value's tree, in either order of keys.
use Rattle.std.proofs.Common.{◌≡◌, ◌∙◌, ℕ, List}
use Rattle.std.specs.Prelude.{IsUtf8}
use Rattle.serde_json.specs.Data.{Data}
use Rattle.bson_scalar.specs.TreeText.{tree_text}
use Rattle.bson_scalar.specs.declared.form.Doubles.{Doubles}
use Rattle.bson_scalar.specs.declared.form.Form.{Form}
use Rattle.bson_model.specs.DistinctKeys.{AllKeysDistinct}
use Rattle.bson_model.specs.Normal.{NumbersInRange, as_read_back, normal_form}
use Rattle.bson_model.specs.OrderedTexts.{HasMeaningInOrder}
use Rattle.bson_model.specs.OrderedTrees.{tree_sorted_by_key}
use Rattle.bson_model.specs.OrderedWritten.{WrittenInOrder}
use Rattle.bson_model.specs.Sorted.{sorted}
use Rattle.bson_model.specs.TextMeaning.{HasTextMeaningIn}
use Rattle.bson_model.specs.Value.{Value}
use Rattle.bson_model.specs.ValueTexts.{IsTextInOrder, IsTextWithDoubles}
use Rattle.bson_model.specs.Written.{WrittenIn}
use Rattle.bson_model.proofs.Modes.{grammar_tree}
use Rattle.bson_model.proofs.OrderedTexts.{as_read_written, ordered_text}
use Rattle.bson_model.proofs.OrderedWriteLaws.{default_written, one_written, written_from, written_to}
use Rattle.bson_model.proofs.ValueRoundTrips.{has_text}
use Rattle.bson_model.proofs.WriteLaws.{canon_to}

module _ (D : Doubles) (f : Form) (v : Value) (t : Data) (text : List ℕ) (compact : text ≡ tree_text D f t) where
  pub sorted_text : WrittenIn D f (normal_form v) t → NumbersInRange v → IsTextWithDoubles D f v text
  sorted_text h r = record {
    tree = t;
    is_tree = grammar_tree D f v t h r;
    reads_again = λ plain. has_text D f v t (canon_to D f v t h) plain r;
    compact = compact;
  }

  pub text_in_order : WrittenInOrder D f (normal_form v) t → NumbersInRange v → AllKeysDistinct v
      → IsTextInOrder D f v text
  text_in_order h r distinct = record {
    tree = t;
    written = h;
    only_tree = λ u other. one_written D f v t u h other;
    ordered = λ plain. ordered_text D f v t h plain r distinct;
    by_default = grammar_tree D f v (tree_sorted_by_key t) (default_written D f v t h r) r;
    compact = compact;
  }

-- what is read back has the tree of the value
pub written_again : (D : Doubles) (f : Form) (v : Value) (t : Data) → WrittenInOrder D f (normal_form v) t
    → WrittenInOrder D f (normal_form (as_read_back f (normal_form v))) t
written_again D f v t h =
    let w = as_read_back f (normal_form v) in
    written_from D f w t (as_read_written D f v ∙ written_to D f v t h)

-- a text that means a value in the order of its keys means it by default, sorted
pub meant_by_default : (D : Doubles) (text : List ℕ) (v : Value) → IsUtf8 text → HasMeaningInOrder D text v
    → HasTextMeaningIn D text (sorted v)
meant_by_default D text v utf8 meaning =
    let (s, whole, meant) = meaning.by_default in
    record { tree = s; text = record { utf8 = utf8; tree_read = whole }; meaning = meant }
