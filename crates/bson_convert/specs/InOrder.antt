-- Converting bytes with keys in input order, and in either order.
use Rattle.std.specs.Prelude.{◌≡◌, ◌≤◌, ℕ, List, ◌++◌, IsUtf8}
use Rattle.serde_json.specs.Data.{Data, depth}
use Rattle.serde_json.specs.Read.{max_depth}
use Rattle.bson_scalar.specs.TreeText.{tree_text}
use Rattle.bson_scalar.specs.declared.form.Doubles.{Doubles}
use Rattle.bson_scalar.specs.declared.form.Form.{Form}
use Rattle.bson_scalar.specs.Forms.{form_in}
use Rattle.bson_scalar.specs.declared.form.Form.TheVariants as form
use Rattle.bson_model.specs.Displayed.{display_text}
use Rattle.bson_model.specs.Value.{Value}
use Rattle.bson_model.specs.OrderedTexts.{HasMeaningInOrder}
use Rattle.bson_model.specs.ValueTexts.{IsTextInOrder}
use Rattle.bson_model.specs.declared.options.KeyOrder.{KeyOrder}
use Rattle.bson_model.specs.declared.options.KeyOrder.TheVariants.{Ascending, AsGiven}
use Rattle.bson_model.specs.declared.options.Options.{Options}
use Rattle.bson_convert.specs.Convert.{ConvertsIn, IsFixedPointIn, newline}
use Rattle.bson_convert.specs.declared.mode.Mode.{Mode}
use Rattle.bson_convert.specs.declared.mode.Mode.TheVariants.{Canonical, Relaxed, Show}

-- the line of the value's text in its own order in a form
pub record IsLineInOrder (doubles : Doubles) (output_form : Form) (value : Value) (output : List ℕ) : Type 0 where
  pub text : List ℕ
  pub is_text : IsTextInOrder doubles output_form value text
  pub line : output ≡ text ++ newline

-- that line, or the text that shows the value and a newline
abbrev pub IsOutputInOrder : Options → Mode → Value → (output : List ℕ) → Type 0
IsOutputInOrder options Canonical value output =
    IsLineInOrder options.doubles (form_in options.layout form.Canonical) value output
IsOutputInOrder options Relaxed value output =
    IsLineInOrder options.doubles (form_in options.layout form.Relaxed) value output
IsOutputInOrder options Show value output = output ≡ display_text value ++ newline

-- the bytes are a text that means the value in the order of its keys, and this is the value's output
pub record ConvertsInOrder (options : Options) (mode : Mode) (bytes output : List ℕ) : Type 0 where
  pub value : Value
  pub utf8 : IsUtf8 bytes
  pub meaning : HasMeaningInOrder options.doubles bytes value
  pub is_output : IsOutputInOrder options mode value output

-- a line of a tree in a form; unless the tree nests deeper than a text may, the line is converted to itself
pub record ConvertsToItselfInOrder (options : Options) (output_form : Form) (mode : Mode)
    (output : List ℕ) : Type 0 where
  pub tree : Data
  pub text : output ≡ tree_text options.doubles output_form tree ++ newline
  pub again : depth tree ≤ max_depth → ConvertsInOrder options mode output output

-- an output in a form is that
abbrev pub IsFixedPointInOrder : Options → Mode → (output : List ℕ) → Type 0
IsFixedPointInOrder options Canonical output =
    ConvertsToItselfInOrder options (form_in options.layout form.Canonical) Canonical output
IsFixedPointInOrder options Relaxed output =
    ConvertsToItselfInOrder options (form_in options.layout form.Relaxed) Relaxed output
IsFixedPointInOrder options Show output = Unit {0}

-- ---- in either order

-- the input is converted to the output, its keys in the order
abbrev pub ConvertsBy : KeyOrder → Options → Mode → (input output : List ℕ) → Type 0
ConvertsBy Ascending options mode input output = ConvertsIn options mode input output
ConvertsBy AsGiven options mode input output = ConvertsInOrder options mode input output

-- an output in a form is converted to itself
abbrev pub IsFixedPointBy : KeyOrder → Options → Mode → (output : List ℕ) → Type 0
IsFixedPointBy Ascending options mode output = IsFixedPointIn options mode output
IsFixedPointBy AsGiven options mode output = IsFixedPointInOrder options mode output
