-- Converting bytes: the output for the one value that they denote as a text, or why they denote none.
use Rattle.std.specs.Prelude.{◌≡◌, ◌≤◌, ℕ, List, [], ◌∷◌, ◌++◌, Some}
use Rattle.serde_json.specs.Data.{Data, depth}
use Rattle.serde_json.specs.Read.{read, max_depth}
use Rattle.bson_model.specs.NamedOptions.{default_options}
use Rattle.bson_model.specs.declared.options.Options.{Options}
use Rattle.bson_scalar.specs.TreeText.{tree_text}
use Rattle.bson_scalar.specs.declared.form.Form.{Form}
use Rattle.bson_scalar.specs.Forms.{form_in}
use Rattle.bson_scalar.specs.declared.form.Form.TheVariants as form
use Rattle.bson_model.specs.Means.{MeansIn}
use Rattle.bson_model.specs.Displayed.{display_text}
use Rattle.bson_model.specs.Value.{Value}
use Rattle.bson_model.specs.Normal.{normal_form}
use Rattle.bson_model.specs.Written.{WrittenIn}
use Rattle.bson_model.specs.Laws.{HasMeaningIn, IsTreeOfIn}
use Rattle.bson_tree.specs.Place.{IsFirstFaultIn}
use Rattle.bson_model.specs.TextMeaning.{IsTextOf, IsNotJsonText, HasTextMeaningInKeyOrder}
use Rattle.bson_model.specs.ValueTexts.{IsTextInKeyOrder}
use Rattle.bson_model.specs.declared.options.KeyOrder.{KeyOrder}
use Rattle.bson_convert.specs.declared.mode.Mode.{Mode}
use Rattle.bson_convert.specs.declared.mode.Mode.TheVariants.{Canonical, Relaxed, Show}
use Rattle.bson_convert.specs.declared.error.Error.{Error}
use Rattle.bson_convert.specs.Difference.{IsFirstDifferenceAt}
use Rattle.bson_convert.specs.declared.error.Error.TheVariants.{NotJson, NotExtendedJson, NotCanonical, OutOfMemory}

-- ---- the output

abbrev pub newline : List ℕ
newline = 10 ∷ []

-- the compact text of the tree and a newline; where the tree nests no deeper than a text may, its text reads as the
-- tree
pub record IsLineOf (options : Options) (output_form : Form) (tree : Data) (output : List ℕ) : Type 0 where
  pub text : output ≡ tree_text options.doubles output_form tree ++ newline
  pub read_again : depth tree ≤ max_depth → read (tree_text options.doubles output_form tree) ≡ Some tree

-- the line of the value's one tree in a form; what that tree means has the same tree
pub record IsWrittenIn (options : Options) (output_form : Form) (value : Value) (output : List ℕ) : Type 0 where
  pub tree : Data
  pub is_tree : IsTreeOfIn options.doubles output_form value tree
  pub line : IsLineOf options output_form tree output
  pub again : (other_value : Value) → MeansIn options.doubles tree other_value
      → WrittenIn options.doubles output_form (normal_form other_value) tree

-- that line, or the text that shows the value and a newline
abbrev pub IsOutputIn : Options → Mode → Value → (output : List ℕ) → Type 0
IsOutputIn options Canonical value output = IsWrittenIn options (form_in options.layout form.Canonical) value output
IsOutputIn options Relaxed value output = IsWrittenIn options (form_in options.layout form.Relaxed) value output
IsOutputIn options Show value output = output ≡ display_text value ++ newline

-- ---- converting

-- the bytes are the text of a tree, which means the value, whose output this is
pub record ConvertsIn (options : Options) (mode : Mode) (bytes output : List ℕ) : Type 0 where
  pub tree : Data
  pub value : Value
  pub text : IsTextOf bytes tree
  pub meaning : HasMeaningIn options.doubles tree value
  pub is_output : IsOutputIn options mode value output

-- a line of a tree in a form; where the tree nests no deeper than a text may the line is converted to itself, and else
-- it is no text
pub record ConvertsToItself (options : Options) (output_form : Form) (mode : Mode) (output : List ℕ) : Type 0 where
  pub tree : Data
  pub text : output ≡ tree_text options.doubles output_form tree ++ newline
  pub again : depth tree ≤ max_depth → ConvertsIn options mode output output
  pub shallow_if_text : (other_tree : Data) → IsTextOf output other_tree → depth tree ≤ max_depth

-- an output in a form is that
abbrev pub IsFixedPointIn : Options → Mode → (output : List ℕ) → Type 0
IsFixedPointIn options Canonical output =
    ConvertsToItself options (form_in options.layout form.Canonical) Canonical output
IsFixedPointIn options Relaxed output =
    ConvertsToItself options (form_in options.layout form.Relaxed) Relaxed output
IsFixedPointIn options Show output = Unit {0}

-- what each fault says of the bytes
abbrev pub IsRejectedIn : Options → Error → (bytes : List ℕ) → Type 0
IsRejectedIn options NotJson bytes = IsNotJsonText bytes
IsRejectedIn options (NotExtendedJson place) bytes = (tree : Data) × IsTextOf bytes tree
    × IsFirstFaultIn options.doubles tree place
IsRejectedIn options OutOfMemory bytes = Unit {0}
IsRejectedIn options other_error bytes = ⊥

-- the bytes are the text of a tree that means something
abbrev pub IsAccepted : Options → (bytes : List ℕ) → Type 0
IsAccepted options bytes = (tree : Data) × (value : Value) × IsTextOf bytes tree × MeansIn options.doubles tree value

abbrev pub IsWritten : Form → Value → (output : List ℕ) → Type 0
IsWritten = IsWrittenIn default_options

abbrev pub IsOutput : Mode → Value → (output : List ℕ) → Type 0
IsOutput = IsOutputIn default_options

abbrev pub Converts : Mode → (bytes output : List ℕ) → Type 0
Converts = ConvertsIn default_options

abbrev pub IsFixedPoint : Mode → (output : List ℕ) → Type 0
IsFixedPoint = IsFixedPointIn default_options

abbrev pub IsRejected : Error → (bytes : List ℕ) → Type 0
IsRejected = IsRejectedIn default_options

-- the bytes are the canonical text of the value that they mean, with keys in ascending order: they are converted to
-- themselves and a newline
abbrev pub IsCanonicalText : Options → (bytes : List ℕ) → Type 0
IsCanonicalText options bytes = ConvertsIn options Canonical bytes (bytes ++ newline)

-- the bytes mean a value, whose canonical text is another: they differ from it in the byte of this column, and in none
-- before it
pub record IsUncanonicalAt (options : Options) (column : ℕ) (bytes : List ℕ) : Type 0 where
  pub text : List ℕ
  pub converts : ConvertsIn options Canonical bytes (text ++ newline)
  pub differ : IsFirstDifferenceAt column bytes text

-- what each fault says of bytes that are not canonical
abbrev pub IsUncanonicalIn : Options → Error → (bytes : List ℕ) → Type 0
IsUncanonicalIn options (NotCanonical column) bytes = IsUncanonicalAt options column bytes
IsUncanonicalIn options fault bytes = IsRejectedIn options fault bytes

-- ---- the text

-- a text of the value in the mode's form and layout, or the one that shows it, with keys in the order
abbrev pub IsTextForMode : KeyOrder → Options → Mode → Value → (text : List ℕ) → Type 0
IsTextForMode key_order options Canonical value text =
    IsTextInKeyOrder key_order options.doubles (form_in options.layout form.Canonical) value text
IsTextForMode key_order options Relaxed value text =
    IsTextInKeyOrder key_order options.doubles (form_in options.layout form.Relaxed) value text
IsTextForMode key_order options Show value text = text ≡ display_text value

-- a text for the mode, of the value that the bytes mean with keys in the order
abbrev pub IsConvertedText : KeyOrder → Options → Mode → (bytes text : List ℕ) → Type 0
IsConvertedText key_order options mode bytes text = (value : Value)
    × HasTextMeaningInKeyOrder key_order options.doubles bytes value × IsTextForMode key_order options mode value text
