-- The compact text of a value, in either order of keys.
use Rattle.std.specs.Prelude.{◌≡◌, ℕ, List, true}
use Rattle.serde_json.specs.Data.{Data}
use Rattle.bson_scalar.specs.TreeText.{tree_text}
use Rattle.bson_scalar.specs.declared.form.Doubles.{Doubles}
use Rattle.bson_scalar.specs.declared.form.Doubles.TheVariants.{Special}
use Rattle.bson_scalar.specs.declared.form.Form.{Form}
use Rattle.bson_model.specs.Texts.{ReadsAgainIn}
use Rattle.bson_model.specs.Value.{Value}
use Rattle.bson_model.specs.Normal.{normal_form, plain}
use Rattle.bson_model.specs.Laws.{IsTreeOfIn}
use Rattle.bson_model.specs.OrderedTrees.{tree_sorted_by_key}
use Rattle.bson_model.specs.OrderedTexts.{IsOrderedTextOf}
use Rattle.bson_model.specs.OrderedWritten.{WrittenInOrder}
use Rattle.bson_model.specs.declared.options.KeyOrder.{KeyOrder}
use Rattle.bson_model.specs.declared.options.KeyOrder.TheVariants.{Ascending, AsGiven}

-- the compact text of the value's tree in the form
pub record IsTextWithDoubles (doubles : Doubles) (form : Form) (bson_value : Value) (text : List ℕ) : Type 0 where
  pub tree : Data
  pub is_tree : IsTreeOfIn doubles form bson_value tree
  pub reads_again : ReadsAgainIn doubles form bson_value tree
  pub compact : text ≡ tree_text doubles form tree

abbrev pub IsTextIn : Form → Value → (text : List ℕ) → Type 0
IsTextIn = IsTextWithDoubles Special

-- the compact text of the value's tree in its own order in the form
pub record IsTextInOrder (doubles : Doubles) (form : Form) (bson_value : Value) (text : List ℕ) : Type 0 where
  pub tree : Data
  -- the grammar's tree of the normal form, its keys in the value's order, and its only one
  pub written : WrittenInOrder doubles form (normal_form bson_value) tree
  pub only_tree : (other_tree : Data) → WrittenInOrder doubles form (normal_form bson_value) other_tree
      → other_tree ≡ tree
  -- of a plain value it is read again, order included, and no other value has its text
  pub ordered : plain bson_value ≡ true → IsOrderedTextOf doubles form bson_value tree
  -- with the order forgotten it is the tree that is written by default
  pub by_default : IsTreeOfIn doubles form bson_value (tree_sorted_by_key tree)
  pub compact : text ≡ tree_text doubles form tree

-- the compact text of the value in the form, its keys in the order
abbrev pub IsTextInKeyOrder : KeyOrder → Doubles → Form → Value → (text : List ℕ) → Type 0
IsTextInKeyOrder Ascending doubles form bson_value text = IsTextWithDoubles doubles form bson_value text
IsTextInKeyOrder AsGiven doubles form bson_value text = IsTextInOrder doubles form bson_value text
