-- Texts in order: what one means, and what that of a value is.
use Rattle.std.specs.Prelude.{◌≡◌, ◌≤◌, ◌↔◌, ℕ, List, true, Some}
use Rattle.serde_json.specs.Data.{Data, depth}
use Rattle.serde_json.specs.Read.{read, max_depth}
use Rattle.bson_scalar.specs.TreeText.{HasNoFloatIn, tree_text}
use Rattle.bson_scalar.specs.declared.form.Doubles.{Doubles}
use Rattle.bson_scalar.specs.declared.form.Form.{Form}
use Rattle.bson_model.specs.Laws.{HasMeaningIn, IsReadFormIn}
use Rattle.bson_model.specs.Normal.{NumbersInRange, normal_form, as_read_back, plain}
use Rattle.bson_model.specs.Sorted.{sorted}
use Rattle.bson_model.specs.Value.{Value}
use Rattle.bson_model.specs.Written.{WrittenIn}
use Rattle.bson_model.specs.DistinctKeys.{AllKeysDistinct}
use Rattle.bson_model.specs.OrderedTrees.{read_in_order, tree_sorted_by_key, IsTreeInOrder}
use Rattle.bson_model.specs.OrderedMeans.{MeansInOrder}
use Rattle.bson_model.specs.OrderedWritten.{WrittenInOrder}

-- ---- texts of trees

-- the compact text of the tree is read as it again, in its order, and by `serde_json` as the tree with its order
-- forgotten, unless it nests deeper than texts may; and no other tree, whatever its order, has the text
pub record TextReadsBackInOrder (doubles : Doubles) (form : Form) (json_tree : Data) : Type 0 where
  pub in_order : depth json_tree ≤ max_depth → read_in_order (tree_text doubles form json_tree) ≡ Some json_tree
  pub sorted : depth json_tree ≤ max_depth
      → read (tree_text doubles form json_tree) ≡ Some (tree_sorted_by_key json_tree)
  pub one : (other_tree : Data) → HasNoFloatIn doubles form other_tree → IsTreeInOrder other_tree
      → tree_text doubles form json_tree ≡ tree_text doubles form other_tree → json_tree ≡ other_tree

-- ---- reading

-- the text, read as by default, is a tree that means the value
abbrev pub MeansByDefault : Doubles → List ℕ → Value → Type 0
MeansByDefault doubles text bson_value = (json_tree : Data) × (read text ≡ Some json_tree)
    × HasMeaningIn doubles json_tree bson_value

-- the text, in its order, means the value, and no other
pub record HasMeaningInOrder (doubles : Doubles) (text : List ℕ) (bson_value : Value) : Type 0 where
  pub tree : Data
  pub tree_read : read_in_order text ≡ Some tree
  pub means : MeansInOrder doubles tree bson_value
  pub one : (other_value : Value) → MeansInOrder doubles tree other_value → other_value ≡ bson_value
  -- which is plain and writable, with its numbers in range, and each key of a document once
  pub read_form : IsReadFormIn doubles bson_value
  pub within_type_range : NumbersInRange bson_value
  pub distinct : AllKeysDistinct bson_value
  -- with the order forgotten it is what the text means by default
  pub by_default : MeansByDefault doubles text (sorted bson_value)

-- ---- writing

-- a value and its tree, another value and its tree
abbrev pub HasEqualTextsInOrder : Doubles → Form → (bson_value : Value) → (json_tree : Data) → (other_value : Value)
    → (other_tree : Data) → Type 0
HasEqualTextsInOrder doubles form bson_value json_tree other_value other_tree = plain other_value ≡ true
    → NumbersInRange other_value → AllKeysDistinct other_value
    → WrittenInOrder doubles form (normal_form other_value) other_tree
    → ((tree_text doubles form json_tree ≡ tree_text doubles form other_tree)
    ↔ (as_read_back form (normal_form bson_value) ≡ as_read_back form (normal_form other_value)))

-- what the tree of a plain value in this form, in the value's order, and its compact text, are
pub record IsOrderedTextOf (doubles : Doubles) (form : Form) (bson_value : Value) (json_tree : Data) : Type 0 where
  pub written : WrittenInOrder doubles form (normal_form bson_value) json_tree
  pub one : (other_tree : Data) → WrittenInOrder doubles form (normal_form bson_value) other_tree
      → other_tree ≡ json_tree
  -- it means the very value in normal form, the order of its pairs included
  pub means : MeansInOrder doubles json_tree (as_read_back form (normal_form bson_value))
  -- and is read from the text again
  pub own_text : TextReadsBackInOrder doubles form json_tree
  -- with the order forgotten it is the tree that is written by default
  pub by_default : WrittenIn doubles form (normal_form bson_value) (tree_sorted_by_key json_tree)
  -- another value has the same text if and only if the normal forms are equal, the order of their pairs included
  pub equal_texts : (other_value : Value) (other_tree : Data)
      → HasEqualTextsInOrder doubles form bson_value json_tree other_value other_tree

-- the value has a tree in each form that reads back
abbrev pub ValueRoundTripsInOrder : Doubles → Value → Type 0
ValueRoundTripsInOrder doubles bson_value = (form : Form) → (json_tree : Data)
    × IsOrderedTextOf doubles form bson_value json_tree
