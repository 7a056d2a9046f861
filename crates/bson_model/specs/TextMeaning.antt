-- What bytes mean as a text, in either order of keys.
use Rattle.std.specs.Prelude.{◌≡◌, ℕ, List, Some, None, IsUtf8}
use Rattle.serde_json.specs.Data.{Data}
use Rattle.serde_json.specs.Read.{read}
use Rattle.bson_scalar.specs.declared.form.Doubles.{Doubles}
use Rattle.bson_scalar.specs.declared.form.Doubles.TheVariants.{Special}
use Rattle.bson_model.specs.Value.{Value}
use Rattle.bson_model.specs.Laws.{HasMeaningIn}
use Rattle.bson_model.specs.Means.{MeansIn}
use Rattle.bson_model.specs.Texts.{ValueRoundTripsIn}
use Rattle.bson_model.specs.OrderedTrees.{read_in_order}
use Rattle.bson_model.specs.OrderedMeans.{MeansInOrder}
use Rattle.bson_model.specs.OrderedTexts.{HasMeaningInOrder, ValueRoundTripsInOrder}
use Rattle.bson_model.specs.declared.options.KeyOrder.{KeyOrder}
use Rattle.bson_model.specs.declared.options.KeyOrder.TheVariants.{Ascending, AsGiven}

-- the bytes as a whole are a JSON text of the tree
pub record IsTextOf (bytes : List ℕ) (tree : Data) : Type 0 where
  pub utf8 : IsUtf8 bytes
  pub tree_read : read bytes ≡ Some tree

-- the bytes are no UTF-8, or no JSON text
abbrev pub IsNotJsonText : (bytes : List ℕ) → Type 0
IsNotJsonText bytes = IsUtf8 bytes → read bytes ≡ None

-- the bytes are the text of a tree that means the value
pub record HasTextMeaningIn (doubles : Doubles) (bytes : List ℕ) (bson_value : Value) : Type 0 where
  pub tree : Data
  pub text : IsTextOf bytes tree
  pub meaning : HasMeaningIn doubles tree bson_value

abbrev pub HasTextMeaning : (bytes : List ℕ) → Value → Type 0
HasTextMeaning = HasTextMeaningIn Special

-- ---- in either order of keys

-- the bytes are a text that means the value, whose keys are in the order
abbrev pub HasTextMeaningInKeyOrder : KeyOrder → Doubles → (bytes : List ℕ) → Value → Type 0
HasTextMeaningInKeyOrder Ascending doubles bytes bson_value = HasTextMeaningIn doubles bytes bson_value
HasTextMeaningInKeyOrder AsGiven doubles bytes bson_value = IsUtf8 bytes × HasMeaningInOrder doubles bytes bson_value

-- the bytes are the text of a tree that means the value in the order
abbrev pub TextMeansInKeyOrder : KeyOrder → Doubles → (bytes : List ℕ) → Value → Type 0
TextMeansInKeyOrder Ascending doubles bytes bson_value = (json_tree : Data) × IsTextOf bytes json_tree
    × MeansIn doubles json_tree bson_value
TextMeansInKeyOrder AsGiven doubles bytes bson_value = (json_tree : Data) × IsUtf8 bytes
    × (read_in_order bytes ≡ Some json_tree) × MeansInOrder doubles json_tree bson_value

-- the text of the value in the order and in either form is read as the same value again
abbrev pub RoundTripsInKeyOrder : KeyOrder → Doubles → Value → Type 0
RoundTripsInKeyOrder Ascending doubles bson_value = ValueRoundTripsIn doubles bson_value
RoundTripsInKeyOrder AsGiven doubles bson_value = ValueRoundTripsInOrder doubles bson_value
