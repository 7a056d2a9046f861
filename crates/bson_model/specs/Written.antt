-- The grammars of the two forms: the tree of a value in each.
use Rattle.std.specs.Prelude.{◌≡◌, codes}
use Rattle.serde_json.specs.Data.{Data, Items, no_items, item, Members, no_members, member, put}
use Rattle.serde_json.specs.Data as tree
use Rattle.bson_scalar.specs.Written.{WrittenScalarIn}
use Rattle.bson_scalar.specs.declared.form.Form.{Form}
use Rattle.bson_model.specs.Value.{Value, scalar, code_scope, array, document, Values, no_values, value, Pairs}
use Rattle.bson_model.specs.Value.{no_pairs, pair}
use Rattle.bson_scalar.specs.declared.form.Doubles.{Doubles}
use Rattle.bson_scalar.specs.declared.form.Doubles.TheVariants.{Special}

abbrev mutual
  -- the value, in normal form, has this tree
  pub WrittenIn : Doubles → Form → Value → Data → Type 0
  WrittenIn doubles form (scalar scalar_value) json_tree = WrittenScalarIn doubles form scalar_value json_tree
  WrittenIn doubles form (code_scope code_text pair_list) json_tree = (member_list : Members)
      × WrittenDocumentIn doubles form pair_list member_list
      × (json_tree ≡ tree.object
      (member (codes "$code") (tree.string code_text) (member (codes "$scope") (tree.object member_list) no_members)))
  WrittenIn doubles form (array value_list) json_tree = (item_list : Items)
      × WrittenItemsIn doubles form value_list item_list × (json_tree ≡ tree.array item_list)
  WrittenIn doubles form (document pair_list) json_tree = (member_list : Members)
      × WrittenDocumentIn doubles form pair_list member_list × (json_tree ≡ tree.object member_list)

  pub WrittenItemsIn : Doubles → Form → Values → Items → Type 0
  WrittenItemsIn doubles form no_values item_list = item_list ≡ no_items
  WrittenItemsIn doubles form (value bson_value value_list) item_list = (subtree : Data) × (later_items : Items)
      × WrittenIn doubles form bson_value subtree × WrittenItemsIn doubles form value_list later_items
      × (item_list ≡ item subtree later_items)

  -- the map from the keys to the trees of their values
  pub WrittenDocumentIn : Doubles → Form → Pairs → Members → Type 0
  WrittenDocumentIn doubles form no_pairs member_list = member_list ≡ no_members
  WrittenDocumentIn doubles form (pair key_text bson_value pair_list) member_list =
      (subtree : Data) × (later_members : Members) × WrittenIn doubles form bson_value subtree
      × WrittenDocumentIn doubles form pair_list later_members × (member_list ≡ put key_text subtree later_members)

abbrev pub Written : Form → Value → Data → Type 0
Written = WrittenIn Special

abbrev pub WrittenItems : Form → Values → Items → Type 0
WrittenItems = WrittenItemsIn Special

abbrev pub WrittenDocument : Form → Pairs → Members → Type 0
WrittenDocument = WrittenDocumentIn Special
