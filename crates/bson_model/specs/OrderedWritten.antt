-- The grammars of the two forms in the own order of the value, in each mode of `Doubles`: the tree of a value in each.
use Rattle.std.specs.Prelude.{◌≡◌, codes}
use Rattle.serde_json.specs.Data.{Data, Items, no_items, item, Members, no_members, member}
use Rattle.serde_json.specs.Data as tree
use Rattle.bson_scalar.specs.OrderedScalars.{WrittenScalarInOrder}
use Rattle.bson_scalar.specs.TreeParts.{two_key_object}
use Rattle.bson_scalar.specs.declared.form.Doubles.{Doubles}
use Rattle.bson_scalar.specs.declared.form.Form.{Form}
use Rattle.bson_model.specs.Value.{Value, scalar, code_scope, array, document, Values, no_values, value, Pairs}
use Rattle.bson_model.specs.Value.{no_pairs, pair}

abbrev mutual
  -- the value, in normal form, has this tree; inside a wrapper the order is the one of the form
  pub WrittenInOrder : Doubles → Form → Value → Data → Type 0
  WrittenInOrder doubles form (scalar scalar_value) json_tree = WrittenScalarInOrder doubles form scalar_value json_tree
  WrittenInOrder doubles form (code_scope code_text pair_list) json_tree = (member_list : Members)
      × WrittenDocumentInOrder doubles form pair_list member_list
      × (json_tree ≡ two_key_object (codes "$code") (tree.string code_text) (codes "$scope") (tree.object member_list))
  WrittenInOrder doubles form (array value_list) json_tree = (item_list : Items)
      × WrittenItemsInOrder doubles form value_list item_list × (json_tree ≡ tree.array item_list)
  WrittenInOrder doubles form (document pair_list) json_tree = (member_list : Members)
      × WrittenDocumentInOrder doubles form pair_list member_list × (json_tree ≡ tree.object member_list)

  pub WrittenItemsInOrder : Doubles → Form → Values → Items → Type 0
  WrittenItemsInOrder doubles form no_values item_list = item_list ≡ no_items
  WrittenItemsInOrder doubles form (value bson_value value_list) item_list =
      (subtree : Data) × (later_items : Items) × WrittenInOrder doubles form bson_value subtree
      × WrittenItemsInOrder doubles form value_list later_items × (item_list ≡ item subtree later_items)

  -- the keys in the order of the document, each with the tree of its value
  pub WrittenDocumentInOrder : Doubles → Form → Pairs → Members → Type 0
  WrittenDocumentInOrder doubles form no_pairs member_list = member_list ≡ no_members
  WrittenDocumentInOrder doubles form (pair key_text bson_value pair_list) member_list =
      (subtree : Data) × (later_members : Members) × WrittenInOrder doubles form bson_value subtree × WrittenDocumentInOrder doubles form pair_list later_members × (member_list ≡ member key_text subtree later_members)
