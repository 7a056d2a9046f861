-- The full grammar of trees in the order of a text, in each mode of `Doubles`: which tree means which value, the order
-- of its pairs included (MongoDB Extended JSON v2), one production per line. It is `MeansIn` except for the order, and for
-- a scope that comes before its code.
use Rattle.std.specs.Prelude.{◌≡◌, ℕ, List, codes, false}
use Rattle.serde_json.specs.Data.{Data, Items, no_items, item, Members, no_members, member}
use Rattle.serde_json.specs.Data as tree
use Rattle.bson_scalar.specs.Means.{MeansScalarIn}
use Rattle.bson_scalar.specs.Scalar.{Scalar}
use Rattle.bson_scalar.specs.TreeParts.{two_key_object}
use Rattle.bson_scalar.specs.Table.{has_wrapper}
use Rattle.bson_scalar.specs.declared.form.Doubles.{Doubles}
use Rattle.bson_model.specs.Value.{Value, code_scope, Values, no_values, value, Pairs, no_pairs, pair}
use Rattle.bson_model.specs.Value as model
use Rattle.bson_model.specs.OrderedTrees.{tree_sorted_by_key}

mutual
  -- the tree means the value
  pub data MeansInOrder (doubles : Doubles) : Data → Value → Type 0 where
    -- the order inside a wrapper says nothing
    scalar : (subtree : Data) (scalar_value : Scalar)
        → MeansScalarIn doubles (tree_sorted_by_key subtree) scalar_value
        → MeansInOrder doubles subtree (model.scalar scalar_value)
    code_with_scope : (code_text : List ℕ) (member_list : Members) (pair_list : Pairs)
        → MeansDocumentInOrder doubles member_list pair_list
        → MeansInOrder doubles
        (two_key_object (codes "$code") (tree.string code_text) (codes "$scope") (tree.object member_list))
        (code_scope code_text pair_list)
    scope_with_code : (code_text : List ℕ) (member_list : Members) (pair_list : Pairs)
        → MeansDocumentInOrder doubles member_list pair_list
        → MeansInOrder doubles
        (two_key_object (codes "$scope") (tree.object member_list) (codes "$code") (tree.string code_text))
        (code_scope code_text pair_list)
    array : (item_list : Items) (value_list : Values) → MeansItemsInOrder doubles item_list value_list
        → MeansInOrder doubles (tree.array item_list) (model.array value_list)
    document : (member_list : Members) (pair_list : Pairs) → has_wrapper member_list ≡ false
        → MeansDocumentInOrder doubles member_list pair_list
        → MeansInOrder doubles (tree.object member_list) (model.document pair_list)

  pub data MeansItemsInOrder (doubles : Doubles) : Items → Values → Type 0 where
    nothing : MeansItemsInOrder doubles no_items no_values
    then : (subtree : Data) (bson_value : Value) (item_list : Items) (value_list : Values)
        → MeansInOrder doubles subtree bson_value → MeansItemsInOrder doubles item_list value_list
        → MeansItemsInOrder doubles (item subtree item_list) (value bson_value value_list)

  -- the keys of the object in its order, each with the meaning of its value; the keys are not tested
  pub data MeansDocumentInOrder (doubles : Doubles) : Members → Pairs → Type 0 where
    empty : MeansDocumentInOrder doubles no_members no_pairs
    entry : (key_text : List ℕ) (subtree : Data) (bson_value : Value) (member_list : Members) (pair_list : Pairs)
        → MeansInOrder doubles subtree bson_value
        → MeansDocumentInOrder doubles member_list pair_list
        → MeansDocumentInOrder doubles (member key_text subtree member_list) (pair key_text bson_value pair_list)
