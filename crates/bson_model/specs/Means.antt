-- The full grammar: which trees mean which values (MongoDB Extended JSON v2). A production a line; those of the values
-- that hold no other are `MeansScalar`.
use Rattle.std.specs.Prelude.{◌≡◌, ℕ, List, codes, false}
use Rattle.serde_json.specs.Data.{Data, Items, no_items, item, Members, no_members, member}
use Rattle.serde_json.specs.Data as tree
use Rattle.bson_scalar.specs.Means.{MeansScalarIn}
use Rattle.bson_scalar.specs.Scalar.{Scalar}
use Rattle.bson_scalar.specs.TreeParts.{two_key_object}
use Rattle.bson_scalar.specs.Table.{has_wrapper}
use Rattle.bson_model.specs.Value.{Value, code_scope, Values, no_values, value, Pairs, no_pairs, pair}
use Rattle.bson_model.specs.Value as model
use Rattle.bson_scalar.specs.declared.form.Doubles.{Doubles}
use Rattle.bson_scalar.specs.declared.form.Doubles.TheVariants.{Special}

mutual
  -- the tree means the value
  pub data MeansIn (doubles : Doubles) : Data → Value → Type 0 where
    scalar : (subtree : Data) (scalar_value : Scalar) → MeansScalarIn doubles subtree scalar_value
        → MeansIn doubles subtree (model.scalar scalar_value)
    code_with_scope : (code_text : List ℕ) (member_list : Members) (pair_list : Pairs)
        → MeansDocumentIn doubles member_list pair_list
        → MeansIn doubles
        (two_key_object (codes "$code") (tree.string code_text) (codes "$scope") (tree.object member_list))
        (code_scope code_text pair_list)
    array : (item_list : Items) (value_list : Values) → MeansItemsIn doubles item_list value_list
        → MeansIn doubles (tree.array item_list) (model.array value_list)
    document : (member_list : Members) (pair_list : Pairs) → has_wrapper member_list ≡ false
        → MeansDocumentIn doubles member_list pair_list
        → MeansIn doubles (tree.object member_list) (model.document pair_list)

  pub data MeansItemsIn (doubles : Doubles) : Items → Values → Type 0 where
    nothing : MeansItemsIn doubles no_items no_values
    then : (subtree : Data) (bson_value : Value) (item_list : Items) (value_list : Values)
        → MeansIn doubles subtree bson_value → MeansItemsIn doubles item_list value_list
        → MeansItemsIn doubles (item subtree item_list) (value bson_value value_list)

  -- the keys of the map in its order, each with the meaning of its value; the keys are not tested
  pub data MeansDocumentIn (doubles : Doubles) : Members → Pairs → Type 0 where
    empty : MeansDocumentIn doubles no_members no_pairs
    entry : (key_text : List ℕ) (subtree : Data) (bson_value : Value) (member_list : Members) (pair_list : Pairs)
        → MeansIn doubles subtree bson_value → MeansDocumentIn doubles member_list pair_list
        → MeansDocumentIn doubles (member key_text subtree member_list) (pair key_text bson_value pair_list)

abbrev pub Means : Data → Value → Type 0
Means = MeansIn Special

abbrev pub MeansItems : Items → Values → Type 0
MeansItems = MeansItemsIn Special

abbrev pub MeansDocument : Members → Pairs → Type 0
MeansDocument = MeansDocumentIn Special
