-- What a value is written as in either order of keys, as functions for private clauses: `writes_value_in` where keys ascend,
-- and `writes_value_in_order` of `bson_model` where they are as given.
use Rattle.std.specs.Prelude.{ℕ, List, Result, Ok}
use Rattle.serde_json.specs.Data.{Data, Items, no_items, item, Members, no_members, member, put}
use Rattle.serde_json.specs.Data as tree
use Rattle.bson_store.specs.AscendingOrder.{sorted_by_key}
use Rattle.bson_scalar.specs.OrderedScalars.{writes_scalar_in_order}
use Rattle.bson_scalar.specs.Scalar.{Scalar}
use Rattle.bson_scalar.specs.Written.{writes_scalar_in, WriteFault, ◌>>=◌}
use Rattle.bson_scalar.specs.declared.form.Doubles.{Doubles}
use Rattle.bson_scalar.specs.declared.form.Form.{Form}
use Rattle.bson_model.specs.Value.{Value, scalar, code_scope, array, document, Values, no_values, value, Pairs}
use Rattle.bson_model.specs.Value.{no_pairs, pair}
use Rattle.bson_model.specs.Writing.{with_scope}
use Rattle.bson_model.specs.declared.options.KeyOrder.{KeyOrder}
use Rattle.bson_model.specs.declared.options.KeyOrder.TheVariants.{Ascending, AsGiven}

-- the pairs in the order
abbrev pub pairs_of_order : {X : Type 0} → (key_order : KeyOrder) → (pair_list : List (List ℕ × X)) → List (List ℕ × X)
pairs_of_order Ascending pair_list = sorted_by_key pair_list
pairs_of_order AsGiven pair_list = pair_list

-- where a member goes among those of the pairs after it
abbrev pub insert_member_in_order : (key_order : KeyOrder) → (key_bytes : List ℕ) → (value_tree : Data)
    → (member_list : Members) → Members
insert_member_in_order Ascending key_bytes value_tree member_list = put key_bytes value_tree member_list
insert_member_in_order AsGiven key_bytes value_tree member_list = member key_bytes value_tree member_list

-- the tree of a scalar: the keys of its wrapper ascend, or have the order of the form
abbrev pub writes_scalar_in_key_order : KeyOrder → Doubles → Form → Scalar → Result Data WriteFault
writes_scalar_in_key_order Ascending doubles form scalar_value = writes_scalar_in doubles form scalar_value
writes_scalar_in_key_order AsGiven doubles form scalar_value = writes_scalar_in_order doubles form scalar_value

abbrev mutual
  pub writes_in_key_order : KeyOrder → Doubles → Form → Value → Result Data WriteFault
  writes_in_key_order key_order doubles form (scalar scalar_value) =
      writes_scalar_in_key_order key_order doubles form scalar_value
  writes_in_key_order key_order doubles form (code_scope code_bytes pair_list) =
      writes_pairs_in_key_order key_order doubles form pair_list
      >>= λ member_list. Ok (with_scope code_bytes member_list)
  writes_in_key_order key_order doubles form (array items) =
      writes_items_in_key_order key_order doubles form items >>= λ item_trees. Ok (tree.array item_trees)
  writes_in_key_order key_order doubles form (document pair_list) =
      writes_pairs_in_key_order key_order doubles form pair_list >>= λ member_list. Ok (tree.object member_list)

  pub writes_items_in_key_order : KeyOrder → Doubles → Form → Values → Result Items WriteFault
  writes_items_in_key_order key_order doubles form no_values = Ok no_items
  writes_items_in_key_order key_order doubles form (value bson_value items) =
      writes_in_key_order key_order doubles form bson_value
      >>= λ value_tree. writes_items_in_key_order key_order doubles form items
      >>= λ item_trees. Ok (item value_tree item_trees)

  pub writes_pairs_in_key_order : KeyOrder → Doubles → Form → Pairs → Result Members WriteFault
  writes_pairs_in_key_order key_order doubles form no_pairs = Ok no_members
  writes_pairs_in_key_order key_order doubles form (pair key_bytes bson_value pair_list) =
      writes_in_key_order key_order doubles form bson_value
      >>= λ value_tree. writes_pairs_in_key_order key_order doubles form pair_list
      >>= λ member_list. Ok (insert_member_in_order key_order key_bytes value_tree member_list)

-- each value of the pairs is so
abbrev pub EachValueSatisfies : (Property : Value → Type 0) → (pair_list : Pairs) → Type 0
EachValueSatisfies Property no_pairs = Unit {0}
EachValueSatisfies Property (pair key_bytes bson_value pair_list) = Property bson_value
    × EachValueSatisfies Property pair_list
