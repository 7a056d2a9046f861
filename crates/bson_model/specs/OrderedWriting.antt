-- What a value is written as in its own order, as a function: for the proofs. `WrittenInOrder` is the grammar, and the
-- law `ordered_writing_is_written` joins the two.
use Rattle.std.specs.Prelude.{Result, Ok}
use Rattle.serde_json.specs.Data.{Data, Items, no_items, item, Members, no_members, member}
use Rattle.serde_json.specs.Data as tree
use Rattle.bson_scalar.specs.OrderedScalars.{writes_scalar_in_order}
use Rattle.bson_scalar.specs.Written.{WriteFault, ◌>>=◌}
use Rattle.bson_scalar.specs.declared.form.Doubles.{Doubles}
use Rattle.bson_scalar.specs.declared.form.Form.{Form}
use Rattle.bson_model.specs.Value.{Value, scalar, code_scope, array, document, Values, no_values, value, Pairs}
use Rattle.bson_model.specs.Value.{no_pairs, pair}
use Rattle.bson_model.specs.Writing.{with_scope}

abbrev mutual
  pub writes_value_in_order : Doubles → Form → Value → Result Data WriteFault
  writes_value_in_order doubles form (scalar scalar_value) = writes_scalar_in_order doubles form scalar_value
  writes_value_in_order doubles form (code_scope code_text pair_list) =
      writes_pairs_in_order doubles form pair_list >>= λ member_list. Ok (with_scope code_text member_list)
  writes_value_in_order doubles form (array value_list) =
      writes_items_in_order doubles form value_list >>= λ item_list. Ok (tree.array item_list)
  writes_value_in_order doubles form (document pair_list) =
      writes_pairs_in_order doubles form pair_list >>= λ member_list. Ok (tree.object member_list)

  pub writes_items_in_order : Doubles → Form → Values → Result Items WriteFault
  writes_items_in_order doubles form no_values = Ok no_items
  writes_items_in_order doubles form (value bson_value value_list) =
      writes_value_in_order doubles form bson_value >>= λ subtree. writes_items_in_order doubles form value_list
      >>= λ item_list. Ok (item subtree item_list)

  pub writes_pairs_in_order : Doubles → Form → Pairs → Result Members WriteFault
  writes_pairs_in_order doubles form no_pairs = Ok no_members
  writes_pairs_in_order doubles form (pair key_text bson_value pair_list) =
      writes_value_in_order doubles form bson_value >>= λ subtree. writes_pairs_in_order doubles form pair_list
      >>= λ member_list. Ok (member key_text subtree member_list)
