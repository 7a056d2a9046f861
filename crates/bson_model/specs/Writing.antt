-- What a value is written as, as a function: for the proofs. `Written` is the grammar.
use Rattle.std.specs.Prelude.{ℕ, List, codes, Result, Ok}
use Rattle.serde_json.specs.Data.{Data, Items, no_items, item, Members, no_members, member, put}
use Rattle.serde_json.specs.Data as tree
use Rattle.bson_scalar.specs.Written.{writes_scalar_in, WriteFault, ◌>>=◌}
use Rattle.bson_scalar.specs.declared.form.Form.{Form}
use Rattle.bson_model.specs.Value.{Value, scalar, code_scope, array, document, Values, no_values, value, Pairs}
use Rattle.bson_model.specs.Value.{no_pairs, pair}
use Rattle.bson_scalar.specs.declared.form.Doubles.{Doubles}
use Rattle.bson_scalar.specs.declared.form.Doubles.TheVariants.{Special}

abbrev pub with_scope : (code_text : List ℕ) → Members → Data
with_scope code_text member_list =
    tree.object (member (codes "$code") (tree.string code_text)
    (member (codes "$scope") (tree.object member_list) no_members))

abbrev mutual
  pub writes_value_in : Doubles → Form → Value → Result Data WriteFault
  writes_value_in doubles form (scalar scalar_value) = writes_scalar_in doubles form scalar_value
  writes_value_in doubles form (code_scope code_text pair_list) = writes_pairs_in doubles form pair_list >>= λ member_list. Ok (with_scope code_text member_list)
  writes_value_in doubles form (array value_list) =
      writes_items_in doubles form value_list >>= λ item_list. Ok (tree.array item_list)
  writes_value_in doubles form (document pair_list) =
      writes_pairs_in doubles form pair_list >>= λ member_list. Ok (tree.object member_list)

  pub writes_items_in : Doubles → Form → Values → Result Items WriteFault
  writes_items_in doubles form no_values = Ok no_items
  writes_items_in doubles form (value bson_value value_list) =
      writes_value_in doubles form bson_value >>= λ subtree. writes_items_in doubles form value_list
      >>= λ item_list. Ok (item subtree item_list)

  pub writes_pairs_in : Doubles → Form → Pairs → Result Members WriteFault
  writes_pairs_in doubles form no_pairs = Ok no_members
  writes_pairs_in doubles form (pair key_text bson_value pair_list) =
      writes_value_in doubles form bson_value >>= λ subtree. writes_pairs_in doubles form pair_list
      >>= λ member_list. Ok (put key_text subtree member_list)

abbrev pub writes_value : Form → Value → Result Data WriteFault
writes_value = writes_value_in Special

abbrev pub writes_items : Form → Values → Result Items WriteFault
writes_items = writes_items_in Special

abbrev pub writes_pairs : Form → Pairs → Result Members WriteFault
writes_pairs = writes_pairs_in Special
