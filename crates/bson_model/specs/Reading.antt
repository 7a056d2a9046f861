-- What a tree is read as, as a function: for the order of faults, and for the proofs. `Means` is the grammar, and the
-- law `reading_is_meaning` joins the two.
use Rattle.std.specs.Prelude.{ℕ, List, codes, ◌&&◌, if◌then◌else◌, Option, Some, None, Result, Ok, Err}
use Rattle.std.specs.Str.{bytes_eq}
use Rattle.serde_json.specs.Data.{Data, Items, no_items, item, Members, no_members, member}
use Rattle.serde_json.specs.Data as tree
use Rattle.bson_scalar.specs.Faults.{Fault, wrong_shape, ◌>>=◌}
use Rattle.bson_scalar.specs.Reading.{number_read_in, optional_wrapper_read_in, on_text}
use Rattle.bson_scalar.specs.Scalar.{Scalar, null, boolean, text, code}
use Rattle.bson_scalar.specs.Table.{wrapper_of, has_wrapper}
use Rattle.bson_model.specs.Value.{Value, scalar, code_scope, array, document, Values, no_values, value, Pairs}
use Rattle.bson_model.specs.Value.{no_pairs, pair}
use Rattle.bson_scalar.specs.declared.form.Doubles.{Doubles}
use Rattle.bson_scalar.specs.declared.form.Doubles.TheVariants.{Special}

abbrev pub scalar_result_as_value : (scalar_result : Result Scalar Fault) → Result Value Fault
scalar_result_as_value scalar_result = scalar_result >>= λ read_scalar. Ok (scalar read_scalar)

abbrev pub code_value : (text_bytes : List ℕ) → (scope_or_none : Option Pairs) → Value
code_value text_bytes None = scalar (code text_bytes)
code_value text_bytes (Some pair_list) = code_scope text_bytes pair_list

-- code, with the scope that was read
abbrev pub scope_value : (text_bytes : List ℕ) → (scope_result : Result (Option Pairs) Fault) → Result Value Fault
scope_value text_bytes scope_result = scope_result >>= λ pair_list. Ok (code_value text_bytes pair_list)

-- the only wrapper of two keys
abbrev pub code_with_scope_read : (key_text : List ℕ) → (subtree : Data) → (other_key : List ℕ)
    → (scope_result : Result (Option Pairs) Fault)
    → Result Value Fault
code_with_scope_read key_text subtree other_key scope_result =
    if bytes_eq key_text (codes "$code") && bytes_eq other_key (codes "$scope")
    then on_text subtree (λ text_bytes. scope_value text_bytes scope_result) else Err wrong_shape

abbrev mutual
  pub reads_tree_in : Doubles → Data → Result Value Fault
  reads_tree_in doubles tree.null = Ok (scalar null)
  reads_tree_in doubles (tree.boolean truth_value) = Ok (scalar (boolean truth_value))
  reads_tree_in doubles (tree.number json_number) = scalar_result_as_value (number_read_in doubles json_number)
  reads_tree_in doubles (tree.string text_bytes) = Ok (scalar (text text_bytes))
  reads_tree_in doubles (tree.array item_list) =
      reads_items_in doubles item_list >>= λ value_list. Ok (array value_list)
  reads_tree_in doubles (tree.object member_list) =
      if has_wrapper member_list then reads_wrapper_in doubles member_list
      else (reads_members_in doubles member_list >>= λ pair_list. Ok (document pair_list))

  pub reads_items_in : Doubles → Items → Result Values Fault
  reads_items_in doubles no_items = Ok no_values
  reads_items_in doubles (item subtree item_list) =
      reads_tree_in doubles subtree >>= λ bson_value. reads_items_in doubles item_list
      >>= λ value_list. Ok (value bson_value value_list)

  -- the values of a map by ascending key, whose own keys are not tested
  pub reads_members_in : Doubles → Members → Result Pairs Fault
  reads_members_in doubles no_members = Ok no_pairs
  reads_members_in doubles (member key_text subtree member_list) =
      reads_tree_in doubles subtree >>= λ bson_value. reads_members_in doubles member_list
      >>= λ pair_list. Ok (pair key_text bson_value pair_list)

  -- a map with a wrapper key
  pub reads_wrapper_in : Doubles → Members → Result Value Fault
  reads_wrapper_in doubles no_members = Err wrong_shape
  reads_wrapper_in doubles (member key_text subtree no_members) =
      scalar_result_as_value (optional_wrapper_read_in doubles (wrapper_of key_text) subtree)
  reads_wrapper_in doubles (member key_text subtree (member other_key other_subtree no_members)) =
      code_with_scope_read key_text subtree other_key (reads_scope_in doubles other_subtree)
  reads_wrapper_in doubles (member key_text subtree (member other_key other_subtree (member third_key third_subtree member_list))) = Err wrong_shape

  pub reads_scope_in : Doubles → Data → Result (Option Pairs) Fault
  reads_scope_in doubles tree.null = Ok None
  reads_scope_in doubles (tree.boolean truth_value) = Err wrong_shape
  reads_scope_in doubles (tree.number json_number) = Err wrong_shape
  reads_scope_in doubles (tree.string text_bytes) = Err wrong_shape
  reads_scope_in doubles (tree.array item_list) = Err wrong_shape
  reads_scope_in doubles (tree.object member_list) = reads_members_in doubles member_list >>= λ pair_list. Ok (Some pair_list)

abbrev pub reads_tree : Data → Result Value Fault
reads_tree = reads_tree_in Special

abbrev pub reads_items : Items → Result Values Fault
reads_items = reads_items_in Special

abbrev pub reads_members : Members → Result Pairs Fault
reads_members = reads_members_in Special

abbrev pub reads_wrapper : Members → Result Value Fault
reads_wrapper = reads_wrapper_in Special

abbrev pub reads_scope : Data → Result (Option Pairs) Fault
reads_scope = reads_scope_in Special
