-- What a tree in the order of a text is read as, as a function: for the proofs. `MeansInOrder` is the grammar, and the
-- law `ordered_reading_is_meaning` joins the two.
use Rattle.std.specs.Prelude.{codes, if◌then◌else◌, Option, Some, None, Result, Ok, Err}
use Rattle.std.specs.Str.{bytes_eq}
use Rattle.serde_json.specs.Data.{Data, Items, no_items, item, Members, no_members, member}
use Rattle.serde_json.specs.Data as tree
use Rattle.bson_scalar.specs.Faults.{Fault, wrong_shape, ◌>>=◌}
use Rattle.bson_scalar.specs.Reading.{number_read_in, optional_wrapper_read_in}
use Rattle.bson_scalar.specs.Scalar.{null, boolean, text}
use Rattle.bson_scalar.specs.Table.{wrapper_of, has_wrapper}
use Rattle.bson_scalar.specs.declared.form.Doubles.{Doubles}
use Rattle.bson_model.specs.Reading.{scalar_result_as_value, code_with_scope_read}
use Rattle.bson_model.specs.Value.{Value, scalar, array, document, Values, no_values, value, Pairs}
use Rattle.bson_model.specs.Value.{no_pairs, pair}
use Rattle.bson_model.specs.OrderedTrees.{tree_sorted_by_key}

abbrev mutual
  pub reads_tree_in_order : Doubles → Data → Result Value Fault
  reads_tree_in_order doubles tree.null = Ok (scalar null)
  reads_tree_in_order doubles (tree.boolean truth_value) = Ok (scalar (boolean truth_value))
  reads_tree_in_order doubles (tree.number json_number) = scalar_result_as_value (number_read_in doubles json_number)
  reads_tree_in_order doubles (tree.string text_bytes) = Ok (scalar (text text_bytes))
  reads_tree_in_order doubles (tree.array item_list) =
      reads_items_in_order doubles item_list >>= λ value_list. Ok (array value_list)
  reads_tree_in_order doubles (tree.object member_list) =
      if has_wrapper member_list then reads_wrapper_in_order doubles member_list
      else (reads_members_in_order doubles member_list >>= λ pair_list. Ok (document pair_list))

  pub reads_items_in_order : Doubles → Items → Result Values Fault
  reads_items_in_order doubles no_items = Ok no_values
  reads_items_in_order doubles (item subtree item_list) =
      reads_tree_in_order doubles subtree >>= λ bson_value. reads_items_in_order doubles item_list
      >>= λ value_list. Ok (value bson_value value_list)

  pub reads_members_in_order : Doubles → Members → Result Pairs Fault
  reads_members_in_order doubles no_members = Ok no_pairs
  reads_members_in_order doubles (member key_text subtree member_list) =
      reads_tree_in_order doubles subtree >>= λ bson_value. reads_members_in_order doubles member_list
      >>= λ pair_list. Ok (pair key_text bson_value pair_list)

  -- an object with a wrapper key: only code with its scope holds a document, and its two keys may have either order
  pub reads_wrapper_in_order : Doubles → Members → Result Value Fault
  reads_wrapper_in_order doubles no_members = Err wrong_shape
  reads_wrapper_in_order doubles (member key_text subtree no_members) = scalar_result_as_value (optional_wrapper_read_in doubles (wrapper_of key_text) (tree_sorted_by_key subtree))
  reads_wrapper_in_order doubles (member key_text subtree (member other_key other_subtree no_members)) =
      if bytes_eq key_text (codes "$scope") then code_with_scope_read other_key (tree_sorted_by_key other_subtree) key_text (reads_scope_in_order doubles subtree)
      else code_with_scope_read key_text (tree_sorted_by_key subtree) other_key
      (reads_scope_in_order doubles other_subtree)
  reads_wrapper_in_order doubles
      (member key_text subtree
      (member other_key other_subtree (member third_key third_subtree member_list))) = Err wrong_shape

  pub reads_scope_in_order : Doubles → Data → Result (Option Pairs) Fault
  reads_scope_in_order doubles tree.null = Ok None
  reads_scope_in_order doubles (tree.boolean truth_value) = Err wrong_shape
  reads_scope_in_order doubles (tree.number json_number) = Err wrong_shape
  reads_scope_in_order doubles (tree.string text_bytes) = Err wrong_shape
  reads_scope_in_order doubles (tree.array item_list) = Err wrong_shape
  reads_scope_in_order doubles (tree.object member_list) = reads_members_in_order doubles member_list >>= λ pair_list. Ok (Some pair_list)
