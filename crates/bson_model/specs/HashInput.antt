-- What a value feeds a hasher.
use Rattle.std.specs.Prelude.{ℕ, ◌+◌, [], ◌++◌}
use Rattle.std.specs.Hash.{HashWrites, usize, str}
use Rattle.bson_scalar.specs.HashInput.{scalar_hash_input}
use Rattle.bson_model.specs.Value.{Value, scalar, code_scope, array, document, Values, no_values, value, Pairs}
use Rattle.bson_model.specs.Value.{no_pairs, pair}
use Rattle.bson_model.specs.Sorted.{sorted}

abbrev pub items_count : Values → ℕ
items_count no_values = 0
items_count (value bson_value value_list) = items_count value_list + 1

abbrev pub pairs_count : Pairs → ℕ
pairs_count no_pairs = 0
pairs_count (pair key_text bson_value pair_list) = pairs_count pair_list + 1

-- an array: its length, then its elements; a document: its length, then its keys and values in their order
abbrev mutual
  pub value_hash_input : Value → HashWrites
  value_hash_input (scalar scalar_value) = scalar_hash_input scalar_value
  value_hash_input (code_scope code_text pair_list) =
      str code_text ++ (usize (pairs_count pair_list) ++ pairs_hash_input pair_list)
  value_hash_input (array value_list) = usize (items_count value_list) ++ items_hash_input value_list
  value_hash_input (document pair_list) = usize (pairs_count pair_list) ++ pairs_hash_input pair_list

  pub items_hash_input : Values → HashWrites
  items_hash_input no_values = []
  items_hash_input (value bson_value value_list) = value_hash_input bson_value ++ items_hash_input value_list

  pub pairs_hash_input : Pairs → HashWrites
  pairs_hash_input no_pairs = []
  pairs_hash_input (pair key_text bson_value pair_list) =
      (str key_text ++ value_hash_input bson_value) ++ pairs_hash_input pair_list

-- the same with the pairs of each document in ascending key order
abbrev pub sorted_hash_input : Value → HashWrites
sorted_hash_input bson_value = value_hash_input (sorted bson_value)
