-- Equality of values with the order of their keys, as a function: for the proofs. It is equality (`proofs/SameInOrder`).
use Rattle.std.specs.Prelude.{Bool, true, false, ◌&&◌}
use Rattle.std.specs.Str.{bytes_eq}
use Rattle.bson_scalar.specs.Same.{scalar_eq}
use Rattle.bson_model.specs.Value.{Value, scalar, code_scope, array, document, Values, no_values, value, Pairs}
use Rattle.bson_model.specs.Value.{no_pairs, pair}

unfoldable mutual
  pub same_in_order : (left_value right_value : Value) → Bool
  same_in_order (scalar left_scalar) (scalar right_scalar) = scalar_eq left_scalar right_scalar
  same_in_order (code_scope left_code left_pairs) (code_scope right_code right_pairs) =
      bytes_eq left_code right_code && same_pairs_in_order left_pairs right_pairs
  same_in_order (array left_items) (array right_items) = same_items_in_order left_items right_items
  same_in_order (document left_pairs) (document right_pairs) = same_pairs_in_order left_pairs right_pairs
  same_in_order _ _ = false

  pub same_items_in_order : (left_items right_items : Values) → Bool
  same_items_in_order no_values no_values = true
  same_items_in_order (value left_value left_items) (value right_value right_items) =
      same_in_order left_value right_value && same_items_in_order left_items right_items
  same_items_in_order _ _ = false

  pub same_pairs_in_order : (left_pairs right_pairs : Pairs) → Bool
  same_pairs_in_order no_pairs no_pairs = true
  same_pairs_in_order (pair left_key left_value left_pairs) (pair right_key right_value right_pairs) =
      bytes_eq left_key right_key
      && (same_in_order left_value right_value && same_pairs_in_order left_pairs right_pairs)
  same_pairs_in_order _ _ = false
