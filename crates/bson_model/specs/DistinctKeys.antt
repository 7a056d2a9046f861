-- Values in which no document has a key twice.
use Rattle.std.specs.Prelude.{◌≡◌, ℕ, List, Bool, false, ◌||◌}
use Rattle.std.specs.Str.{bytes_eq}
use Rattle.bson_model.specs.Value.{Value, scalar, code_scope, array, document, Values, no_values, value, Pairs}
use Rattle.bson_model.specs.Value.{no_pairs, pair}

abbrev pub has_pair : (key_text : List ℕ) → Pairs → Bool
has_pair key_text no_pairs = false
has_pair key_text (pair other_key bson_value pair_list) = bytes_eq key_text other_key || has_pair key_text pair_list

abbrev mutual
  pub AllKeysDistinct : Value → Type 0
  AllKeysDistinct (scalar scalar_value) = Unit {0}
  AllKeysDistinct (code_scope code_text pair_list) = PairKeysDistinct pair_list
  AllKeysDistinct (array value_list) = ItemKeysDistinct value_list
  AllKeysDistinct (document pair_list) = PairKeysDistinct pair_list

  pub ItemKeysDistinct : Values → Type 0
  ItemKeysDistinct no_values = Unit {0}
  ItemKeysDistinct (value bson_value value_list) = AllKeysDistinct bson_value × ItemKeysDistinct value_list

  pub PairKeysDistinct : Pairs → Type 0
  PairKeysDistinct no_pairs = Unit {0}
  PairKeysDistinct (pair key_text bson_value pair_list) = (has_pair key_text pair_list ≡ false)
      × AllKeysDistinct bson_value × PairKeysDistinct pair_list
