-- Normal and narrowed forms, and what a value may be.
use Rattle.std.specs.Prelude.{◌&&◌, Bool, true, if◌then◌else◌, is_none}
use Rattle.bson_scalar.specs.Scalar.{Scalar}
use Rattle.bson_scalar.specs.Normal.{normal_scalar, scalar_as_read_back, writable_scalar_in, ScalarInRange}
use Rattle.bson_scalar.specs.Table.{wrapper_of}
use Rattle.bson_scalar.specs.declared.form.Form.{Form}
use Rattle.bson_scalar.specs.Forms.{is_relaxed}
use Rattle.bson_scalar.specs.declared.form.Form.TheVariants.{Relaxed}
use Rattle.bson_model.specs.Value.{Value, scalar, code_scope, array, document, Values, no_values, value, Pairs}
use Rattle.bson_model.specs.Value.{no_pairs, pair}
use Rattle.bson_scalar.specs.declared.form.Doubles.{Doubles}
use Rattle.bson_scalar.specs.declared.form.Doubles.TheVariants.{Special}

-- ---- the normal form

abbrev mutual
  -- the value with the function applied to each scalar in it
  pub map_scalars : (scalar_function : Scalar → Scalar) → Value → Value
  map_scalars scalar_function (scalar scalar_value) = scalar (scalar_function scalar_value)
  map_scalars scalar_function (code_scope code_text pair_list) =
      code_scope code_text (map_scalars_of_pairs scalar_function pair_list)
  map_scalars scalar_function (array value_list) = array (map_scalars_of_items scalar_function value_list)
  map_scalars scalar_function (document pair_list) = document (map_scalars_of_pairs scalar_function pair_list)

  pub map_scalars_of_items : (scalar_function : Scalar → Scalar) → Values → Values
  map_scalars_of_items scalar_function no_values = no_values
  map_scalars_of_items scalar_function (value bson_value value_list) =
      value (map_scalars scalar_function bson_value) (map_scalars_of_items scalar_function value_list)

  pub map_scalars_of_pairs : (scalar_function : Scalar → Scalar) → Pairs → Pairs
  map_scalars_of_pairs scalar_function no_pairs = no_pairs
  map_scalars_of_pairs scalar_function (pair key_text bson_value pair_list) =
      pair key_text (map_scalars scalar_function bson_value) (map_scalars_of_pairs scalar_function pair_list)

abbrev pub normal_form : (bson_value : Value) → Value
normal_form bson_value = map_scalars normal_scalar bson_value

-- each Int64 that an i32 has is the Int32
abbrev pub narrowed_form : (bson_value : Value) → Value
narrowed_form bson_value = map_scalars (scalar_as_read_back Relaxed) bson_value

-- the value as it is read back from its tree
abbrev pub as_read_back : Form → (bson_value : Value) → Value
as_read_back form bson_value = if is_relaxed form then narrowed_form bson_value else bson_value

-- ---- what a value may be

abbrev mutual
  -- no document in it has a wrapper key of its own
  pub plain : Value → Bool
  plain (scalar scalar_value) = true
  plain (code_scope code_text pair_list) = plain_values pair_list
  plain (array value_list) = plain_items value_list
  plain (document pair_list) = plain_keys pair_list && plain_values pair_list

  pub plain_items : Values → Bool
  plain_items no_values = true
  plain_items (value bson_value value_list) = plain bson_value && plain_items value_list

  pub plain_keys : Pairs → Bool
  plain_keys no_pairs = true
  plain_keys (pair key_text bson_value pair_list) = is_none (wrapper_of key_text) && plain_keys pair_list

  pub plain_values : Pairs → Bool
  plain_values no_pairs = true
  plain_values (pair key_text bson_value pair_list) = plain bson_value && plain_values pair_list

abbrev mutual
  -- each number in it is in the range of its Rust type
  pub NumbersInRange : Value → Type 0
  NumbersInRange (scalar scalar_value) = ScalarInRange scalar_value
  NumbersInRange (code_scope code_text pair_list) = PairsInRange pair_list
  NumbersInRange (array value_list) = ItemsInRange value_list
  NumbersInRange (document pair_list) = PairsInRange pair_list

  pub ItemsInRange : Values → Type 0
  ItemsInRange no_values = Unit {0}
  ItemsInRange (value bson_value value_list) = NumbersInRange bson_value × ItemsInRange value_list

  pub PairsInRange : Pairs → Type 0
  PairsInRange no_pairs = Unit {0}
  PairsInRange (pair key_text bson_value pair_list) = NumbersInRange bson_value × PairsInRange pair_list

abbrev mutual
  -- each double in it is a zero, an infinity or a NaN, or in the mode `Finite` any
  pub writable_in : Doubles → Value → Bool
  writable_in doubles (scalar scalar_value) = writable_scalar_in doubles scalar_value
  writable_in doubles (code_scope code_text pair_list) = writable_pairs_in doubles pair_list
  writable_in doubles (array value_list) = writable_items_in doubles value_list
  writable_in doubles (document pair_list) = writable_pairs_in doubles pair_list

  pub writable_items_in : Doubles → Values → Bool
  writable_items_in doubles no_values = true
  writable_items_in doubles (value bson_value value_list) =
      writable_in doubles bson_value && writable_items_in doubles value_list

  pub writable_pairs_in : Doubles → Pairs → Bool
  writable_pairs_in doubles no_pairs = true
  writable_pairs_in doubles (pair key_text bson_value pair_list) =
      writable_in doubles bson_value && writable_pairs_in doubles pair_list

abbrev pub writable : Value → Bool
writable = writable_in Special

abbrev pub writable_items : Values → Bool
writable_items = writable_items_in Special

abbrev pub writable_pairs : Pairs → Bool
writable_pairs = writable_pairs_in Special
