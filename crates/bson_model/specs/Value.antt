-- A value of BSON 1.1 with nothing of memory: texts have bytes, and a document is a list of pairs.
use Rattle.std.specs.Prelude.{ℕ, List, [], ◌∷◌, cond, Option, None, Some}
use Rattle.std.specs.Str.{bytes_eq}
use Rattle.bson_scalar.specs.Scalar.{Scalar}

-- a value that holds no other, code with its scope, an array, or a document; a scope is a document
mutual
  pub data Value : Type 0 where
    scalar : Scalar → Value
    code_scope : (code_text : List ℕ) (pair_list : Pairs) → Value
    array : Values → Value
    document : Pairs → Value

  pub data Values : Type 0 where
    no_values : Values
    value : Value → Values → Values

  pub data Pairs : Type 0 where
    no_pairs : Pairs
    pair : (key_text : List ℕ) → Value → Pairs → Pairs

abbrev pub pair_keys : Pairs → List (List ℕ)
pair_keys no_pairs = []
pair_keys (pair key_text bson_value pair_list) = key_text ∷ pair_keys pair_list

-- the value of the first pair with the key
abbrev pub value_at_key : (key_text : List ℕ) → Pairs → Option Value
value_at_key key_text no_pairs = None
value_at_key key_text (pair other_key bson_value pair_list) =
    cond (bytes_eq key_text other_key) (Some bson_value) (value_at_key key_text pair_list)

-- what holds of the scalar, where the value is one
abbrev pub IfScalar : Value → (property : Scalar → Type 0) → Type 0
IfScalar (scalar scalar_value) property = property scalar_value
IfScalar (code_scope code_text pair_list) property = Unit {0}
IfScalar (array value_list) property = Unit {0}
IfScalar (document pair_list) property = Unit {0}
