-- Values that hold no other.
use Rattle.std.specs.Prelude.{Bool, true, false}
use Rattle.bson_scalar.specs.Same.{scalar_eq}
use Rattle.bson_model.specs.Value.{Value, scalar, code_scope, array, document}

abbrev pub IsScalar : Value → Type 0
IsScalar (scalar scalar_value) = Unit {0}
IsScalar (code_scope code pairs) = ⊥
IsScalar (array items) = ⊥
IsScalar (document pairs) = ⊥

abbrev pub is_scalar : Value → Bool
is_scalar (scalar scalar_value) = true
is_scalar _ = false

-- both hold no other, and are the same
abbrev pub scalars_eq : (left_value right_value : Value) → Bool
scalars_eq (scalar left_scalar) (scalar right_scalar) = scalar_eq left_scalar right_scalar
scalars_eq _ _ = false
