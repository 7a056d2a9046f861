-- Values that contain a document or an array.
use Rattle.std.specs.Prelude.{Bool, true, false}
use Rattle.bson_types.specs.declared.spec.ElementType.{ElementType}
use Rattle.bson_types.specs.declared.spec.ElementType.TheVariants.{EmbeddedDocument, Array, JavaScriptCodeWithScope}
use Rattle.bson_model.specs.Value.{Value, scalar}

abbrev pub IsNested : Value → Type 0
IsNested (scalar scalar_value) = ⊥
IsNested _ = Unit {0}

abbrev pub is_nested_type : ElementType → Bool
is_nested_type EmbeddedDocument = true
is_nested_type Array = true
is_nested_type JavaScriptCodeWithScope = true
is_nested_type _ = false
