-- The element type of each kind (BSON 1.1): that of the kind's own name.
use Rattle.bson_types.specs.declared.spec.ElementType.{ElementType}
use Rattle.bson_types.specs.declared.spec.ElementType.TheVariants as element
use Rattle.bson_scalar.specs.ElementType.{scalar_type}
use Rattle.bson_model.specs.Value.{Value, scalar, code_scope, array, document}
use Rattle.bson.specs.View.{bson_view}
use Rattle.bson.specs.declared.bson.Bson.{Bson}

abbrev pub value_type : Value → ElementType
value_type (scalar scalar_value) = scalar_type scalar_value
value_type (code_scope code pairs) = element.JavaScriptCodeWithScope
value_type (array items) = element.Array
value_type (document pairs) = element.EmbeddedDocument

abbrev pub element_type_of : Bson → ElementType
element_type_of bson_value = value_type (bson_view bson_value)
