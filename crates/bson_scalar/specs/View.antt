-- The scalar of the specification that a `Scalar` or a `ScalarRef` represents.
use Rattle.std.specs.Prelude.{string_bytes}
use Rattle.bson_types.specs.DbPointer.{pointer_namespace, pointer_id}
use Rattle.bson_scalar.specs.Scalar.{Scalar, null, undefined, min_key, max_key, boolean, double, int32, int64, text}
use Rattle.bson_scalar.specs.Scalar.{symbol, code, regex, timestamp, binary, object_id, date, decimal, db_pointer}
use Rattle.bson_scalar.specs.declared.scalar.Scalar.{Scalar as RustScalar}
use Rattle.bson_scalar.specs.declared.scalar.Scalar.TheVariants as variant
use Rattle.bson_scalar.specs.declared.scalar_ref.ScalarRef.{ScalarRef}
use Rattle.bson_scalar.specs.declared.scalar_ref.ScalarRef.TheVariants as kind

abbrev pub scalar_view : RustScalar → Scalar
scalar_view variant.Null = null
scalar_view variant.Undefined = undefined
scalar_view variant.MinKey = min_key
scalar_view variant.MaxKey = max_key
scalar_view (variant.Boolean truth_value) = boolean truth_value
scalar_view (variant.Double bit_pattern) = double bit_pattern
scalar_view (variant.Int32 integer) = int32 integer
scalar_view (variant.Int64 integer) = int64 integer
scalar_view (variant.String text_value) = text (string_bytes text_value)
scalar_view (variant.Symbol text_value) = symbol (string_bytes text_value)
scalar_view (variant.JavaScriptCode text_value) = code (string_bytes text_value)
scalar_view (variant.RegularExpression regex_value) =
    regex (string_bytes regex_value.pattern) (string_bytes regex_value.options)
scalar_view (variant.Timestamp timestamp_value) = timestamp timestamp_value.time timestamp_value.increment
scalar_view (variant.Binary binary_value) = binary binary_value.subtype binary_value.bytes.items
scalar_view (variant.ObjectId id) = object_id id
scalar_view (variant.DateTime integer) = date integer
scalar_view (variant.Decimal128 decimal_bytes) = decimal decimal_bytes
scalar_view (variant.DbPointer pointer_value) = db_pointer (pointer_namespace pointer_value) (pointer_id pointer_value)

abbrev pub scalar_of : ScalarRef → Scalar
scalar_of kind.Null = null
scalar_of kind.Undefined = undefined
scalar_of kind.MinKey = min_key
scalar_of kind.MaxKey = max_key
scalar_of (kind.Boolean truth_value) = boolean truth_value
scalar_of (kind.Double bit_pattern) = double bit_pattern
scalar_of (kind.Int32 integer) = int32 integer
scalar_of (kind.Int64 integer) = int64 integer
scalar_of (kind.String text_value) = text text_value.now
scalar_of (kind.Symbol text_value) = symbol text_value.now
scalar_of (kind.JavaScriptCode text_value) = code text_value.now
scalar_of (kind.RegularExpression regex_value) =
    regex (string_bytes regex_value.now.pattern) (string_bytes regex_value.now.options)
scalar_of (kind.Timestamp timestamp_value) = timestamp timestamp_value.time timestamp_value.increment
scalar_of (kind.Binary binary_value) = binary binary_value.now.subtype binary_value.now.bytes.items
scalar_of (kind.ObjectId id) = object_id id
scalar_of (kind.DateTime integer) = date integer
scalar_of (kind.Decimal128 decimal_bytes) = decimal decimal_bytes
scalar_of (kind.DbPointer pointer_value) =
    db_pointer (pointer_namespace pointer_value.now) (pointer_id pointer_value.now)
