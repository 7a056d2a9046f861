-- The scalar that a scalar of a fixed size is.
use Rattle.bson_scalar.specs.Scalar.{Scalar, null, undefined, min_key, max_key, boolean, double, int32, int64, timestamp}
use Rattle.bson_scalar.specs.Scalar.{object_id, date, decimal}
use Rattle.bson_bytes.specs.declared.fixed_scalar.FixedSizeScalar.{FixedSizeScalar}
use Rattle.bson_bytes.specs.declared.fixed_scalar.FixedSizeScalar.TheVariants as variant

abbrev pub fixed_scalar_view : FixedSizeScalar → Scalar
fixed_scalar_view variant.Null = null
fixed_scalar_view variant.Undefined = undefined
fixed_scalar_view variant.MinKey = min_key
fixed_scalar_view variant.MaxKey = max_key
fixed_scalar_view (variant.Boolean truth_value) = boolean truth_value
fixed_scalar_view (variant.Double bit_pattern) = double bit_pattern
fixed_scalar_view (variant.Int32 number) = int32 number
fixed_scalar_view (variant.Int64 number) = int64 number
fixed_scalar_view (variant.Timestamp time_and_increment) =
    timestamp time_and_increment.time time_and_increment.increment
fixed_scalar_view (variant.ObjectId id) = object_id id
fixed_scalar_view (variant.DateTime millis) = date millis
fixed_scalar_view (variant.Decimal128 bytes) = decimal bytes
