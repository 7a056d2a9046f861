-- The element type of each kind that holds no other value (BSON 1.1): that of the kind's own name.
use Rattle.bson_types.specs.declared.spec.ElementType.{ElementType}
use Rattle.bson_types.specs.declared.spec.ElementType.TheVariants as element
use Rattle.bson_scalar.specs.Scalar.{Scalar, null, undefined, min_key, max_key, boolean, double, int32, int64, text}
use Rattle.bson_scalar.specs.Scalar.{symbol, code, regex, timestamp, binary, object_id, date, decimal, db_pointer}

abbrev pub scalar_type : Scalar → ElementType
scalar_type null = element.Null
scalar_type undefined = element.Undefined
scalar_type min_key = element.MinKey
scalar_type max_key = element.MaxKey
scalar_type (boolean truth_value) = element.Boolean
scalar_type (double pattern) = element.Double
scalar_type (int32 integer) = element.Int32
scalar_type (int64 integer) = element.Int64
scalar_type (text text_bytes) = element.String
scalar_type (symbol text_bytes) = element.Symbol
scalar_type (code text_bytes) = element.JavaScriptCode
scalar_type (regex pattern options) = element.RegularExpression
scalar_type (timestamp seconds increment) = element.Timestamp
scalar_type (binary subtype bytes) = element.Binary
scalar_type (object_id id) = element.ObjectId
scalar_type (date integer) = element.DateTime
scalar_type (decimal decimal_bytes) = element.Decimal128
scalar_type (db_pointer namespace id) = element.DbPointer
