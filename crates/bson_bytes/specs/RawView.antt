-- The value that a value in its bytes is.
use Rattle.bson_scalar.specs.Scalar as kind
use Rattle.bson_model.specs.Value.{Value, scalar, code_scope, array, document}
use Rattle.bson_bytes.specs.RawContents.{raw_contents, raw_array_values}
use Rattle.bson_bytes.specs.declared.raw_value.RawBsonRef.{RawBsonRef}
use Rattle.bson_bytes.specs.declared.raw_value.RawBsonRef.TheVariants as raw

abbrev pub raw_view : RawBsonRef → Value
raw_view (raw.Double bit_pattern) = scalar (kind.double bit_pattern)
raw_view (raw.String text) = scalar (kind.text text.now)
raw_view (raw.Array raw_array) = array (raw_array_values raw_array)
raw_view (raw.Document raw_document) = document (raw_contents raw_document)
raw_view (raw.Boolean truth_value) = scalar (kind.boolean truth_value)
raw_view raw.Null = scalar kind.null
raw_view (raw.RegularExpression regex) = scalar (kind.regex regex.pattern.now regex.options.now)
raw_view (raw.JavaScriptCode code) = scalar (kind.code code.now)
raw_view (raw.JavaScriptCodeWithScope scoped_code) = code_scope scoped_code.code.now (raw_contents scoped_code.scope)
raw_view (raw.Int32 number) = scalar (kind.int32 number)
raw_view (raw.Int64 number) = scalar (kind.int64 number)
raw_view (raw.Timestamp timestamp) = scalar (kind.timestamp timestamp.time timestamp.increment)
raw_view (raw.Binary binary) = scalar (kind.binary binary.subtype binary.bytes.now)
raw_view (raw.ObjectId id) = scalar (kind.object_id id)
raw_view (raw.DateTime millis) = scalar (kind.date millis)
raw_view (raw.Symbol symbol) = scalar (kind.symbol symbol.now)
raw_view (raw.Decimal128 bytes) = scalar (kind.decimal bytes)
raw_view raw.Undefined = scalar kind.undefined
raw_view raw.MaxKey = scalar kind.max_key
raw_view raw.MinKey = scalar kind.min_key
raw_view (raw.DbPointer pointer) = scalar (kind.db_pointer pointer.namespace.now pointer.id)
