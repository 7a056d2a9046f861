-- Equality of scalars: the same kind and fields.
use Rattle.std.specs.Prelude.{Bool, true, false, ◌&&◌, ◌==◌}
use Rattle.std.specs.Ordering.{int_eq}
use Rattle.std.specs.Str.{bytes_eq}
use Rattle.bson_types.specs.declared.spec.BinarySubtype.{BinarySubtype}
use Rattle.bson_types.specs.declared.spec.BinarySubtype.TheVariants.{Generic, Function, BinaryOld, UuidOld, Uuid, Md5}
use Rattle.bson_types.specs.declared.spec.BinarySubtype.TheVariants.{Encrypted, Column, Sensitive, Vector, Reserved}
use Rattle.bson_types.specs.declared.spec.BinarySubtype.TheVariants.{UserDefined}
use Rattle.bson_scalar.specs.Scalar.{Scalar, null, undefined, min_key, max_key, boolean, double, int32, int64, text}
use Rattle.bson_scalar.specs.Scalar.{symbol, code, regex, timestamp, binary, object_id, date, decimal, db_pointer}

abbrev pub bool_eq : Bool → Bool → Bool
bool_eq true truth_value = truth_value
bool_eq false true = false
bool_eq false false = true

-- subtypes as they were declared, so that `UserDefined(0)` is not `Generic`
abbrev pub subtype_eq : BinarySubtype → BinarySubtype → Bool
subtype_eq Generic Generic = true
subtype_eq Function Function = true
subtype_eq BinaryOld BinaryOld = true
subtype_eq UuidOld UuidOld = true
subtype_eq Uuid Uuid = true
subtype_eq Md5 Md5 = true
subtype_eq Encrypted Encrypted = true
subtype_eq Column Column = true
subtype_eq Sensitive Sensitive = true
subtype_eq Vector Vector = true
subtype_eq (Reserved byte) (Reserved other_byte) = byte == other_byte
subtype_eq (UserDefined byte) (UserDefined other_byte) = byte == other_byte
subtype_eq _ _ = false

abbrev pub scalar_eq : Scalar → Scalar → Bool
scalar_eq null null = true
scalar_eq undefined undefined = true
scalar_eq min_key min_key = true
scalar_eq max_key max_key = true
scalar_eq (boolean truth_value) (boolean other_truth_value) = bool_eq truth_value other_truth_value
scalar_eq (double pattern) (double other_pattern) = pattern == other_pattern
scalar_eq (int32 integer) (int32 other_integer) = int_eq integer other_integer
scalar_eq (int64 integer) (int64 other_integer) = int_eq integer other_integer
scalar_eq (text text_bytes) (text other_text_bytes) = bytes_eq text_bytes other_text_bytes
scalar_eq (symbol text_bytes) (symbol other_text_bytes) = bytes_eq text_bytes other_text_bytes
scalar_eq (code text_bytes) (code other_text_bytes) = bytes_eq text_bytes other_text_bytes
scalar_eq (regex pattern options) (regex other_pattern other_options) =
    bytes_eq pattern other_pattern && bytes_eq options other_options
scalar_eq (timestamp seconds increment) (timestamp other_seconds other_increment) =
    (seconds == other_seconds) && (increment == other_increment)
scalar_eq (binary subtype bytes) (binary other_subtype other_bytes) =
    subtype_eq subtype other_subtype && bytes_eq bytes other_bytes
scalar_eq (object_id id) (object_id other_id) = bytes_eq id other_id
scalar_eq (date millis) (date other_millis) = int_eq millis other_millis
scalar_eq (decimal decimal_bytes) (decimal other_decimal_bytes) = bytes_eq decimal_bytes other_decimal_bytes
scalar_eq (db_pointer namespace id) (db_pointer other_namespace other_id) =
    bytes_eq namespace other_namespace && bytes_eq id other_id
scalar_eq _ _ = false
