-- The words of a scalar for a hasher.
use Rattle.std.specs.Prelude.{[], ◌++◌}
use Rattle.std.specs.Hash.{HashWrites, u8, u32, u64, i32, i64, bool, str, slice}
use Rattle.bson_types.specs.BinarySubtypes.{subtype_byte}
use Rattle.bson_scalar.specs.Scalar.{Scalar, null, undefined, min_key, max_key, boolean, double, int32, int64, text}
use Rattle.bson_scalar.specs.Scalar.{symbol, code, regex, timestamp, binary, object_id, date, decimal, db_pointer}

-- what the Hash of each field's type feeds, the fields in their order
abbrev pub scalar_hash_input : Scalar → HashWrites
scalar_hash_input null = []
scalar_hash_input undefined = []
scalar_hash_input min_key = []
scalar_hash_input max_key = []
scalar_hash_input (boolean truth_value) = bool truth_value
scalar_hash_input (double pattern) = u64 pattern
scalar_hash_input (int32 integer) = i32 integer
scalar_hash_input (int64 integer) = i64 integer
scalar_hash_input (text text_bytes) = str text_bytes
scalar_hash_input (symbol text_bytes) = str text_bytes
scalar_hash_input (code text_bytes) = str text_bytes
scalar_hash_input (regex pattern options) = str pattern ++ str options
scalar_hash_input (timestamp seconds increment) = u32 seconds ++ u32 increment
scalar_hash_input (binary subtype bytes) = u8 (subtype_byte subtype) ++ slice u8 bytes
scalar_hash_input (object_id id) = slice u8 id
scalar_hash_input (date integer) = i64 integer
scalar_hash_input (decimal decimal_bytes) = slice u8 decimal_bytes
scalar_hash_input (db_pointer namespace id) = str namespace ++ slice u8 id
