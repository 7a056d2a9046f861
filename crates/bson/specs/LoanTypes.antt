-- Types as the logic of loans holds them: of values, of documents, and of what each kind holds.
use denote.RattleType.{RattleType}
use Rattle.std.specs.Borrow.{u8}
use Rattle.std.specs.contracts.alloc.Global as heap
use Rattle.std.specs.contracts.impls.GlobalAllocator.TheImpl.{ghosts}
use Rattle.std.specs.contracts.string.String as string
use Rattle.std.specs.contracts.vec.Vec as vec
pub use Rattle.std.specs.Borrow.{bool as boolean_rust_type, i32 as int32_rust_type, i64 as int64_rust_type, u64 as double_rust_type}
pub use Rattle.bson_datetime.specs.contracts.datetime.DateTime.{the_row as date_rust_type}
pub use Rattle.bson_decimal.specs.contracts.Decimal128.{the_row as decimal_rust_type}
pub use Rattle.bson_types.specs.contracts.binary.Binary.{the_row as binary_rust_type}
pub use Rattle.bson_types.specs.contracts.oid.ObjectId.{the_row as object_id_rust_type}
pub use Rattle.bson_types.specs.contracts.timestamp.Timestamp.{the_row as timestamp_rust_type}
pub use Rattle.bson.specs.contracts.bson.Bson.{the_row as bson_rust_type}
pub use Rattle.bson.specs.contracts.document.Document.{the_row as document_rust_type}

abbrev pub array_rust_type : RattleType
array_rust_type = vec.the_row bson_rust_type heap.the_row ghosts

abbrev pub string_rust_type : RattleType
string_rust_type = string.the_row heap.the_row ghosts

abbrev pub bytes_rust_type : RattleType
bytes_rust_type = vec.the_row u8 heap.the_row ghosts
