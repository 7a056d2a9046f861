-- The tags of elements (BSON 1.1).
use Rattle.std.specs.Prelude.{ℕ}
use Rattle.bson_types.specs.declared.spec.ElementType.{ElementType}
use Rattle.bson_types.specs.declared.spec.ElementType.TheVariants.{Double, String, EmbeddedDocument, Array, Binary}
use Rattle.bson_types.specs.declared.spec.ElementType.TheVariants.{Undefined, ObjectId, Boolean, DateTime, Null}
use Rattle.bson_types.specs.declared.spec.ElementType.TheVariants.{RegularExpression, DbPointer, JavaScriptCode}
use Rattle.bson_types.specs.declared.spec.ElementType.TheVariants.{Symbol, JavaScriptCodeWithScope, Int32, Timestamp}
use Rattle.bson_types.specs.declared.spec.ElementType.TheVariants.{Int64, Decimal128, MaxKey, MinKey}

abbrev pub tag_of : ElementType → ℕ
tag_of Double = 0x01
tag_of String = 0x02
tag_of EmbeddedDocument = 0x03
tag_of Array = 0x04
tag_of Binary = 0x05
tag_of Undefined = 0x06
tag_of ObjectId = 0x07
tag_of Boolean = 0x08
tag_of DateTime = 0x09
tag_of Null = 0x0A
tag_of RegularExpression = 0x0B
tag_of DbPointer = 0x0C
tag_of JavaScriptCode = 0x0D
tag_of Symbol = 0x0E
tag_of JavaScriptCodeWithScope = 0x0F
tag_of Int32 = 0x10
tag_of Timestamp = 0x11
tag_of Int64 = 0x12
tag_of Decimal128 = 0x13
tag_of MaxKey = 0x7F
tag_of MinKey = 0xFF
