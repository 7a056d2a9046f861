-- Bytes of binary subtypes.
use Rattle.std.specs.Prelude.{ℕ, ◌==◌, nat_lt, if◌then◌else◌}
use Rattle.bson_types.specs.declared.spec.BinarySubtype.{BinarySubtype}
use Rattle.bson_types.specs.declared.spec.BinarySubtype.TheVariants.{Generic, Function, BinaryOld, UuidOld, Uuid, Md5}
use Rattle.bson_types.specs.declared.spec.BinarySubtype.TheVariants.{Encrypted, Column, Sensitive, Vector, Reserved}
use Rattle.bson_types.specs.declared.spec.BinarySubtype.TheVariants.{UserDefined}

abbrev pub subtype_byte : BinarySubtype → ℕ
subtype_byte Generic = 0
subtype_byte Function = 1
subtype_byte BinaryOld = 2
subtype_byte UuidOld = 3
subtype_byte Uuid = 4
subtype_byte Md5 = 5
subtype_byte Encrypted = 6
subtype_byte Column = 7
subtype_byte Sensitive = 8
subtype_byte Vector = 9
subtype_byte (Reserved byte) = byte
subtype_byte (UserDefined byte) = byte

abbrev pub subtype_of : (byte : ℕ) → BinarySubtype
subtype_of byte =
    if byte == 0 then Generic
    else if byte == 1 then Function
    else if byte == 2 then BinaryOld
    else if byte == 3 then UuidOld
    else if byte == 4 then Uuid
    else if byte == 5 then Md5
    else if byte == 6 then Encrypted
    else if byte == 7 then Column
    else if byte == 8 then Sensitive
    else if byte == 9 then Vector
    else if nat_lt byte 128 then Reserved byte
    else UserDefined byte
