-- How a binary is shown.
use Rattle.std.specs.Prelude.{ℕ, ◌++◌, List, false, codes}
use Rattle.std.specs.Fmt.{digits}
use Rattle.bson_types.specs.declared.binary.Binary.{Binary}
use Rattle.bson_types.specs.BinarySubtypes.{subtype_byte}
use Rattle.bson_types.specs.Base64.{padded_base64}

abbrev pub binary_text : Binary → List ℕ
binary_text shown_binary =
    codes "Binary(0x" ++ digits 16 false (subtype_byte shown_binary.subtype) ++ codes ", "
    ++ padded_base64 shown_binary.bytes.items
    ++ codes ")"
