-- The error value of a string that is not an object id.
use Rattle.std.specs.Prelude.{◌≡◌, ℕ, List}
use Rattle.std.specs.String.{string_bytes}
use Rattle.bson_types.specs.declared.oid.Error.{Error}
use Rattle.bson_types.specs.declared.oid.Error.TheVariants.{InvalidHexStringCharacter, InvalidHexStringLength}
use Rattle.bson_types.specs.declared.oid.Error.TheVariants.{OutOfMemory}
use Rattle.bson_types.specs.ObjectIds.{BadLength, BadCharacter, oid_fault}

-- the error has the fault of the string and a copy of the string, or it is `OutOfMemory`
abbrev pub IsOidError : (text : List ℕ) → Error → Type 0
IsOidError text (InvalidHexStringCharacter character index hex) =
    (oid_fault text ≡ BadCharacter character index) × (string_bytes hex ≡ text)
IsOidError text (InvalidHexStringLength length hex) = (oid_fault text ≡ BadLength length) × (string_bytes hex ≡ text)
IsOidError text OutOfMemory = Unit {0}
