-- The errors of binaries and vectors.
use Rattle.bson_types.specs.declared.binary.Error.{Error}
use Rattle.bson_types.specs.declared.binary.Error.TheVariants.{DecodingError, Vector, OutOfMemory}

abbrev pub IsDecodingError : Error → Type 0
IsDecodingError (DecodingError message) = Unit {0}
IsDecodingError _ = ⊥

abbrev pub IsVectorError : Error → Type 0
IsVectorError (Vector message) = Unit {0}
IsVectorError _ = ⊥

abbrev pub IsAllocationError : Error → Type 0
IsAllocationError OutOfMemory = Unit {0}
IsAllocationError _ = ⊥
