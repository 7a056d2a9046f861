-- What the calls return if bytes are not a document.
use Rattle.std.specs.Prelude.{◌≡◌, ◌≤◌, ℕ, ◌+◌, ◌-◌, List, length, Result, Err}
use Rattle.bson_bytes.specs.declared.fault.Fault.{Fault}
use Rattle.bson_bytes.specs.declared.fault.FaultKind.{FaultKind}
use Rattle.bson_bytes.specs.declared.stop.Stop.{Stop}
use Rattle.bson_bytes.specs.declared.stop.Stop.TheVariants as stops
use Rattle.bson_codec.specs.declared.de.Error.{Error}
use Rattle.bson_codec.specs.declared.de.Error.TheVariants as errors

-- the error of reading the bytes: its kind, and its offset
abbrev pub IsFaultAtOffset : {Parsed : Type 0} → FaultKind → (offset : ℕ) → (bytes : List ℕ)
    → (read_result : Result Parsed Fault)
    → Type 0
IsFaultAtOffset fault_kind offset bytes read_result =
    (fault : Fault) × (read_result ≡ Err fault) × (fault_kind ≡ fault.kind)
    × (offset + fault.bytes_to_end ≡ length bytes)

-- that fault, or memory ran out
abbrev pub IsReadFault : {Parsed : Type 0} → Error → (bytes : List ℕ) → (read_result : Result Parsed Fault) → Type 0
IsReadFault errors.OutOfMemory bytes read_result = Unit {0}
IsReadFault (errors.Malformed fault_kind offset) bytes read_result = IsFaultAtOffset fault_kind offset bytes read_result

-- that error, if nothing is allocated
abbrev pub IsFaultWithoutMemory : {Parsed : Type 0} → Error → (bytes : List ℕ) → (read_result : Result Parsed Fault)
    → Type 0
IsFaultWithoutMemory errors.OutOfMemory bytes read_result = ⊥
IsFaultWithoutMemory (errors.Malformed fault_kind offset) bytes read_result =
    IsFaultAtOffset fault_kind offset bytes read_result

-- ---- for private clauses

-- the error is in the bytes, or at their end, and no duplicate key is possible
abbrev pub IsStopInBytes : Stop → (bytes : List ℕ) → Type 0
IsStopInBytes (stops.Fault fault) bytes = fault.bytes_to_end ≤ length bytes
IsStopInBytes stops.GaveUp bytes = ⊥
IsStopInBytes stops.OutOfMemory bytes = Unit {0}

-- the error with its offset in the bytes
abbrev pub error_with_offset : Stop → (bytes : List ℕ) → Error
error_with_offset (stops.Fault fault) bytes = errors.Malformed fault.kind (length bytes - fault.bytes_to_end)
error_with_offset stop bytes = errors.OutOfMemory
