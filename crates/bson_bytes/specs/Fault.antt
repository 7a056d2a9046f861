-- Why bytes are not a document, and what a function returns then.
use Rattle.std.specs.Prelude.{◌≡◌, ℕ, List, length, Result, Ok, Err, Option, Some, None}
use Rattle.bson_bytes.specs.declared.fault.FaultKind.{FaultKind}
use Rattle.bson_bytes.specs.declared.fault.Fault.{Fault}

-- an error of this kind at the start of these bytes, the last of the input
abbrev pub fault_at : FaultKind → (bytes : List ℕ) → Fault
fault_at fault_kind bytes = record { kind = fault_kind; bytes_to_end = length bytes }

infixl 10 ◌>>=◌
abbrev pub ◌>>=◌ : {A B : Type 0} → Result A Fault → (read_next : A → Result B Fault) → Result B Fault
(Ok value_read) >>= read_next = read_next value_read
(Err fault) >>= read_next = Err fault

-- the value, or an error of this kind at the start of these bytes
abbrev pub some_or_fault : {A : Type 0} → Option A → FaultKind → (bytes : List ℕ) → Result A Fault
some_or_fault (Some value_found) fault_kind bytes = Ok value_found
some_or_fault None fault_kind bytes = Err (fault_at fault_kind bytes)

-- what a function returned, seen by view, is the result of reading
abbrev pub ReturnsReading : {Returned Parsed : Type 0} → (view : Returned → Parsed) → Result Returned Fault
    → (read_result : Result Parsed Fault) → Type 0
ReturnsReading view (Ok returned) read_result = read_result ≡ Ok (view returned)
ReturnsReading view (Err fault) read_result = read_result ≡ Err fault
