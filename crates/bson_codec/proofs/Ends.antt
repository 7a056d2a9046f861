-- What reading gives is one thing.
use Rattle.std.proofs.Common.{◌≡◌, ◌↔◌, ◌+◌, ◌-◌, ◌≤◌, List, ℕ, length, Bool, false, Result, Ok, Err, IfOk, refl}
use Rattle.std.proofs.Common.{sym, subst, arith}
use Rattle.std.specs.Prelude.{IsTrue}
use Rattle.std.specs.declared.alloc.AllocError.{AllocError}
use Rattle.bson_bytes.specs.declared.fault.Fault.{Fault}
use Rattle.bson_codec.specs.ReadErrors.{error_with_offset, IsReadFault, IsFaultWithoutMemory, IsStopInBytes}
use Rattle.bson_codec.specs.declared.de.Error.TheVariants as errors
use Rattle.bson_bytes.specs.declared.error.Error.{Error as CauseError}
use Rattle.bson_bytes.specs.declared.error.Error.TheVariants as causes
use Rattle.bson_bytes.specs.Source.{StopsReadingFor}
use Rattle.bson_bytes.specs.declared.stop.Stop.{Stop}
use Rattle.bson_bytes.specs.declared.stop.Stop.TheVariants as stops

pub same_ok : {Y : Type 0} (r : Result Y Fault) (x y : Y) → r ≡ Ok x → r ≡ Ok y → x ≡ y
same_ok r x y e f = cc

-- only memory may run out
abbrev pub Memory : Stop → Type 0
Memory e = e ≡ stops.OutOfMemory

-- what can be read is refused for memory alone
pub memory_alone : {Y : Type 0} (e : Stop) (bytes : List ℕ) (r : Result Y Fault) (y : Y) → StopsReadingFor Memory e r → r ≡ Ok y
    → error_with_offset e bytes ≡ errors.OutOfMemory
memory_alone (stops.Fault f) bytes r y s h = absurd cc
memory_alone stops.GaveUp bytes r y s h = refl
memory_alone stops.OutOfMemory bytes r y s h = refl

-- a fault that reading gives is in the bytes, where each of its faults does
pub stands : {Y : Type 0} (e : Stop) (bytes : List ℕ) (r : Result Y Fault)
    → ((f : Fault) → r ≡ Err f → f.bytes_to_end ≤ length bytes) → StopsReadingFor Memory e r → IsStopInBytes e bytes
stands (stops.Fault f) bytes r h s = h f s
stands stops.GaveUp bytes r h s = cc
stands stops.OutOfMemory bytes r h s = tt

pub fault_alone : {Y : Type 0} (f : Fault) (bytes : List ℕ) (r : Result Y Fault) → f.bytes_to_end ≤ length bytes → r ≡ Err f
    → IsFaultWithoutMemory (error_with_offset (stops.Fault f) bytes) bytes r
fault_alone f bytes r le e =
    let back : length bytes - f.bytes_to_end + f.bytes_to_end ≡ length bytes = omega (arith, le) in
    (f, e, refl, back)

pub fault_of : {Y : Type 0} (e : Stop) (bytes : List ℕ) (r : Result Y Fault) → IsStopInBytes e bytes → StopsReadingFor Memory e r
    → IsReadFault (error_with_offset e bytes) bytes r
fault_of (stops.Fault f) bytes r h s = fault_alone f bytes r h s
fault_of stops.GaveUp bytes r h s = tt
fault_of stops.OutOfMemory bytes r h s = tt

pub never : (P : Type 0) → (P → ⊥) → IsTrue false ↔ P
never P h = (λ e. absurd cc, λ x. absurd (h x))

-- bytes whose document has none are not its bytes
pub unless_written : (r : Result Bool AllocError) (e : CauseError) (P : Type 0)
    → IfOk r (λ b. (b ≡ false) × (e ≡ causes.OutOfMemory → ⊥)) → (P → e ≡ causes.OutOfMemory)
    → IfOk r (λ b. IsTrue b ↔ P)
unless_written (Ok b) e P h g = subst (λ (x : Bool). IsTrue x ↔ P) (sym h.0) (never P (λ x. h.1 (g x)))
unless_written (Err x) e P h g = tt
