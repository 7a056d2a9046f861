-- The steps of readings and writings that succeed, and of tests that fail.
use Rattle.std.proofs.Common.{◌≡◌, Bool, true, false, ◌||◌, Result, Ok, Err, refl}
use Rattle.bson_scalar.specs.Faults.{Fault}
use Rattle.bson_scalar.specs.Faults as fault
use Rattle.bson_scalar.specs.Written.{WriteFault, ◌>>=◌}

-- both steps of a writing that succeeds do
pub bind_ok : {A B : Type 0} (r : Result A WriteFault) (f : A → Result B WriteFault) (y : B) → (r >>= f) ≡ Ok y
    → (x : A) × (r ≡ Ok x) × (f x ≡ Ok y)
bind_ok (Ok x) f y h = (x, refl, h)
bind_ok (Err e) f y h = cc

-- and of a reading
pub fault_bind_ok : {A B : Type 0} (r : Result A Fault) (f : A → Result B Fault) (y : B) → (fault.◌>>=◌ r f) ≡ Ok y
    → (x : A) × (r ≡ Ok x) × (f x ≡ Ok y)
fault_bind_ok (Ok x) f y h = (x, refl, h)
fault_bind_ok (Err e) f y h = cc

pub un_ok : {A E : Type 0} (x y : A) → ◌≡◌ {A = Result A E} (Ok x) (Ok y) → y ≡ x
un_ok x y h = cc

pub or_false : (a b : Bool) → a ≡ false → b ≡ false → (a || b) ≡ false
or_false a b h g = rw (h, g) refl

pub or_parts : (a b : Bool) → (a || b) ≡ false → (a ≡ false) × (b ≡ false)
or_parts true b h = cc
or_parts false b h = (refl, h)
