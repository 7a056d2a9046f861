-- The bytes after a part that was read.
use Rattle.std.proofs.Common.{◌≡◌, ℕ, true, List, Some, None, Result, Ok, Err, refl, sym, ap}
use Rattle.std.specs.Str.{is_utf8}
use Rattle.bson_bytes.specs.declared.fault.Fault.{Fault}
use Rattle.bson_bytes.specs.declared.fault.FaultKind.TheVariants.{Short}
use Rattle.bson_bytes.specs.Fault.{fault_at}
use Rattle.bson_bytes.specs.Reading.{bytes_after, read_name, split_at_nul}
use Rattle.bson_bytes.proofs.PartLaws.{ok_is}

pub record Behind {A : Type 0} (r : Result (A × List ℕ) Fault) (rest : List ℕ) : Type 0 where
  pub value : A
  pub read : r ≡ Ok (value, rest)

pub passed_ok : {A : Type 0} (r : Result (A × List ℕ) Fault) (rest : List ℕ) → bytes_after r ≡ Ok rest → Behind r rest
passed_ok (Ok x) rest e =
    record { value = x.0; read = ap (λ (c : List ℕ). Ok (x.0, c)) (ok_is x.1 rest e) }
passed_ok (Err f) rest e = absurd cc

pub passed_err : {A : Type 0} (r : Result (A × List ℕ) Fault) (f : Fault) → bytes_after r ≡ Err f → r ≡ Err f
passed_err (Ok x) f e = absurd cc
passed_err (Err g) f e = cc

pub passed_name : (bytes s rest : List ℕ) → Some (s, rest) ≡ split_at_nul bytes → is_utf8 s ≡ true
    → bytes_after (read_name bytes) ≡ Ok rest
unfolding read_name
passed_name bytes s rest split u = rw (sym split, u) refl

pub passed_short : (bytes : List ℕ) → None ≡ split_at_nul bytes → bytes_after (read_name bytes) ≡ Err (fault_at Short bytes)
unfolding read_name
passed_short bytes none = rw (sym none) refl
