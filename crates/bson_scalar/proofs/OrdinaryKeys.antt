-- A key whose first byte is not `$` is no wrapper key.
use Rattle.std.proofs.Common.{◌≡◌, ℕ, List, [], ◌∷◌, false, None, refl, nat_eq, get_or}
use Rattle.bson_scalar.specs.Table.{wrapper_of}

pub ordinary : (key : List ℕ) → nat_eq (get_or key 0 0) 36 ≡ false → wrapper_of key ≡ None
ordinary [] h = refl
ordinary (x ∷ xs) h = rw h refl
