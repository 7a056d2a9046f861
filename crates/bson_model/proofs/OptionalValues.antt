-- Answers that are there, and keys that differ.
use Rattle.std.proofs.Common.{◌≡◌, ℕ, List, Bool, true, false, Option, Some, None, option_map, option_and_then, refl}
use Rattle.std.proofs.Common.{sym}
use Rattle.std.proofs.lemmas.Slice.Eq.{bytes_eq-Decides}
use Rattle.std.specs.Str.{bytes_eq}

pub un_some : {A : Type 0} (x y : A) → Some x ≡ Some y → x ≡ y
un_some x y h = cc

pub mapped : {A B : Type 0} (f : A → B) (o : Option A) (y : B) → option_map f o ≡ Some y
    → (x : A) × (o ≡ Some x) × (f x ≡ y)
mapped f (Some x) y h = (x, refl, un_some _ _ h)
mapped f None y h = absurd cc

pub after : {A B : Type 0} (f : A → Option B) (o : Option A) (y : B) → option_and_then f o ≡ Some y
    → (x : A) × (o ≡ Some x) × (f x ≡ Some y)
after f (Some x) y h = (x, refl, h)
after f None y h = absurd cc

pub same_bytes : (k l : List ℕ) → bytes_eq k l ≡ true → k ≡ l
same_bytes k l h = (bytes_eq-Decides k l).0 h

turned_at : (b : Bool) (k l : List ℕ) → bytes_eq l k ≡ b → bytes_eq k l ≡ false → b ≡ false
turned_at false k l h differ = refl
turned_at true k l h differ = let yes : bytes_eq k l ≡ true = (bytes_eq-Decides k l).1 (sym (same_bytes l k h)) in cc

-- keys that differ do so either way round
pub turned : (k l : List ℕ) → bytes_eq k l ≡ false → bytes_eq l k ≡ false
turned k l differ = turned_at (bytes_eq l k) k l refl differ
