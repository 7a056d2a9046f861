-- The bytes of a vector determine its data.
use Rattle.std.proofs.Common.{◌≡◌, ◌<◌, ◌≤◌, ◌^◌, ◌%◌, ◌-◌, ℕ, ℤ, List, [], ◌∷◌, length, map, get_or, take, drop, false}
use Rattle.std.proofs.Common.{refl, sym, ap, ap₂, ◌∙◌, arith, w8, w32, Fits, FitsSigned, suc}
use Rattle.std.specs.Int.{cast_signed, cast_unsigned, from_le_bytes}
use Rattle.std.specs.List.{AllByRecursion}
use Rattle.std.proofs.lemmas.Int.{to_z-of_z, of_z-to_z}
use Rattle.std.proofs.Math.Facts.{sfits_to_z}
use Rattle.std.proofs.lemmas.Nat.{from_le_bytes-to_le_bytes_4}
use Rattle.std.proofs.Math.Seq.{take-length}
use Rattle.std.specs.Prelude.{Result, Ok, Err, IfOk, OnOk}
use Rattle.bson_types.specs.declared.binary.Error.{Error}
use Rattle.bson_types.specs.declared.vector.Vector.{Vector}
use Rattle.bson_types.specs.declared.vector.Vector.TheVariants.{Int8, Float32, PackedBit}
use Rattle.bson_types.specs.ObjectIds.{IsBytes}
use Rattle.bson_types.specs.VectorBytes.{is_vector_with_any_ignored_bits, u32_le_bytes, vector_bytes}
use Rattle.bson_types.specs.VectorData.{VectorData, IsDataInRange, IsOnlyDataOf, data_bytes, data_in_range, vector_data, int8}
use Rattle.bson_types.specs.VectorData.{float32, packed}

head_is : {X : Type 0} (x y : X) (xs ys : List X) → x ∷ xs ≡ y ∷ ys → x ≡ y
head_is x y xs ys h = cc

tail_is : {X : Type 0} (x y : X) (xs ys : List X) → x ∷ xs ≡ y ∷ ys → xs ≡ ys
tail_is x y xs ys h = cc

signed_back : (zs : List ℤ) → AllByRecursion (FitsSigned w8) zs → map (cast_signed w8) (map (cast_unsigned w8) zs) ≡ zs
signed_back [] h = refl
signed_back (z ∷ zs) h = let first : cast_signed w8 (cast_unsigned w8 z) ≡ z = to_z-of_z w8 z h.0 in
    rw first (ap (λ ys. z ∷ ys) (signed_back zs h.1))

-- words from their bytes
abbrev pub words : List ℕ → List ℕ
words (a ∷ b ∷ c ∷ d ∷ rest) = from_le_bytes w32 (a ∷ b ∷ c ∷ d ∷ []) ∷ words rest
words _ = []

words_back : (ns : List ℕ) → AllByRecursion (λ n. n < 2 ^ 32) ns → words (u32_le_bytes ns) ≡ ns
words_back [] h = refl
words_back (n ∷ ns) h = ap₂ (λ x xs. x ∷ xs) (from_le_bytes-to_le_bytes_4 n h.0) (words_back ns h.1)

-- bytes are their first two, and the rest
pub parts : (xs : List ℕ) → 2 ≤ length xs → get_or xs 0 0 ∷ get_or xs 1 0 ∷ take (length xs - 2) (drop 2 xs) ≡ xs
parts (x ∷ y ∷ rest) h =
    let left : length (x ∷ y ∷ rest) - 2 ≡ length rest = omega arith in
    rw (left, take-length rest) refl
parts [] h = absurd (omega arith)
parts (x ∷ []) h = absurd (omega arith)

-- a single byte is no vector, nor is none
pub short : (xs : List ℕ) → length xs < 2 → is_vector_with_any_ignored_bits xs ≡ false
short [] h = refl
short (x ∷ []) h = refl
short (x ∷ y ∷ rest) h = absurd (omega arith)

two_off : (a b c d : ℕ) (xs ys : List ℕ) → a ∷ b ∷ xs ≡ c ∷ d ∷ ys → xs ≡ ys
two_off a b c d xs ys h = tail_is b d xs ys (tail_is a c (b ∷ xs) (d ∷ ys) h)

-- numbers of four bytes each
pub le_bytes_of-whole : (ns : List ℕ) → length (u32_le_bytes ns) % 4 ≡ 0
le_bytes_of-whole [] = refl
le_bytes_of-whole (n ∷ ns) = omega (arith, le_bytes_of-whole ns)

pub ruleset vector_lemmas = (le_bytes_of-whole)

-- one vector has these bytes
pub one_vector : (v w : VectorData) → IsDataInRange v → IsDataInRange w → data_bytes v ≡ data_bytes w → v ≡ w
one_vector (int8 xs) (int8 ys) p q h =
    let e = two_off _ _ _ _ _ _ h in
    ap int8 (sym (signed_back xs p) ∙ ap (map (cast_signed w8)) e ∙ signed_back ys q)
one_vector (float32 xs) (float32 ys) p q h =
    let e = two_off _ _ _ _ _ _ h in
    ap float32 (sym (words_back xs p) ∙ ap words e ∙ words_back ys q)
one_vector (packed xs j) (packed ys k) p q h =
    let a = tail_is _ _ _ _ h in
    ap₂ packed (tail_is _ _ _ _ a) (head_is _ _ _ _ a)
one_vector (int8 xs) (float32 ys) p q h = let e : 3 ≡ 39 = head_is 3 39 _ _ h in absurd (omega (arith, e))
one_vector (int8 xs) (packed ys k) p q h = let e : 3 ≡ 16 = head_is 3 16 _ _ h in absurd (omega (arith, e))
one_vector (float32 xs) (int8 ys) p q h = let e : 39 ≡ 3 = head_is 39 3 _ _ h in absurd (omega (arith, e))
one_vector (float32 xs) (packed ys k) p q h = let e : 39 ≡ 16 = head_is 39 16 _ _ h in absurd (omega (arith, e))
one_vector (packed xs j) (int8 ys) p q h = let e : 16 ≡ 3 = head_is 16 3 _ _ h in absurd (omega (arith, e))
one_vector (packed xs j) (float32 ys) p q h = let e : 16 ≡ 39 = head_is 16 39 _ _ h in absurd (omega (arith, e))

-- both ways to write them
pub same_bytes : (v : Vector) → data_bytes (vector_data v) ≡ vector_bytes v
same_bytes (Int8 v) = refl
same_bytes (Float32 v) = refl
same_bytes (PackedBit v) = refl

-- a vector in range is the only one of its bytes
pub only_one : (v : Vector) (bytes : List ℕ) → IsDataInRange (vector_data v) → vector_bytes v ≡ bytes
    → IsOnlyDataOf bytes (vector_data v)
only_one v bytes range is =
    λ w in_range same. one_vector w (vector_data v) in_range range (same ∙ sym is ∙ sym (same_bytes v))

-- and so it is with one that was read
pub only_one-read : (r : Result Vector Error) (bytes : List ℕ) → IfOk r (λ v. vector_bytes v ≡ bytes)
    → IfOk r (λ v. IsDataInRange (vector_data v)) → IfOk r (λ v. IsOnlyDataOf bytes (vector_data v))
only_one-read (Ok v) bytes is range = only_one v bytes range is
only_one-read (Err e) bytes is range = tt

-- ---- what a vector holds, each number in the range of its type

fits_byte : (n : ℕ) → n < 256 → Fits w8 n
fits_byte n small = record { fits = small }

-- bytes and their signed forms
pub held_range : (ns : List ℕ) → IsBytes ns → AllByRecursion (FitsSigned w8) (map (cast_signed w8) ns)
held_range [] are = tt
held_range (n ∷ ns) are = (sfits_to_z (fits_byte n (are 0)), held_range ns (λ i. are (suc i)))

int8_held : (zs : List ℤ) → IsBytes (map (cast_unsigned w8) zs)
    → IsDataInRange (int8 (map (cast_signed w8) (map (cast_unsigned w8) zs)))
int8_held zs are = held_range (map (cast_unsigned w8) zs) are

pub int8_held_ok : {X Y : Type 0} (r : Result X Y) (zs : List ℤ) → OnOk r (IsBytes (map (cast_unsigned w8) zs))
    → OnOk r (IsDataInRange (int8 (map (cast_signed w8) (map (cast_unsigned w8) zs))))
int8_held_ok (Ok x) zs are = int8_held zs are
int8_held_ok (Err e) zs are = tt

pub held_back : (ns : List ℕ) → IsBytes ns → map (cast_unsigned w8) (map (cast_signed w8) ns) ≡ ns
held_back [] are = refl
held_back (n ∷ ns) are =
    let first : cast_unsigned w8 (cast_signed w8 n) ≡ n = of_z-to_z w8 n (fits_byte n (are 0)).fits in
    rw first (ap (λ xs. n ∷ xs) (held_back ns (λ i. are (suc i))))

-- the bytes after the first two
two_less : (x y : ℕ) (ns : List ℕ) → IsBytes (x ∷ y ∷ ns) → IsBytes ns
two_less x y ns are = λ i. are (suc (suc i))

same_held : (v : Vector) → IsBytes (vector_bytes v) → data_bytes (data_in_range v) ≡ vector_bytes v
same_held (Int8 v) are = ap (λ xs. 3 ∷ 0 ∷ xs) (held_back (map (cast_unsigned w8) v.items) (two_less 3 0 _ are))
same_held (Float32 v) are = refl
same_held (PackedBit v) are = refl

-- a vector is the only one of its bytes
pub only_held : (v : Vector) (bytes : List ℕ) → IsBytes bytes → IsDataInRange (data_in_range v) → vector_bytes v ≡ bytes
    → IsOnlyDataOf bytes (data_in_range v)
only_held v bytes are range is =
    let back = same_held v (rw is are) in
    λ w in_range same. one_vector w (data_in_range v) in_range range (same ∙ sym is ∙ sym back)
