-- Bytes with their ignored bits zero.
use Rattle.std.proofs.Common.{◌≡◌, ◌-◌, ◌*◌, ◌/◌, ◌%◌, ◌^◌, ℕ, List, [], ◌∷◌, length, length-set, set, get_or, refl}
use Rattle.std.proofs.Common.{sym, ap, ◌∙◌, arith}
use Rattle.std.proofs.Math.Nat.{mul-mod_left, zero-mod}
use Rattle.std.proofs.lemmas.List.{get_or-set_same, set-get_or}
use Rattle.std.proofs.lemmas.Nat.{shr_split}
use Rattle.bson_types.specs.IgnoredBits.{cleared_bytes, ignored_bits, last_byte}
use Rattle.std.specs.Prelude.{Result, Ok, Err, IfOk}
use Rattle.bson_types.specs.declared.binary.Error.{Error}
use Rattle.bson_types.specs.declared.vector.Vector.{Vector}
use Rattle.bson_types.specs.VectorBytes.{vector_bytes, vector_with_cleared_bits}
use Rattle.bson_types.specs.VectorData.{VectorData, IsDataInRange, IsOnlyDataOf, data_bytes, int8, float32, packed}
use Rattle.bson_types.specs.VectorData.{vector_data}
use Rattle.bson_types.proofs.VectorLaws.{only_one, same_bytes}

-- as many bytes
cleared_bytes-length : (bytes : List ℕ) (padding : ℕ) → length (cleared_bytes bytes padding) ≡ length bytes
cleared_bytes-length bytes padding = length-set bytes (length bytes - 1) _

-- whose ignored bits are zero
pub cleared_bytes-zero : (bytes : List ℕ) (padding : ℕ) → ignored_bits (cleared_bytes bytes padding) padding ≡ 0
cleared_bytes-zero [] padding = zero-mod (2 ^ padding)
cleared_bytes-zero (b ∷ bs) padding =
    let bytes = b ∷ bs in
    let high = last_byte bytes / 2 ^ padding * 2 ^ padding in
    let last : last_byte (cleared_bytes bytes padding) ≡ high =
    ap (λ n. get_or (cleared_bytes bytes padding) (n - 1) 0) (cleared_bytes-length bytes padding)
    ∙ get_or-set_same bytes (length bytes - 1) high 0 (omega arith) in
    ap (λ n. n % 2 ^ padding) last ∙ mul-mod_left (last_byte bytes / 2 ^ padding) (2 ^ padding)

-- bytes whose ignored bits are zero stay as they are
pub cleared_bytes-same : (bytes : List ℕ) (padding : ℕ) → ignored_bits bytes padding ≡ 0
    → cleared_bytes bytes padding ≡ bytes
cleared_bytes-same bytes padding zeros =
    let high : last_byte bytes / 2 ^ padding * 2 ^ padding ≡ last_byte bytes =
    omega (arith, shr_split (last_byte bytes) padding) in
    ap (set bytes (length bytes - 1)) high ∙ set-get_or bytes (length bytes - 1) 0

-- and so do those of each vector
vector_with_cleared_bits-same : (v : VectorData) → IsDataInRange v → vector_with_cleared_bits (data_bytes v) ≡ data_bytes v
vector_with_cleared_bits-same (int8 zs) range = refl
vector_with_cleared_bits-same (float32 ns) range = refl
vector_with_cleared_bits-same (packed bytes padding) range =
    ap (λ bs. 16 ∷ padding ∷ bs) (cleared_bytes-same bytes padding range.2)

-- a vector that was read in bytes is the only one of the cleared_bytes bytes, since these are the same
pub only_one-unchanged : (r : Result Vector Error) (bytes : List ℕ) → IfOk r (λ v. vector_bytes v ≡ bytes)
    → IfOk r (λ v. IsDataInRange (vector_data v))
    → IfOk r (λ v. IsOnlyDataOf (vector_with_cleared_bits bytes) (vector_data v))
only_one-unchanged (Ok v) bytes is range =
    let same : data_bytes (vector_data v) ≡ bytes = same_bytes v ∙ is in
    let unchanged : vector_with_cleared_bits bytes ≡ bytes = ap vector_with_cleared_bits (sym same)
    ∙ vector_with_cleared_bits-same (vector_data v) range ∙ same in
    only_one v (vector_with_cleared_bits bytes) range (is ∙ sym unchanged)
only_one-unchanged (Err e) bytes is range = tt
