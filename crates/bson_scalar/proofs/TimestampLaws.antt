-- `$timestamp`.
use Rattle.std.proofs.Common.{◌≡◌, ◌<◌, ◌^◌, ℕ, true, nat_lt, Some, Ok, refl, arith}
use Rattle.std.proofs.lemmas.Bool.{lt-ltb}
use Rattle.std.specs.Prelude.{codes}
use Rattle.serde_json.specs.Data.{Data}
use Rattle.bson_scalar.specs.Means.{MeansScalar, timestamp}
use Rattle.bson_scalar.specs.Reading.{timestamp_read}
use Rattle.bson_scalar.specs.Scalar.{Scalar}
use Rattle.bson_scalar.specs.TreeParts.{u32_at, one_key_object, natural}
use Rattle.bson_scalar.proofs.InverseLemmas.{means_by, un_ok, some_then, two_then}

pub timestamp_from : (d : Data) (x : Scalar) → timestamp_read d ≡ Ok x
    → MeansScalar (one_key_object (codes "$timestamp") d) x
timestamp_from d x h =
    let a = two_then (codes "i") (codes "t") d _ x h in
    let i = some_then (u32_at a.0) _ x a.3 in
    let t = some_then (u32_at a.1) _ x i.2 in
    means_by (codes "$timestamp") d _ x _ a.2 (un_ok _ _ t.2) (timestamp a.0 a.1 i.0 t.0 i.1 t.1)

pub natural_again : (n : ℕ) → n < 2 ^ 32 → u32_at (natural n) ≡ Some n
natural_again n h =
    let a : nat_lt n (2 ^ 63) ≡ true = lt-ltb n _ (omega arith) in
    let b : nat_lt n (2 ^ 32) ≡ true = lt-ltb n _ h in
    rw (a, b) refl
