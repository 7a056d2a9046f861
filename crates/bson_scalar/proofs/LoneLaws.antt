-- `$minKey`, `$maxKey` and `$undefined`.
use Rattle.std.proofs.Common.{◌≡◌, ℤ, pos, negsuc, Bool, true, false, cond, Option, Some, None, Result, Ok, Err, refl}
use Rattle.std.proofs.Common.{ap}
use Rattle.std.proofs.lemmas.Bool.{eqb-true}
use Rattle.std.specs.Prelude.{codes}
use Rattle.serde_json.specs.Data.{Data}
use Rattle.serde_json.specs.Data as tree
use Rattle.bson_scalar.specs.Faults.{Fault, wrong_shape}
use Rattle.bson_scalar.specs.Means.{MeansScalar, min_key, max_key, undefined}
use Rattle.bson_scalar.specs.Reading.{number_one_read, is_number_one, undefined_read}
use Rattle.bson_scalar.specs.Scalar.{Scalar}
use Rattle.bson_scalar.specs.Scalar as kind
use Rattle.bson_scalar.specs.TreeParts.{i64_at, one_key_object}
use Rattle.bson_scalar.proofs.InverseLemmas.{means_by, un_ok}

if_ok : (b : Bool) (y x : Scalar) → ◌≡◌ {A = Result Scalar Fault} (cond b (Ok y) (Err wrong_shape)) (Ok x)
    → (b ≡ true) × (x ≡ y)
if_ok true y x h = (refl, un_ok _ _ h)
if_ok false y x h = cc

one_is : (o : Option ℤ) → is_number_one o ≡ true → o ≡ Some (pos 1)
one_is (Some (pos n)) h = ap (λ m. Some (pos m)) (eqb-true n 1 h)
one_is (Some (negsuc n)) h = cc
one_is None h = cc

pub min_key_from : (d : Data) (x : Scalar) → number_one_read kind.min_key d ≡ Ok x
    → MeansScalar (one_key_object (codes "$minKey") d) x
min_key_from d x h = let t = if_ok _ kind.min_key x h in
    means_by (codes "$minKey") d d x _ refl t.1 (min_key d (one_is (i64_at d) t.0))

pub max_key_from : (d : Data) (x : Scalar) → number_one_read kind.max_key d ≡ Ok x
    → MeansScalar (one_key_object (codes "$maxKey") d) x
max_key_from d x h = let t = if_ok _ kind.max_key x h in
    means_by (codes "$maxKey") d d x _ refl t.1 (max_key d (one_is (i64_at d) t.0))

pub undefined_from : (d : Data) (x : Scalar) → undefined_read d ≡ Ok x
    → MeansScalar (one_key_object (codes "$undefined") d) x
undefined_from tree.null x h = cc
undefined_from (tree.boolean b) x h = let t = if_ok b kind.undefined x h in
    means_by (codes "$undefined") (tree.boolean b) (tree.boolean true) x _ (ap tree.boolean t.0) t.1 undefined
undefined_from (tree.number n) x h = cc
undefined_from (tree.string s) x h = cc
undefined_from (tree.array ds) x h = cc
undefined_from (tree.object ms) x h = cc
