use Rattle.std.proofs.Common.{rules, FitsSigned, w64, to_z-of_z}
use Rattle.bson_bytes.specs.TypedGetters.{int64_value}
use Rattle.vbson.proofs.RawValues.{never_int64, typed_none, typed_other, typed_some}
use Rattle.vbson.proofs.raw.vbson_raw_int64.Goals as goal

pub returns-in_default-clause-typed : goal.returns-in_default-clause-typed
returns-in_default-clause-typed c = λ d v h. typed_none int64_value never_int64 v (c.in_default.ensures d v h) _

pub returns-clause-typed : goal.returns-clause-typed
returns-clause-typed c =
    let fits : FitsSigned w64 c.in-Some-as_i64.number = search rules in
    λ d v h. typed_some int64_value _ v (c.in-Some.ensures d v h) _ _ c.in-Some-as_i64.ensures (to_z-of_z fits)

pub returns-in_default-as_i64-clause-typed : goal.returns-in_default-as_i64-clause-typed
returns-in_default-as_i64-clause-typed c =
    λ d v h. typed_other int64_value _ v (c.in-Some.ensures d v h) c.in_default-as_i64.ensures _
