use Rattle.std.proofs.Common.{rules, FitsSigned, w32, to_z-of_z}
use Rattle.bson_bytes.specs.TypedGetters.{int32_value}
use Rattle.vbson.proofs.RawValues.{never_int32, typed_none, typed_other, typed_some}
use Rattle.vbson.proofs.raw.vbson_raw_int32.Goals as goal

pub returns-in_default-clause-typed : goal.returns-in_default-clause-typed
returns-in_default-clause-typed c = λ d v h. typed_none int32_value never_int32 v (c.in_default.ensures d v h) _

pub returns-clause-typed : goal.returns-clause-typed
returns-clause-typed c =
    let fits : FitsSigned w32 c.in-Some-as_i32.number = search rules in
    λ d v h. typed_some int32_value _ v (c.in-Some.ensures d v h) _ _ c.in-Some-as_i32.ensures (to_z-of_z fits)

pub returns-in_default-as_i32-clause-typed : goal.returns-in_default-as_i32-clause-typed
returns-in_default-as_i32-clause-typed c =
    λ d v h. typed_other int32_value _ v (c.in-Some.ensures d v h) c.in_default-as_i32.ensures _
