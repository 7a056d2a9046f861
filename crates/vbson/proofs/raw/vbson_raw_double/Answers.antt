use Rattle.std.proofs.Common.{refl}
use Rattle.bson_bytes.specs.TypedGetters.{double_value}
use Rattle.vbson.proofs.RawValues.{never_double, typed_none, typed_other, typed_some}
use Rattle.vbson.proofs.raw.vbson_raw_double.Goals as goal

pub returns-in_default-clause-typed : goal.returns-in_default-clause-typed
returns-in_default-clause-typed c = λ d v h. typed_none double_value never_double v (c.in_default.ensures d v h) _

pub returns-clause-typed : goal.returns-clause-typed
returns-clause-typed c =
    λ d v h. typed_some double_value _ v (c.in-Some.ensures d v h) _ _ c.in-Some-as_f64.ensures refl

pub returns-in_default-as_f64-clause-typed : goal.returns-in_default-as_f64-clause-typed
returns-in_default-as_f64-clause-typed c =
    λ d v h. typed_other double_value _ v (c.in-Some.ensures d v h) c.in_default-as_f64.ensures _
