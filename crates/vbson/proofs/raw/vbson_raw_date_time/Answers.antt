use Rattle.std.proofs.Common.{rules, FitsSigned, w64, to_z-of_z, ◌∙◌}
use Rattle.bson_bytes.specs.TypedGetters.{date_value}
use Rattle.vbson.proofs.RawValues.{never_date_time, typed_none, typed_other, typed_some}
use Rattle.vbson.proofs.raw.vbson_raw_date_time.Goals as goal

pub returns-in_default-clause-typed : goal.returns-in_default-clause-typed
returns-in_default-clause-typed c = λ d v h. typed_none date_value never_date_time v (c.in_default.ensures d v h) _

pub returns-clause-typed : goal.returns-clause-typed
returns-clause-typed c =
    let fits : FitsSigned w64 c.timestamp_millis.result = search rules in
    λ d v h. typed_some date_value _ v (c.in-Some.ensures d v h) _ _ c.in-Some-as_datetime.ensures (to_z-of_z fits ∙ c.timestamp_millis.ensures.value)

pub returns-in_default-as_datetime-clause-typed : goal.returns-in_default-as_datetime-clause-typed
returns-in_default-as_datetime-clause-typed c =
    λ d v h. typed_other date_value _ v (c.in-Some.ensures d v h) c.in_default-as_datetime.ensures _
