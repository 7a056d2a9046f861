use Rattle.bson_bytes.specs.TypedGetters.{string_value}
use Rattle.vbson.proofs.RawValues.{never_string, typed_none, typed_other, typed_some}
use Rattle.vbson.proofs.raw.vbson_raw_string.Goals as goal

pub returns-in_default-clause-typed : goal.returns-in_default-clause-typed
returns-in_default-clause-typed c = λ d v h. typed_none string_value never_string v (c.in_default.ensures d v h) _

pub returns-clause-typed : goal.returns-clause-typed
returns-clause-typed c =
    λ d v h. typed_some string_value _ v (c.in-Some.ensures d v h) _ _ c.in-Some-as_str.ensures c.as_bytes.ensures.value

pub returns-in_default-as_str-clause-typed : goal.returns-in_default-as_str-clause-typed
returns-in_default-as_str-clause-typed c =
    λ d v h. typed_other string_value _ v (c.in-Some.ensures d v h) c.in_default-as_str.ensures _
