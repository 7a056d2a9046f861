use Rattle.bson_bytes.specs.TypedGetters.{object_id_value}
use Rattle.vbson.proofs.RawValues.{never_object_id, typed_none, typed_other, typed_some}
use Rattle.vbson.proofs.raw.vbson_raw_object_id.Goals as goal

pub returns-in_default-clause-typed : goal.returns-in_default-clause-typed
returns-in_default-clause-typed c = λ d v h. typed_none object_id_value never_object_id v (c.in_default.ensures d v h) _

pub returns-clause-typed : goal.returns-clause-typed
returns-clause-typed c =
    λ d v h. typed_some object_id_value _ v (c.in-Some.ensures d v h) _ _ c.in-Some-as_object_id.ensures c.bytes.ensures.value

pub returns-in_default-as_object_id-clause-typed : goal.returns-in_default-as_object_id-clause-typed
returns-in_default-as_object_id-clause-typed c =
    λ d v h. typed_other object_id_value _ v (c.in-Some.ensures d v h) c.in_default-as_object_id.ensures _
