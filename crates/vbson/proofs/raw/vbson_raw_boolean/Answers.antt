use Rattle.std.proofs.Common.{ap}
use Rattle.std.specs.Prelude.{option_map}
use Rattle.vbson.specs.Raw.{boolean_number}
use Rattle.vbson.proofs.RawValues.{boolean_bit, never_bit, typed_none, typed_other, typed_some}
use Rattle.vbson.proofs.raw.vbson_raw_boolean.Goals as goal

pub returns-in_default-clause-typed : goal.returns-in_default-clause-typed
returns-in_default-clause-typed c = λ d v h. typed_none boolean_bit never_bit v (c.in_default.ensures d v h) _

pub returns-clause-typed : goal.returns-clause-typed
returns-clause-typed c =
    λ d v h. typed_some boolean_bit _ v (c.in-Some.ensures d v h) _ _ (ap (option_map boolean_number) c.in-Some-as_bool.ensures) c.boolean_to_u32.ensures

pub returns-in_default-as_bool-clause-typed : goal.returns-in_default-as_bool-clause-typed
returns-in_default-as_bool-clause-typed c =
    λ d v h. typed_other boolean_bit _ v (c.in-Some.ensures d v h) (ap (option_map boolean_number) c.in_default-as_bool.ensures) _
