use Rattle.std.proofs.Common.{refl}
use Rattle.vbson.proofs.RawValues.{next_none, next_some}
use Rattle.vbson.proofs.raw.vbson_raw_next.Goals as goal

pub returns-in-Some-clause-next_element : goal.returns-in-Some-clause-next_element
returns-in-Some-clause-next_element c =
    λ d ps h. next_some d ps c.in-Some.element _ _ _ (c.in-Some.ensures.is_first_element d ps h) c.value_of.ensures c.in-Some.ensures.rest_in_value refl refl

pub returns-in-None-clause-next_element : goal.returns-in-None-clause-next_element
returns-in-None-clause-next_element c = λ d ps h. next_none d ps _ _ _ (c.in-None.ensures.is_first_element d ps h)
