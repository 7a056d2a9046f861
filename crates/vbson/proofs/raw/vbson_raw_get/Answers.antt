use Rattle.std.proofs.Common.{◌-◌}
use Rattle.vbson.proofs.RawValues.{got_none, got_some}
use Rattle.vbson.proofs.raw.vbson_raw_get.Goals as goal

pub returns-in-Some-clause-lookup_result : goal.returns-in-Some-clause-lookup_result
returns-in-Some-clause-lookup_result c =
    λ d ps h. got_some (d - 1) _ c.in-Some.element _ (c.in-Some.ensures.last_value d ps h).1 c.value_of.ensures c.in-Some.ensures.rest_in_value

pub returns-in-None-clause-lookup_result : goal.returns-in-None-clause-lookup_result
returns-in-None-clause-lookup_result c = λ d ps h. got_none (d - 1) _ _ (c.in-None.ensures.last_value d ps h).1
