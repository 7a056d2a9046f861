use Rattle.std.proofs.Common.{◌≡◌, Option, Some, None, refl, sym}
use Rattle.bson_scalar.proofs.dates.date_of_rfc3339.Goals as goal

none_of : {A : Type 0} (o : Option A) → ((x : A) → ¬ (o ≡ Some x)) → None ≡ o
none_of None h = refl
none_of (Some x) h = absurd (h x refl)

pub returns-in-Ok : goal.returns-in-Ok
returns-in-Ok c = sym ((c.parse_rfc3339_str.ensures.grammar _).1 c.in-Ok.ensures.ok)

pub returns-in-Err : goal.returns-in-Err
returns-in-Err c = none_of _ (λ ms is. c.in-Err.ensures.refused.1 ms ((c.parse_rfc3339_str.ensures.grammar ms).0 is))
