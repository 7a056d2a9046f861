use Rattle.std.proofs.Common.{refl}
use Rattle.vbson.proofs.raw.vbson_raw_elements.Goals as goal

pub returns-in-Some-clause-begun : goal.returns-in-Some-clause-begun
returns-in-Some-clause-begun c = λ d ps h. (refl, (c.in-Some.ensures.elements d ps h).1)

pub returns-in-None-clause-begun : goal.returns-in-None-clause-begun
returns-in-None-clause-begun c = λ d ps h. absurd (c.in-None.ensures.elements d ps h).1
