use Rattle.std.proofs.Common.{arith}
use Rattle.vbson.proofs.documents.vbson_is_document.Goals as goal

pub returns-in-Err-clause-success : goal.returns-in-Err-clause-success
returns-in-Err-clause-success c = (λ is. absurd (omega (arith, is)), λ h. absurd (c.in-Err.ensures.only h.0 h.1))
