use Rattle.std.proofs.Common.{rules}
use Rattle.vbson.proofs.Rejected.{first}
use Rattle.vbson.proofs.lines.first_rejected.Goals as goal

-- the run stopped at a rejected line
pub returns-clause-rejected : goal.returns-clause-rejected
returns-clause-rejected c = λ ok. search (rules, first, c.in-Err.ensures.fails)
