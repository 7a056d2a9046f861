use Rattle.std.proofs.Common.{sym, subst}
use Rattle.bson_datetime.specs.Rfc3339Grammar.{DenotesDateTime}
use Rattle.vbson.proofs.scalars.vbson_date_time_parse.Goals as goal

pub returns-in-Err-clause-no_such_text : goal.returns-in-Err-clause-no_such_text
returns-in-Err-clause-no_such_text c z u ms p =
    c.in-Err.ensures.refused.1 ms (subst (λ t. DenotesDateTime t ms) (sym c.in-Ok.ensures.cases.0) p)
