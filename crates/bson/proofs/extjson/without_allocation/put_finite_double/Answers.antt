use Rattle.std.proofs.Common.{sym, subst}
use Rattle.bson_double.specs.DoubleText.{IsDoubleText}
use Rattle.bson_scalar.proofs.Offered.{on_ok}
use Rattle.bson.proofs.extjson.without_allocation.put_finite_double.Goals as goal

pub returns-clause-put : goal.returns-clause-put
returns-clause-put c =
    on_ok c.put_text.result
    (λ wrote. (
      c.as_str.result.now,
      subst (IsDoubleText c.args.pattern) (sym c.as_str.ensures.value) c.double_text.ensures,
      wrote,
    ))
    c.put_text.ensures.put
