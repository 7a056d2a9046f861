use Rattle.std.proofs.Common.{◌≡◌, IfErr, arith, subst}
use Rattle.bson_convert.proofs.Normalized.{accepted}
use Rattle.bson_convert.specs.Convert.{IsRejectedIn}
use Rattle.bson_convert.proofs.check.check_line.Goals as goal

pub returns-clause-accepts : goal.returns-clause-accepts
returns-clause-accepts c = λ t v is means.
    let o = c.args.options in
    let bytes = c.args.bytes.now in
    let same : c.in-Ok.text.now ≡ bytes = grind arith in
    accepted o bytes t v is means c.check_tokens.result
    (subst (λ text. IfErr c.check_tokens.result (λ fault. IsRejectedIn o fault text)) same c.check_tokens.ensures.fault)
