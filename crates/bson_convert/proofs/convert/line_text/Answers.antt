use Rattle.bson_convert.proofs.Normalized.{accepted}
use Rattle.bson_convert.proofs.convert.line_text.Goals as goal

pub returns-clause-accepts : goal.returns-clause-accepts
returns-clause-accepts c = λ t v is means.
    let bytes = c.args.bytes.now in
    accepted c.args.options bytes t v is means c.finish_attempt.result (c.finish_attempt.ensures.fault bytes c.in_ok-attempt.ensures.ok)
