use Rattle.std.specs.Prelude.{string_bytes}
use Rattle.bson_tokens.proofs.Offered.{text_read}
use Rattle.bson_convert.proofs.conversion_attempt.normalize.Goals as goal

pub returns-in-Ok-clause-same : goal.returns-in-Ok-clause-same
returns-in-Ok-clause-same c =
    text_read c.args.key_order c.args.text.now (string_bytes c.in-Ok.normalized) c.in-Ok.ensures.ok
