use Rattle.std.proofs.Common.{◌∙◌}
use Rattle.std.specs.Int.{w16}
use Rattle.std.proofs.lemmas.Int.{to_z-of_z}
use Rattle.bson_decimal.proofs.TextLemmas.{exponent-read, exponent-unread}
use Rattle.bson_decimal.proofs.parse.exponent_value.Goals as goal

pub returns-in_default-clause-value : goal.returns-in_default-clause-value
returns-in_default-clause-value c = exponent-unread c.args.text.now c.in_default.ensures.value.0

pub returns-clause-value : goal.returns-clause-value
returns-clause-value c =
    let h = c.in-Ok.ensures.value in
    let fits = rw (← h.0.1) at h.0.0.1 in
    exponent-read c.args.text.now c.from.result h.0.0 (c.from.ensures ∙ to_z-of_z w16 _ fits ∙ h.0.1)
