use Rattle.std.proofs.Common.{arith, subst}
use Rattle.std.specs.Prelude.{IsUtf8}
use Rattle.bson_tokens.specs.TextErrors.{IsTextPlaceIn}
use Rattle.bson_convert.proofs.Normalized.{accepted_in_order}
use Rattle.bson_convert.proofs.check.check_tokens.Goals as goal

pub returns-in-Ok-clause-ok : goal.returns-in-Ok-clause-ok
returns-in-Ok-clause-ok c =
    let text = c.args.text.now in
    let utf8 : IsUtf8 text = grind arith in
    accepted_in_order c.args.options text c.in-Ok.ensures.ok.0 utf8 c.in-Ok.ensures.ok.1

pub returns-in-Ok-None-clause-ok : goal.returns-in-Ok-None-clause-ok
returns-in-Ok-None-clause-ok c =
    let D = c.args.options.doubles in
    let text = c.args.text.now in
    let utf8 : IsUtf8 text = grind arith in
    let found = subst (IsTextPlaceIn D text) c.in-Ok-None.field-0-is c.in-Ok-None.ensures.place in
    (found.0, found.2.0, record { utf8 = utf8; tree_read = found.1 }, found.2.1)
