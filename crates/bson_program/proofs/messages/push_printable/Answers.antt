use Rattle.bson_program.proofs.Verdicts.{escape_goes_on}
use Rattle.bson_program.proofs.messages.push_printable.Goals as goal

pub loop-escaped_char-preserved : goal.loop-escaped_char-preserved
loop-escaped_char-preserved c =
    escape_goes_on _ _ _ c.in-Some.escaped_char _ _ _ c.next.ensures.steps c.in-Some.is c.loop-escaped_char.invariant
    c.in_ok-push.ensures.bytes
