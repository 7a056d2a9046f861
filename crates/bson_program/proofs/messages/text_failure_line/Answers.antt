use Rattle.std.proofs.Common.{append_assoc, refl, string_bytes}
use Rattle.bson_program.proofs.Telling.{parts}
use Rattle.bson_program.proofs.messages.text_failure_line.Goals as goal

pub returns : goal.returns
returns c =
    parts c.format.result (string_bytes c.in_ok-prefix.prefix) c.message-message.result.now c.args.position_message.now _ _ _
    (simp append_assoc c.format.ensures.ok) c.in_ok-prefix.ensures c.message-message.ensures.words refl
