use Rattle.std.proofs.Common.{Ok, ap, sym, ◌∙◌}
use Rattle.std.proofs.lemmas.Str.{is_utf8-from_IsUtf8}
use Rattle.bson_bytes.proofs.PartLaws.{utf8_again, utf8_refused}
use Rattle.bson_bytes.proofs.read_parts.check_utf8.Goals as goal

pub returns-in-Ok : goal.returns-in-Ok
returns-in-Ok c =
    utf8_again c.args.text.now c.args.bytes.now (is_utf8-from_IsUtf8 c.args.text.now c.in-Ok.ensures.cases.1)
    ∙ ap Ok (sym c.in-Ok.ensures.cases.0)

pub returns-in-Err : goal.returns-in-Err
returns-in-Err c = rw c.fault_at.ensures (utf8_refused c.args.text.now c.args.bytes.now c.in-Err.ensures.cases.0)
