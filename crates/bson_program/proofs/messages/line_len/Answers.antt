use Rattle.std.proofs.Common.{sym, ◌∙◌}
use Rattle.bson_program.proofs.Verdicts.{line_to, line_whole}
use Rattle.bson_program.proofs.messages.line_len.Goals as goal

pub returns-in-Some : goal.returns-in-Some
returns-in-Some c = line_to c.args.bytes.now c.in-Some.newline_offset (sym c.first_newline.ensures ∙ c.in-Some.is)

pub returns-in-None : goal.returns-in-None
returns-in-None c = line_whole c.args.bytes.now (sym c.first_newline.ensures ∙ c.in-None.is)
