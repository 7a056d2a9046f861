use Rattle.std.proofs.Common.{◌≡◌, ◌++◌, ◌∙◌, ap, IfOk, append_assoc, codes, string_bytes, subst}
use Rattle.std.specs.Str.{trim_end}
use Rattle.bson_program.specs.Messages.{document_error_message}
use Rattle.bson_program.proofs.messages.document_failure_line.Goals as goal

pub returns : goal.returns
returns c =
    let message = document_error_message c.args.run_end.number c.args.run_end.start c.args.run_end.fault in
    let trimmed : c.trim_end-message.result.now ≡ trim_end message =
    c.trim_end-message.ensures.trim ∙ ap trim_end (c.deref.ensures ∙ c.in_ok-message.ensures) in
    subst (λ prefix. IfOk c.format.result (λ line. string_bytes line ≡ prefix ++ codes ": " ++ trim_end message))
    c.in_ok-prefix.ensures
    (subst (λ it. IfOk c.format.result (λ line. string_bytes line ≡ string_bytes c.in_ok-prefix.prefix ++ codes ": " ++ it))
    trimmed (simp append_assoc c.format.ensures.ok))
