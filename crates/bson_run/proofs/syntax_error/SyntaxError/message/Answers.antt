use Rattle.std.proofs.Common.{◌≡◌, ◌++◌, IfOk, codes, decimal, string_bytes, append_assoc, ap, ◌∙◌}
use Rattle.bson_run.specs.ErrorMessages.{column_at}
use Rattle.bson_run.proofs.LinesLaws.{oks_with}
use Rattle.bson_run.proofs.syntax_error.SyntaxError.message.Goals as goal

pub returns : goal.returns
returns c =
    let column = c.column-column.result in
    let full_message = c.message-rule.result.now in
    let said : IfOk c.format.result (λ s. string_bytes s ≡ codes " at column " ++ decimal column ++ codes " (" ++ full_message
    ++ codes ")") = simp append_assoc c.format.ensures.ok in
    oks_with c.format.result said (λ s e.
    e ∙ ap (λ n. codes " at column " ++ decimal n ++ codes " (" ++ full_message ++ codes ")") c.column-column.ensures
    ∙ ap (λ w. codes " at column " ++ decimal (column_at c.args.self.offset c.args.bytes.now) ++ codes " (" ++ w ++ codes ")") c.message-rule.ensures)
