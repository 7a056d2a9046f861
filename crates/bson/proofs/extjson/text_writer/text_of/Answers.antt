use Rattle.std.proofs.Common.{◌≡◌, ◌++◌, ap, ◌∙◌}
use Rattle.json.specs.Print.{print}
use Rattle.bson.specs.Texts.{tokens_of}
use Rattle.bson.proofs.extjson.text_writer.text_of.Goals as goal

pub returns-clause-written : goal.returns-clause-written
returns-clause-written c =
    let p = c.in_ok-print.ensures.printed in
    let all : c.print.new.writer.tokens ≡ tokens_of p.0 = p.2 ∙ ap (λ l. l ++ tokens_of p.0) c.new-writer.ensures.tokens in
    (p.0, p.1, c.into_text.ensures ∙ ap print all)
