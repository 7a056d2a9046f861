use Rattle.std.proofs.Common.{◌≡◌, ◌++◌, IfOk, append_assoc, codes, string_bytes, subst}
use Rattle.bson_program.specs.Messages.{shown_name}
use Rattle.bson_program.proofs.rejection_hint.hint_line.Goals as goal

pub returns : goal.returns
returns c =
    subst (λ explanation. IfOk c.format.result (λ line. string_bytes line
    ≡ codes "bson: " ++ shown_name c.args.file_name.now (codes "input") ++ codes " " ++ explanation)) c.in_ok-explanation.ensures
    (subst (λ file_name. IfOk c.format.result (λ line. string_bytes line
    ≡ codes "bson: " ++ file_name ++ codes " " ++ string_bytes c.in_ok-explanation.explanation)) c.in_ok-file_name.ensures
    (simp append_assoc c.format.ensures.ok))
