use Rattle.std.proofs.Common.{◌≡◌, ◌++◌, ◌∙◌, IfOk, ap, append_assoc, codes, string_bytes, subst}
use Rattle.bson_program.specs.UsageErrors.{mode_with_command, mode_without_option}
use Rattle.bson_program.proofs.usage_error.unsupported_option.Goals as goal

pub returns : goal.returns
returns c = λ arg.
    let it = c.args.command in
    let own = mode_with_command it (mode_without_option c.args.flag c.args.purpose c.args.output) in
    let name : string_bytes c.in_ok-name.name ≡ own = c.in_ok-name.ensures ∙ ap (mode_with_command it) c.mode_without_option.ensures in
    subst (λ option. IfOk c.format.result (λ line. string_bytes line
    ≡ codes "bson: " ++ own ++ codes " does not accept " ++ option)) c.flag_name-option.ensures
    (subst (λ mode. IfOk c.format.result (λ line. string_bytes line
    ≡ codes "bson: " ++ mode ++ codes " does not accept " ++ c.flag_name-option.result.now)) name
    (simp append_assoc c.format.ensures.ok))
