use Rattle.std.proofs.Common.{◌≡◌, ◌++◌, IfOk, append_assoc, codes, string_bytes, subst}
use Rattle.bson_program.specs.Messages.{escaped_name}
use Rattle.bson_program.proofs.usage_error.removed_option.Goals as goal

pub returns : goal.returns
returns c =
    subst (λ help. IfOk c.format.result (λ line. string_bytes line
    ≡ codes "bson: " ++ escaped_name c.args.arg.now ++ codes " is the default now" ++ help)) c.in_ok-help.ensures
    (subst (λ arg. IfOk c.format.result (λ line. string_bytes line
    ≡ codes "bson: " ++ arg ++ codes " is the default now" ++ string_bytes c.in_ok-help.help)) c.in_ok-shown_arg.ensures
    (simp append_assoc c.format.ensures.ok))
