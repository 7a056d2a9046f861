use Rattle.std.proofs.Common.{◌≡◌, ◌++◌, IfOk, append_assoc, codes, string_bytes, subst}
use Rattle.bson_program.specs.Messages.{escaped_name}
use Rattle.bson_program.specs.UsageErrors.{see_help}
use Rattle.bson_program.proofs.usage_error.unknown_mode.Goals as goal

pub returns : goal.returns
returns c =
    subst (λ expected_kind. IfOk c.format.result (λ line. string_bytes line
    ≡ codes "bson: unknown " ++ expected_kind ++ codes " '" ++ escaped_name c.args.arg.now ++ codes "'" ++ see_help c.args.command))
    c.expected_arg_kind-expected_kind.ensures
    (subst (λ help. IfOk c.format.result (λ line. string_bytes line ≡ codes "bson: unknown "
    ++ c.expected_arg_kind-expected_kind.result.now ++ codes " '" ++ escaped_name c.args.arg.now ++ codes "'" ++ help)) c.in_ok-help.ensures
    (subst (λ arg. IfOk c.format.result (λ line. string_bytes line ≡ codes "bson: unknown "
    ++ c.expected_arg_kind-expected_kind.result.now ++ codes " '" ++ arg ++ codes "'" ++ string_bytes c.in_ok-help.help)) c.in_ok-shown_arg.ensures
    (simp append_assoc c.format.ensures.ok)))
