use Rattle.std.proofs.Common.{◌≡◌, IfOk, string_bytes, subst, sym}
use Rattle.bson_program.specs.UsageErrors.{usage_error_message}
use Rattle.bson_program.proofs.usage_error.usage_error_line.Goals as goal

pub returns-in-BadOptionValue : goal.returns-in-BadOptionValue
returns-in-BadOptionValue c =
    let invalid_usage = c.args.invalid_usage.now in
    subst (λ why. IfOk c.bad_option_value.result (λ line. string_bytes line ≡ usage_error_message invalid_usage.command why (string_bytes invalid_usage.arg)))
    (sym c.in-BadOptionValue.is) (c.bad_option_value.ensures invalid_usage.command (string_bytes invalid_usage.arg))

pub returns-in-UnsupportedOption : goal.returns-in-UnsupportedOption
returns-in-UnsupportedOption c =
    let invalid_usage = c.args.invalid_usage.now in
    subst (λ why. IfOk c.unsupported_option.result (λ line. string_bytes line ≡ usage_error_message invalid_usage.command why (string_bytes invalid_usage.arg)))
    (sym c.in-UnsupportedOption.is) (c.unsupported_option.ensures (string_bytes invalid_usage.arg))

pub returns-in-NeedsTwoFiles : goal.returns-in-NeedsTwoFiles
returns-in-NeedsTwoFiles c =
    let invalid_usage = c.args.invalid_usage.now in
    subst (λ why. IfOk c.needs_two_files.result (λ line. string_bytes line ≡ usage_error_message invalid_usage.command why (string_bytes invalid_usage.arg)))
    (sym c.in-NeedsTwoFiles.is) (c.needs_two_files.ensures (string_bytes invalid_usage.arg))
