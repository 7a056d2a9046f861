use Rattle.std.proofs.Common.{◌≡◌, ◌++◌, false, rules, IfOk, append_assoc, codes, string_bytes, subst}
use Rattle.std.specs.Fmt.{decimal}
use Rattle.bson_program.specs.Messages.{is_standard_stream}
use Rattle.bson_program.proofs.Telling.{when_not}
use Rattle.bson_program.proofs.messages.line_location.Goals as goal

pub returns : goal.returns
returns c =
    let other : is_standard_stream c.args.file_name.now ≡ false = search rules in
    when_not c.format-2.result (is_standard_stream c.args.file_name.now) _ _ other
    (subst (λ file_name. IfOk c.format-2.result (λ prefix. string_bytes prefix ≡ file_name ++ codes ":" ++ decimal c.args.line_number))
    c.in_ok-file_name.ensures (simp append_assoc c.format-2.ensures.ok))
