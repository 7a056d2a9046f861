use Rattle.std.proofs.Common.{◌≡◌, ◌++◌, ◌∙◌, ap, append_assoc, codes, string_bytes}
use Rattle.std.proofs.lemmas.Result.{IfOk-weaker}
use Rattle.bson_program.specs.Messages.{failure_object}
use Rattle.bson_program.proofs.failure_json.file_failure.Goals as goal

pub returns : goal.returns
returns c =
    let verb = c.args.verb.now in
    let cause = string_bytes c.in_ok-cause.cause in
    let message : string_bytes c.in_ok-message.message
    ≡ codes "cannot " ++ verb ++ string_bytes c.in_ok-shown_name.shown_name ++ cause =
    simp append_assoc c.in_ok-message.ensures.ok in
    let named = c.deref.ensures ∙ message ∙ ap (λ name. codes "cannot " ++ verb ++ name ++ cause) c.in_ok-shown_name.ensures in
    IfOk-weaker c.failure_object.result _ _ (λ line is. (
      cause,
      c.in_ok-cause.ensures,
      is ∙ ap (λ bytes. failure_object c.args.file_name.now c.args.code.now bytes) named,
    )) c.failure_object.ensures
