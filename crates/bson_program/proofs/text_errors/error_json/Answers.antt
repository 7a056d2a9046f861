use Rattle.std.proofs.Common.{◌≡◌, ◌++◌, ◌∙◌, ap}
use Rattle.std.proofs.lemmas.Result.{IfOk-weaker}
use Rattle.bson_convert.specs.Messages.{error_message}
use Rattle.bson_codec.specs.Diagnostics.{json_line}
use Rattle.bson_run.specs.Diagnostic.{diagnostic_tokens, error_code}
use Rattle.bson_run.specs.ErrorMessages.{explanation_path}
use Rattle.bson_program.specs.TextErrors.{position_in_input}
use Rattle.bson_program.proofs.text_errors.error_json.Goals as goal

pub returns : goal.returns
returns c =
    let fault = c.args.fault.now in
    let content = c.args.input_text.content.now in
    let start = c.args.input_text.start in
    let text = c.args.input_text.text.now in
    let explanation = c.args.explanation.now in
    let path = explanation_path explanation in
    let message : c.deref.result.now ≡ error_message fault ++ c.args.position_message.now =
    c.deref.ensures ∙ c.in_ok-message.ensures.ok ∙ ap (λ kind. kind ++ c.args.position_message.now) c.message-kind.ensures.words in
    IfOk-weaker c.explained_json.result _ _ (λ json e.
    e ∙ ap (λ position. json_line (diagnostic_tokens position path (error_code fault) c.deref.result.now)) c.position_in_input-position.ensures
    ∙ ap (λ m. json_line (diagnostic_tokens (position_in_input content start text explanation) path (error_code fault) m)) message)
    c.explained_json.ensures
