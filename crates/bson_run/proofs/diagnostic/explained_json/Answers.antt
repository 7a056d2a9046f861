use Rattle.std.proofs.Common.{◌∙◌, ap}
use Rattle.bson_run.proofs.LinesLaws.{oks_with}
use Rattle.bson_codec.specs.Diagnostics.{json_line}
use Rattle.bson_run.specs.Diagnostic.{diagnostic_tokens}
use Rattle.bson_run.specs.ErrorMessages.{explanation_path}
use Rattle.bson_run.proofs.diagnostic.explained_json.Goals as goal

pub returns : goal.returns
returns c =
    let position = c.args.position in
    let message = c.args.message.now in
    oks_with c.to_json.result c.to_json.ensures (λ json e.
    e ∙ ap (λ path. json_line (diagnostic_tokens position path c.error_code.result.now message)) c.path.ensures
    ∙ ap (λ code. json_line (diagnostic_tokens position (explanation_path c.args.explanation.now) code message)) c.error_code.ensures)
