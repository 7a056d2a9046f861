use Rattle.std.proofs.Common.{◌≡◌, ◌++◌, ◌∙◌, ap, codes, string_bytes, subst, sym}
use Rattle.std.specs.Fmt.{decimal}
use Rattle.bson_convert.specs.Convert.{newline}
use Rattle.bson_run.proofs.LinesLaws.{oks_with}
use Rattle.bson_codec.specs.Diagnostics.{json_line}
use Rattle.bson_run.specs.Diagnostic.{diagnostic_line, diagnostic_tokens, error_code, explained_message, position_at}
use Rattle.bson_run.specs.ErrorMessages.{explanation_offset, explanation_path}
use Rattle.bson_run.proofs.diagnostic.line_diagnostic.Goals as goal

pub returns-in-Text : goal.returns-in-Text
returns-in-Text c =
    let number = c.args.number in
    let fault = c.args.fault.now in
    let text = c.args.text.now in
    let explanation = c.in_ok-explanation.explanation in
    let message : c.as_str-message.result.now ≡ explained_message fault text explanation =
    c.as_str-message.ensures.value ∙ c.in_ok-full_message.ensures in
    oks_with c.text_line.result c.text_line.ensures (λ line e. (
      explanation,
      c.in_ok-explanation.ensures,
      subst (λ format. string_bytes line ≡ diagnostic_line format number fault text explanation) (sym c.in-Text.is)
          (e ∙ ap (λ m. codes "bson: line " ++ decimal number ++ codes ": " ++ m ++ newline) message),
    ))

pub returns : goal.returns
returns c =
    let number = c.args.number in
    let fault = c.args.fault.now in
    let text = c.args.text.now in
    let explanation = c.in_ok-explanation.explanation in
    let path = explanation_path explanation in
    let message : c.as_str-message.result.now ≡ explained_message fault text explanation =
    c.as_str-message.ensures.value ∙ c.in_ok-full_message.ensures in
    let position : c.at-position.result ≡ position_at number (explanation_offset text explanation) text =
    c.at-position.ensures ∙ ap (λ offset. position_at number offset text) c.offset.ensures in
    oks_with c.explained_json.result c.explained_json.ensures (λ line e. (
      explanation,
      c.in_ok-explanation.ensures,
      subst (λ format. string_bytes line ≡ diagnostic_line format number fault text explanation) (sym c.in-Json.is)
          (e ∙ ap (λ p. json_line (diagnostic_tokens p path (error_code fault) c.as_str-message.result.now)) position
          ∙ ap (λ m. json_line (diagnostic_tokens (position_at number (explanation_offset text explanation) text) path (error_code fault) m)) message),
    ))
