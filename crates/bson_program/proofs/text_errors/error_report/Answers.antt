use Rattle.std.proofs.Common.{◌≡◌, ◌∙◌, ap, string_bytes, subst, sym}
use Rattle.bson_program.specs.TextErrors.{error_json, report_of}
use Rattle.bson_program.proofs.text_errors.error_report.Goals as goal

pub returns-in-Text : goal.returns-in-Text
returns-in-Text c =
    let fault = c.args.fault.now in
    let content = c.args.input_text.content.now in
    let start = c.args.input_text.start in
    let text = c.args.input_text.text.now in
    let explanation = c.in_ok-explanation.explanation in
    let message = string_bytes c.in_ok-position_message.position_message in (
      explanation,
      c.in_ok-explanation.ensures,
      subst (λ format. message ≡ report_of format fault content start text explanation) (sym c.in-Text.is) c.in_ok-position_message.ensures,
      c.error_line-line_number.ensures,
    )

pub returns : goal.returns
returns c =
    let fault = c.args.fault.now in
    let content = c.args.input_text.content.now in
    let start = c.args.input_text.start in
    let text = c.args.input_text.text.now in
    let explanation = c.in_ok-explanation.explanation in
    let json = string_bytes c.in_ok-json-in-Json.json in (
      explanation,
      c.in_ok-explanation.ensures,
      subst (λ format. json ≡ report_of format fault content start text explanation) (sym c.in-Json.is)
          (c.in_ok-json-in-Json.ensures
          ∙ ap (λ message. error_json fault content start text explanation message) (c.deref.ensures ∙ c.in_ok-position_message.ensures)),
      c.error_line-line_number.ensures,
    )
