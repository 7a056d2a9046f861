use Rattle.std.proofs.Common.{◌≡◌, ◌+◌, ap, string_bytes, subst, ◌∙◌}
use Rattle.std.proofs.lemmas.Result.{on_ok_weaker}
use Rattle.std.proofs.lemmas.Str.{IsUtf8-string_bytes}
use Rattle.bson_run.specs.Diagnostic.{IsDiagnostic}
use Rattle.bson_run.specs.Lines.{line_text}
use Rattle.bson_run.proofs.Explaining.{added}
use Rattle.bson_run.proofs.line_run_state.LineRunState.add_diagnostic.Goals as goal

pub returns-clause-ok : goal.returns-clause-ok
returns-clause-ok c =
    let self = c.args.self.now in
    let diagnostic = string_bytes c.in_ok-diagnostic.diagnostic in
    let line : c.text-line.result.now ≡ line_text self.lines self.line.items =
    c.text-line.ensures ∙ ap (line_text self.lines) c.deref.ensures.value in
    on_ok_weaker c.extend_from_slice.result
    (λ grown. (
      diagnostic,
      subst (λ text. IsDiagnostic c.args.task (self.lines + 1) c.args.fault.now text diagnostic) line
          c.in_ok-diagnostic.ensures,
      grown,
      IsUtf8-string_bytes c.in_ok-diagnostic.diagnostic,
    ))
    (added c.extend_from_slice.result self.diagnostics.items c.extend_from_slice.new.self.items c.as_bytes.result.now diagnostic
    c.extend_from_slice.ensures.items c.as_bytes.ensures.value)
