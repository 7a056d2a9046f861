use Rattle.std.proofs.Common.{◌≡◌, ℕ, Vec, Global, IfSome, IsUtf8, ◌+◌, ◌++◌, Ok, ap, sym, ◌∙◌, subst}
use Rattle.std.proofs.lemmas.Result.{err_from_is_err_and}
use Rattle.bson_run.specs.Lines.{line_text, IsBlank, WritesOutputForTask}
use Rattle.bson_run.specs.LinesSteps.{IsConversionFailure, IsDiagnosticAppended}
use Rattle.bson_run.specs.declared.line_run_state.LineRunState.{LineRunState}
use Rattle.bson_run.proofs.LinesLaws.{blank_taken, written_taken, told_taken, judged_bad, refused_stops}
use Rattle.bson_run.proofs.line_run_state.LineRunState.end_line.Goals as goal
use Rattle.bson_run.proofs.line_run_state.LineRunState.end_line.Goals.{in-Ok-None, in-Ok-Some+in_ok-add_output-in-Ok-Some}
use Rattle.bson_run.proofs.line_run_state.LineRunState.end_line.Goals.{in-Err+in_ok-refuse_line-in-Err}

pub returns-clause-ok : goal.returns-clause-ok
returns-clause-ok c =
    let self = c.args.self.now in
    let text : c.text-line.result.now ≡ line_text self.lines self.line.items =
    c.text-line.ensures ∙ ap (line_text self.lines) c.deref.ensures.value in
    elim c.match-convert_or_check.branch [
      | in-Ok-None w ↦
          blank_taken self _ c.clear.ensures.items (ap (λ (s : LineRunState). s.lines + 1) w.self-is)
          (ap (λ (s : LineRunState). s.output.items) w.self-is) (ap (λ (s : LineRunState). s.diagnostics.items) w.self-is)
          (ap (λ (s : LineRunState). s.refused) w.self-is)
          (subst IsBlank text (c.convert_or_check.ensures.blank (w.in-Ok-None.is ∙ ap Ok w.in-Ok-None.field-0-is)))
      | in-Ok-Some+in_ok-add_output-in-Ok-Some w ↦
          let added = w.in_ok-add_output-in-Ok-Some.ensures in
          written_taken self _ w.in-Ok-Some.output.items c.clear.ensures.items
          (ap (λ (s : LineRunState). s.lines + 1) w.self-is ∙ ap (λ n. n + 1) added.unchanged.2)
          (ap (λ (s : LineRunState). s.output.items) w.self-is ∙ added.ok
          ∙ ap (λ (v : Vec ℕ Global). self.output.items ++ v.items) w.in-Ok-Some.output-is)
          (ap (λ (s : LineRunState). s.diagnostics.items) w.self-is ∙ ap (λ v. v.items) added.unchanged.1)
          (ap (λ (s : LineRunState). s.refused) w.self-is ∙ added.unchanged.3)
          (subst (λ x. WritesOutputForTask c.args.settings.options c.args.settings.task x w.in-Ok-Some.output.items) text
          (subst (λ some. IfSome some (λ output. WritesOutputForTask c.args.settings.options c.args.settings.task c.text-line.result.now output.items))
          w.in-Ok-Some.field-0-is w.in-Ok-Some.ensures.ok))
          (λ writes. subst (λ some. IfSome some (λ output. IsUtf8 output.items)) w.in-Ok-Some.field-0-is
          (w.in-Ok-Some.ensures.utf8 writes))
      | in-Err+in_ok-refuse_line-in-Err w ↦
          let refused = w.in_ok-refuse_line-in-Err.ensures in
          told_taken self _ w.in-Err.fault c.clear.ensures.items
          (ap (λ (s : LineRunState). s.lines + 1) w.self-is ∙ ap (λ n. n + 1) refused.unchanged.2)
          (ap (λ (s : LineRunState). s.output.items) w.self-is ∙ ap (λ v. v.items) refused.unchanged.1)
          (ap (λ (s : LineRunState). s.refused) w.self-is ∙ refused.ok.2) refused.ok.1
          (judged_bad c.args.settings.options c.args.settings.task w.in-Err.fault _ (subst (IsConversionFailure c.args.settings.options c.args.settings.task w.in-Err.fault) text w.in-Err.ensures.fault) refused.ok.0)
          (subst (IsDiagnosticAppended c.args.settings.task (self.lines + 1) w.in-Err.fault (line_text self.lines self.line.items) self.diagnostics.items)
          (sym (ap (λ (s : LineRunState). s.diagnostics.items) w.self-is)) refused.ok.3)
    ]

pub returns-in_err-refuse_line-in-Err-clause-fault : goal.returns-in_err-refuse_line-in-Err-clause-fault
returns-in_err-refuse_line-in-Err-clause-fault c =
    let self = c.args.self.now in
    let settings = c.args.settings in
    let line = line_text self.lines self.line.items in
    let text : c.text-line.result.now ≡ line = c.text-line.ensures ∙ ap (line_text self.lines) c.deref.ensures.value in
    let failed = c.in_err-refuse_line-in-Err in
    let p = err_from_is_err_and c.from_residual-in_err-refuse_line-in-Err.result c.from_residual-in_err-refuse_line-in-Err.ensures.1 in
    rw (p.1, p.2)
    (refused_stops settings.options settings.task settings.on_refusal c.in-Err.fault failed.field-0.0 line
    (subst (IsConversionFailure settings.options settings.task c.in-Err.fault) text c.in-Err.ensures.fault) failed.ensures.fault)
