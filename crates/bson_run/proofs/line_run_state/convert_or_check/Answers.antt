use Rattle.std.proofs.Common.{◌≡◌, true, false, sym, subst}
use Rattle.std.proofs.lemmas.Result.{err_from_is_err_and}
use Rattle.bson_run.proofs.TakenLines.{refused_once_taken}
use Rattle.bson_run.specs.Lines.{IsBlank}
use Rattle.bson_run.specs.Preprocessed.{IsPreprocessedAs}
use Rattle.bson_run.proofs.line_run_state.convert_or_check.Goals as goal

pub returns-in_err-write_output-clause-fault : goal.returns-in_err-write_output-clause-fault
returns-in_err-write_output-clause-fault c =
    let task = c.args.settings.task in
    let text = c.args.text.now in
    let read = c.preprocessed_text-preprocessed.result.now in
    let is : IsPreprocessedAs task.preprocessing text read =
    subst (IsPreprocessedAs task.preprocessing text) (sym c.preprocessed_text-preprocessed.ensures) c.in_ok-upgraded.ensures.ok in
    let some : ¬ IsBlank text =
    λ blank.
    let is_blank : c.is_blank.result ≡ true = c.is_blank.ensures.1 blank in
    let is_not : c.is_blank.result ≡ false = c.if-is_blank.false in
    cc in
    let p = err_from_is_err_and c.from_residual-in_err-write_output.result c.from_residual-in_err-write_output.ensures.1 in
    rw (p.1, p.2)
    (refused_once_taken c.args.settings.options task c.in_err-write_output.field-0.0 text read is some
    c.in_err-write_output.ensures.fault)
