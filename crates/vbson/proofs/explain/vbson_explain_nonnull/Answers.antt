use Rattle.vbson.proofs.Explained.{accepted_from, accepts_from}
use Rattle.vbson.proofs.explain.vbson_explain_nonnull.Goals as goal

pub returns-clause-accepted : goal.returns-clause-accepted
returns-clause-accepted c = λ success zero. accepted_from c.args.options.now c.args.text.now c.in-Ok.rejection c.in-Ok.ensures.error_report zero

pub returns-clause-accepts : goal.returns-clause-accepts
returns-clause-accepts c = λ value means success.
    accepts_from c.one_duplicate_path.ensures.has_duplicate_key c.args.options.now c.args.text.now c.in-Ok.rejection value means c.in-Ok.ensures.error_report
