use Rattle.vbson.proofs.DocumentErrors.{accepted_from}
use Rattle.vbson.proofs.document_error.vbson_explain_document_nonnull.Goals as goal

pub returns-clause-accepted : goal.returns-clause-accepted
returns-clause-accepted c = λ success zero. accepted_from c.args.options.now c.args.bytes.now c.in-Ok.rejection c.in-Ok.ensures.error_report zero

pub returns-clause-accepts : goal.returns-clause-accepts
returns-clause-accepts c = λ has success. c.in-Ok.ensures.accepts has
