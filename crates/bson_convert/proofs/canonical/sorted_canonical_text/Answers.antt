use Rattle.bson_tokens.proofs.Offered.{if_err}
use Rattle.bson_model.specs.declared.options.KeyOrder.TheVariants.{Ascending}
use Rattle.bson_convert.proofs.EitherOrder.{rejected_in_any_order}
use Rattle.bson_convert.proofs.canonical.sorted_canonical_text.Goals as goal

pub returns-clause-fault : goal.returns-clause-fault
returns-clause-fault c =
    if_err c.line_text.result c.line_text.ensures.fault
    (λ fault h. rejected_in_any_order c.args.options Ascending fault c.args.bytes.now h)
