use Rattle.std.proofs.lemmas.Result.{err_from_is_err_and}
use Rattle.bson.proofs.extjson.text_reader.retry.read_again.Goals as goal

pub returns-in_err-normalized-clause-fault : goal.returns-in_err-normalized-clause-fault
returns-in_err-normalized-clause-fault c =
    let p = err_from_is_err_and c.from_residual-in_err-normalized.result c.from_residual-in_err-normalized.ensures.1 in
    rw (p.1, p.2) (c.in_err-normalized.ensures.fault c.args.doubles)
