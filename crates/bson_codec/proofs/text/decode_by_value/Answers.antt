use Rattle.std.proofs.lemmas.Result.{err_from_is_err_and}
use Rattle.bson_codec.proofs.text.decode_by_value.Goals as goal

pub returns-in_err-document-clause-only : goal.returns-in_err-document-clause-only
returns-in_err-document-clause-only c = λ ps h.
    let p = err_from_is_err_and c.from_residual.result c.from_residual.ensures.1 in
    rw (p.1, p.2) ((c.in_err-document.ensures.only ps h).1)
