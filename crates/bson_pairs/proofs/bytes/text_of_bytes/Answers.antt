use Rattle.std.proofs.Common.{sym, ap, ◌∙◌, true≢false}
use Rattle.bson.specs.Normal.{writable}
use Rattle.bson.specs.Value.{document}
use Rattle.bson_pairs.proofs.Seen.{document_seen}
use Rattle.bson_pairs.proofs.bytes.text_of_bytes.Goals as goal

pub returns-in-Err-clause-only : goal.returns-in-Err-clause-only
returns-in-Err-clause-only c = λ ps read w. (c.in-Err.ensures.only ps read).1

pub returns-in-Err-FiniteDouble-clause-only : goal.returns-in-Err-FiniteDouble-clause-only
returns-in-Err-FiniteDouble-clause-only c = λ ps read w.
    true≢false
    (sym w ∙ ap (λ q. writable (document q)) (sym (c.in-Ok.ensures.only ps read).0)
    ∙ ap writable (sym (document_seen c.in-Ok.document)) ∙ c.in-Err-FiniteDouble.ensures.finite (cc))
