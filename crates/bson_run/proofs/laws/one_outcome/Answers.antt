use Rattle.bson_run.proofs.OneOutcome.{one_outcome}
use Rattle.bson_run.proofs.OneText.{decided}
use Rattle.bson_run.proofs.laws.one_outcome.Goals as goal

pub returns : goal.returns
returns c = λ o task on_refusal.
    let only = decided c.one_duplicate_path.ensures.has_duplicate_key c.one_duplicate_path.ensures.path c.what_fits_has_no_cause.ensures
    c.first_cause_is_one.ensures o task in
    one_outcome o task on_refusal only
