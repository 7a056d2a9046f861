use Rattle.bson_run.proofs.OneOutcome.{either, one_stop}
use Rattle.bson_run.proofs.OneText.{decided}
use Rattle.bson_run.proofs.laws.one_stop.Goals as goal

pub returns-clause-stop : goal.returns-clause-stop
returns-clause-stop c = λ o task on_refusal lines output other diagnostics_before diagnostics_after fault cause number count.
    let only = decided c.one_duplicate_path.ensures.has_duplicate_key c.one_duplicate_path.ensures.path c.what_fits_has_no_cause.ensures
    c.first_cause_is_one.ensures o task in
    one_stop o task on_refusal only lines output other diagnostics_before diagnostics_after number count fault cause

pub returns-clause-either : goal.returns-clause-either
returns-clause-either c = λ o task on_refusal lines output other diagnostics_before diagnostics_after fault number refused.
    let only = decided c.one_duplicate_path.ensures.has_duplicate_key c.one_duplicate_path.ensures.path c.what_fits_has_no_cause.ensures
    c.first_cause_is_one.ensures o task in
    either o task on_refusal only lines output other diagnostics_before diagnostics_after refused number fault
