use Rattle.bson_decimal.specs.ParseSteps.{is_exponent_mark}
use Rattle.bson_decimal.proofs.TextLemmas.{first-place, mark_at-ascii}
use Rattle.bson_decimal.proofs.parse.exponent_mark_at.Goals as goal

pub returns : goal.returns
returns c =
    let place = first-place is_exponent_mark c.args.text.now _ (rw c.find_exponent_mark.ensures at c.unwrap_or.ensures) in
    record { value = place.0; within = place.1; ascii = rw place.0 (mark_at-ascii c.args.text.now) }
