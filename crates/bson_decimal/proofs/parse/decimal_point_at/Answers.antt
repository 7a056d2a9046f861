use Rattle.bson_decimal.specs.ParseSteps.{is_decimal_point}
use Rattle.bson_decimal.proofs.TextLemmas.{first-place}
use Rattle.bson_decimal.proofs.parse.decimal_point_at.Goals as goal

pub returns : goal.returns
returns c =
    let place = first-place is_decimal_point c.args.text.now _ (rw c.find_decimal_point.ensures at c.unwrap_or.ensures) in
    record { value = place.0; within = place.1 }
