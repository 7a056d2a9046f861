use Rattle.serde_json.specs.View.{number_view}
use Rattle.bson_scalar.specs.Reading.{number_read_in}
use Rattle.bson_tree.proofs.Steps.{number_place}
use Rattle.bson_tree.proofs.walk.build_number.Goals as goal

pub returns-in_ok-reason_of_error-in-Err : goal.returns-in_ok-reason_of_error-in-Err
returns-in_ok-reason_of_error-in-Err g c =
    let json_number = number_view c.args.json_number.now in
    let is = c.in_ok-reason_of_error-in-Err.ensures (number_read_in c.args.doubles json_number) c.in-Err.ensures in
    number_place c.args.doubles json_number is.0 _ c.root_place.result is.1 is.2 c.root_place.ensures.path c.root_place.ensures.reason
