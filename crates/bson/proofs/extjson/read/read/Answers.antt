use Rattle.serde_json.specs.View.{view}
use Rattle.bson_model.specs.Normal.{NumbersInRange}
use Rattle.bson_model.specs.Reading.{reads_tree_in}
use Rattle.bson_tree.specs.Place.{FaultAtIn}
use Rattle.bson_tree.proofs.Offered.{fault_to}
use Rattle.bson.specs.View.{bson_view}
use Rattle.bson.proofs.Answered.{value_given, fault_given}
use Rattle.bson.proofs.extjson.read.read.Goals as goal

pub returns-in-Ok : goal.returns-in-Ok
returns-in-Ok c =
    let t = view c.args.value in
    let read_result = value_given bson_view (λ b. NumbersInRange (bson_view b)) (reads_tree_in c.args.doubles t)
    (λ f. FaultAtIn c.args.doubles f t) c.in_ok-value.field-0 c.in_ok-value.ensures c.in-Ok.value c.in-Ok.is in
    record { read_result = read_result.0; within_type_range = read_result.1 }

pub returns-in-Err : goal.returns-in-Err
returns-in-Err c =
    let t = view c.args.value in
    record {
      read_result =
          fault_given bson_view (λ b. NumbersInRange (bson_view b)) (reads_tree_in c.args.doubles t)
          (λ f. FaultAtIn c.args.doubles f t) c.in_ok-value.field-0 c.in_ok-value.ensures c.in-Err.place
          c.error_of.result c.in-Err.is c.error_of.ensures (λ f path. fault_to c.args.doubles);
      within_type_range = tt;
    }
