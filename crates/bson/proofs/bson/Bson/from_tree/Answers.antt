use Rattle.serde_json.specs.View.{view}
use Rattle.bson.specs.View.{bson_view}
use Rattle.bson_model.proofs.Offered.{read_back_ok_in, value_read_in}
use Rattle.bson.proofs.bson.Bson.from_tree.Goals as goal

pub returns-clause-ok : goal.returns-clause-ok
returns-clause-ok c = (value_read_in c.args.doubles bson_view (view c.args.value) c.read.result
    c.read.ensures.read_result).ok

pub returns-clause-accepts : goal.returns-clause-accepts
returns-clause-accepts c = (value_read_in c.args.doubles bson_view (view c.args.value) c.read.result
    c.read.ensures.read_result).accepts

pub returns-clause-fault : goal.returns-clause-fault
returns-clause-fault c = (value_read_in c.args.doubles bson_view (view c.args.value) c.read.result
    c.read.ensures.read_result).fault

pub returns-clause-round_trips : goal.returns-clause-round_trips
returns-clause-round_trips c =
    read_back_ok_in c.args.doubles bson_view (view c.args.value) c.read.result c.read.ensures.read_result
    c.read.ensures.within_type_range
