use Rattle.serde_json.specs.View.{view}
use Rattle.bson_tree.proofs.Agrees.{first_at}
use Rattle.bson_tree.proofs.Steps.{built_in, placed_in, value_of}
use Rattle.bson_tree.proofs.walk.first_place.Goals as goal

pub returns-in-Ok : goal.returns-in-Ok
returns-in-Ok c =
    let read = built_in _ _ _ c.in_ok-read_tree.field-0 _ c.in-Ok.is c.in_ok-read_tree.ensures in
    value_of c.args.doubles (view c.args.tree) read.0 read.1

pub returns-in-Err : goal.returns-in-Err
returns-in-Err c =
    first_at c.args.doubles (view c.args.tree) c.in-Err.place
    (placed_in _ _ _ c.in_ok-read_tree.field-0 c.in-Err.place c.in-Err.is c.in_ok-read_tree.ensures)
