use Rattle.bson_scalar.specs.declared.form.Doubles.TheVariants.{Special}
use Rattle.bson.specs.View.{bson_view}
use Rattle.bson.proofs.Accepted.{accepted, came_back, is_ranged}
use Rattle.bson.proofs.bson.Bson.try_from_text.Goals as goal

pub returns-clause-accepts : goal.returns-clause-accepts
returns-clause-accepts c = accepted Special c.args.bytes.now c.read_text.result c.read_text.ensures.fault

pub returns-clause-round_trips : goal.returns-clause-round_trips
returns-clause-round_trips c = came_back Special bson_view c.args.bytes.now c.read_text.result c.read_text.ensures.ok

pub returns-clause-within_type_range : goal.returns-clause-within_type_range
returns-clause-within_type_range c = is_ranged Special bson_view c.args.bytes.now c.read_text.result c.read_text.ensures.ok
