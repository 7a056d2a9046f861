use Rattle.bson.specs.View.{bson_view}
use Rattle.bson.proofs.Accepted.{accepted}
use Rattle.bson.proofs.Meant.{ranged_by, back_by, accepted_by}
use Rattle.bson.proofs.bson.Bson.from_text.Goals as goal

pub returns-clause-accepts : goal.returns-clause-accepts
returns-clause-accepts c = accepted c.args.options.doubles c.args.bytes.now c.read_text.result c.read_text.ensures.fault

pub returns-clause-accepts_in_key_order : goal.returns-clause-accepts_in_key_order
returns-clause-accepts_in_key_order c =
    accepted_by c.args.options.doubles bson_view c.args.bytes.now c.args.options.key_order c.read_text.result
    c.read_text.ensures.fault

pub returns-clause-within_type_range : goal.returns-clause-within_type_range
returns-clause-within_type_range c =
    ranged_by c.args.options.doubles bson_view c.args.bytes.now c.args.options.key_order c.read_text.result
    c.read_text.ensures.ok

pub returns-clause-round_trips : goal.returns-clause-round_trips
returns-clause-round_trips c =
    back_by c.args.options.doubles bson_view c.args.bytes.now c.args.options.key_order c.read_text.result
    c.read_text.ensures.ok
