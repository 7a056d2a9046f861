use Rattle.bson_scalar.specs.View.{scalar_view}
use Rattle.bson.proofs.Pushing.{scalar_pushed, scalar_stops}
use Rattle.bson.proofs.extjson.bson_writer.BsonWriterValueWriter.scalar.Goals as goal

pub returns-clause-written : goal.returns-clause-written
returns-clause-written c =
    scalar_pushed c.push_with_name.result c.args.name.now c.args.self.now c.push_with_name.new.self c.from_scalar.result (scalar_view c.args.value)
    c.push_with_name.ensures.pushed c.from_scalar.ensures.value

pub returns-clause-stops : goal.returns-clause-stops
returns-clause-stops c = scalar_stops c.push_with_name.result (scalar_view c.args.value) c.push_with_name.ensures.stops
