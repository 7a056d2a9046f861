use Rattle.bson_scalar.specs.Scalar.{boolean}
use Rattle.bson.specs.declared.bson.Bson.TheVariants.{Boolean}
use Rattle.bson.proofs.Pushing.{scalar_pushed, boolean_is}
use Rattle.bson.proofs.extjson.bson_writer.BsonWriterValueWriter.boolean.Goals as goal

pub returns-clause-written : goal.returns-clause-written
returns-clause-written c =
    let b = c.args.truth in
    scalar_pushed c.push_with_name.result c.args.name.now c.args.self.now c.push_with_name.new.self (Boolean b) (boolean b) c.push_with_name.ensures.pushed (boolean_is b)
