use Rattle.bson_scalar.specs.Scalar.{null}
use Rattle.bson.specs.declared.bson.Bson.TheVariants.{Null}
use Rattle.bson.proofs.Pushing.{scalar_pushed, null_is}
use Rattle.bson.proofs.extjson.bson_writer.BsonWriterValueWriter.null.Goals as goal

pub returns-clause-written : goal.returns-clause-written
returns-clause-written c =
    scalar_pushed c.push_with_name.result c.args.name.now c.args.self.now c.push_with_name.new.self Null null c.push_with_name.ensures.pushed null_is
