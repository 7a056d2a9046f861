use Rattle.bson_scalar.specs.View.{scalar_view}
use Rattle.bson_codec.proofs.Put.{scalar_turned}
use Rattle.bson_codec.proofs.element_writer.ElementWriterValueWriter.scalar.Goals as goal

pub returns-clause-written : goal.returns-clause-written
returns-clause-written c =
    scalar_turned c.put_scalar.result c.map_err.result (scalar_view c.args.value) c.type_of.result c.args.name.now
    c.args.self.now.bytes.items c.put_name.new.output.items c.put_scalar.new.output.items c.map_err.ensures.variant
    c.type_of.ensures c.in_ok-put_name.ensures.put c.put_scalar.ensures.typed c.put_scalar.ensures.put
    c.put_scalar.ensures.grows
