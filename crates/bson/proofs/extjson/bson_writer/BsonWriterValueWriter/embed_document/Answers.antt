use Rattle.bson.proofs.Pushing.{embedded}
use Rattle.bson.proofs.extjson.bson_writer.BsonWriterValueWriter.embed_document.Goals as goal

pub returns-clause-written : goal.returns-clause-written
returns-clause-written c = λ ps end_document framed.
    embedded ps c.args.name.now c.args.self.now end_document c.in_ok-self.field-0 c.in_ok-self.ensures framed
