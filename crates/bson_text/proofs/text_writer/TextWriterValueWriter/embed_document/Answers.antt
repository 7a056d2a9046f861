use Rattle.bson_text.proofs.Sending.{embedded}
use Rattle.bson_text.proofs.text_writer.TextWriterValueWriter.embed_document.Goals as goal

pub returns-clause-written : goal.returns-clause-written
returns-clause-written c = λ ps end_document wrote_document. embedded ps c.args.self.now end_document wrote_document
