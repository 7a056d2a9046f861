use Rattle.bson_codec.proofs.Put.{document_put}
use Rattle.bson_codec.proofs.element_writer.ElementWriterValueWriter.embed_document.Goals as goal

pub returns-clause-written : goal.returns-clause-written
returns-clause-written c = λ ps end_document framed.
    document_put c.args.name.now ps c.args.self.now.bytes.items c.put_name.new.output.items end_document.bytes.items
    c.in_ok-put_name.ensures.put framed
