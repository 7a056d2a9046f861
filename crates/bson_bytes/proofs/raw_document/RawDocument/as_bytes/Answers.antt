use Rattle.bson_bytes.proofs.Finding.{document_there}
use Rattle.bson_bytes.proofs.raw_document.RawDocument.as_bytes.Goals as goal

pub unreachable-requires : goal.unreachable-requires
unreachable-requires c =
    c.in-None.ensures _ _ (document_there c.args.self.now.depth c.args.self.now.bytes.now c.args.self.now.is_read)

pub returns : goal.returns
returns c =
    c.in-Some.ensures _ _ (document_there c.args.self.now.depth c.args.self.now.bytes.now c.args.self.now.is_read)
