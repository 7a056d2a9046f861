use Rattle.bson_bytes.proofs.Finding.{document_there, elements_are}
use Rattle.bson_bytes.proofs.raw_document.RawDocument.iter.Goals as goal

pub unreachable-requires : goal.unreachable-requires
unreachable-requires c =
    (c.in_default.ensures.elements _ _ (document_there c.args.self.now.depth c.args.self.now.bytes.now c.args.self.now.is_read)).1

pub overflow_sub-result : goal.overflow_sub-result
overflow_sub-result c =
    (c.in-Some.ensures.elements _ _ (document_there c.args.self.now.depth c.args.self.now.bytes.now c.args.self.now.is_read)).0

pub invariant_of-result : goal.invariant_of-result
invariant_of-result c = record {
  is_read = (elements_are _ _ _ (c.in-Some.ensures.elements _ _
      (document_there c.args.self.now.depth c.args.self.now.bytes.now c.args.self.now.is_read)).1).0;
}

pub returns : goal.returns
returns c =
    (elements_are _ _ _ (c.in-Some.ensures.elements _ _
    (document_there c.args.self.now.depth c.args.self.now.bytes.now c.args.self.now.is_read)).1).1
