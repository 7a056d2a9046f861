use Rattle.std.proofs.Common.{ap, subst, sym, ◌∙◌}
use Rattle.bson_bytes.specs.ReadDocuments.{IsReadAsDocumentIn}
use Rattle.bson_model.specs.Value.{document}
use Rattle.vbson.proofs.Decoding.{document_seen}
use Rattle.vbson.proofs.Preprocessed.{no_document_under}
use Rattle.vbson.specs.Documents.{depth}
use Rattle.vbson.proofs.reading.value_of_document.Goals as goal

pub returns-in-Ok-clause-unique_value : goal.returns-in-Ok-clause-unique_value
returns-in-Ok-clause-unique_value c value is =
    let read = subst (λ k. IsReadAsDocumentIn k depth c.args.bytes.now is.pairs) (sym c.duplicate_keys_of.ensures) is.read in
    is.is_document ∙ (ap document (sym (c.in-Ok.ensures.only is.pairs read).0) ∙ sym (document_seen c.in-Ok.document))

-- reading gave a fault, and did not run out of memory
pub returns-in-Err-Malformed-clause-rejected : goal.returns-in-Err-Malformed-clause-rejected
returns-in-Err-Malformed-clause-rejected c =
    no_document_under c.args.options c.args.bytes.now (λ ps given.
    let read = subst (λ k. IsReadAsDocumentIn k depth c.args.bytes.now ps) (sym c.duplicate_keys_of.ensures) given in
    let only = (c.in-Err-Malformed.ensures.only ps read).1 in
    let is = c.in-Err-Malformed.field-0-is in
    absurd cc)
