use Rattle.std.proofs.Common.{◌≡◌, subst, sym, true}
use Rattle.std.proofs.lemmas.Result.{IfOk-weaker}
use Rattle.bson.specs.View.{document_view}
use Rattle.bson_bytes.specs.ReadDocuments.{IsReadAsDocumentIn}
use Rattle.bson_model.specs.Normal.{writable_in}
use Rattle.bson_model.specs.Value.{document}
use Rattle.vbson.proofs.DocumentErrors.{nothing_found, of_document}
use Rattle.vbson.specs.DocumentError.{IsFinding, IsFindingOfDocument}
use Rattle.vbson.specs.Documents.{depth}
use Rattle.vbson.specs.declared.document_error.Finding.{Finding}
use Rattle.vbson.specs.declared.document_error.Finding.TheVariants.{Nothing}
use Rattle.vbson.proofs.document_error.find_error.Goals as goal

pub returns-in-Ok-clause-is_finding : goal.returns-in-Ok-clause-is_finding
returns-in-Ok-clause-is_finding c =
    let options = c.args.options in
    let bytes = c.args.bytes.now in
    let ps = document_view c.in-Ok.document in
    let read = subst (λ k. IsReadAsDocumentIn k depth bytes ps) c.duplicate_keys_of.ensures c.in-Ok.ensures.ok in
    IfOk-weaker c.find_finite_double.result (λ (it : Finding). IsFindingOfDocument c.options_of.result ps it)
    (λ (it : Finding). IsFinding options bytes it)
    (λ it is. of_document options bytes ps it read (subst (λ o. IsFindingOfDocument o ps it) c.options_of.ensures is))
    c.find_finite_double.ensures.is_finding

pub returns-in-Ok-clause-accepts : goal.returns-in-Ok-clause-accepts
returns-in-Ok-clause-accepts c = λ h.
    let options = c.args.options in
    let bytes = c.args.bytes.now in
    let ps = document_view c.in-Ok.document in
    let read = subst (λ k. IsReadAsDocumentIn k depth bytes h.pairs) (sym c.duplicate_keys_of.ensures) h.read in
    let same = (c.in-Ok.ensures.only h.pairs read).0 in
    IfOk-weaker c.find_finite_double.result (λ (it : Finding). IsFindingOfDocument c.options_of.result ps it)
    (λ (it : Finding). it ≡ Nothing)
    (λ it is. nothing_found c.options_of.result ps h.pairs it same
    (subst (λ o. writable_in o.doubles (document h.pairs) ≡ true) (sym c.options_of.ensures) h.writable) is)
    c.find_finite_double.ensures.is_finding

-- reading gave a fault, and did not run out of memory
pub returns-in-Err-Malformed-clause-accepts : goal.returns-in-Err-Malformed-clause-accepts
returns-in-Err-Malformed-clause-accepts c = λ h.
    let read = subst (λ k. IsReadAsDocumentIn k depth c.args.bytes.now h.pairs) (sym c.duplicate_keys_of.ensures) h.read in
    let only = (c.in-Err-Malformed.ensures.only h.pairs read).1 in
    let is = c.in-Err-Malformed.field-0-is in
    absurd cc
