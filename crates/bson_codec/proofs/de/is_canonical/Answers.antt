use Rattle.std.proofs.Common.{◌≡◌, sym, ap, subst, ◌∙◌}
use Rattle.std.proofs.lemmas.Slice.Eq.{bytes_eq-Decides}
use Rattle.bson_model.specs.Value.{Pairs}
use Rattle.bson_bytes.specs.ReadDocuments.{IsCanonical}
use Rattle.bson_bytes.specs.Writing.{FitsDocument, document_bytes}
use Rattle.bson.specs.View.{document_view}
use Rattle.bson_codec.proofs.Ends.{never, unless_written}
use Rattle.bson_codec.proofs.de.is_canonical.Goals as goal

pub returns-in-Err-Malformed : goal.returns-in-Err-Malformed
returns-in-Err-Malformed c =
    never ((ps : Pairs) × IsCanonical c.args.depth c.args.bytes.now ps) (λ x.
    let only = (c.in-Err-Malformed.ensures.only x.0 x.1.read).1 in
    let is = c.in-Err-Malformed.field-0-is in
    absurd cc)

pub returns-in-Ok-to_vec : goal.returns-in-Ok-to_vec
returns-in-Ok-to_vec c =
    let a = c.as_slice.result.now in
    let b = c.args.bytes.now in
    let v = document_view c.in-Ok.document in
    let made : a ≡ document_bytes v = c.as_slice.ensures.value ∙ c.in-Ok-to_vec.ensures.ok in (
      (λ t.
          let same : a ≡ b = (bytes_eq-Decides a b).0 (sym c.eq.ensures ∙ t) in
          (v, record { read = c.in-Ok.ensures.ok; fits = c.in-Ok-to_vec.ensures.fits; written = sym same ∙ made })),
      (λ x.
          let one : v ≡ x.0 = (c.in-Ok.ensures.only x.0 x.1.read).0 in
          c.eq.ensures ∙ (bytes_eq-Decides a b).1 (made ∙ ap document_bytes one ∙ sym x.1.written)),
    )

pub returns : goal.returns
returns c =
    unless_written c.is_unwritable.result c.in-Err.error ((ps : Pairs) × IsCanonical c.args.depth c.args.bytes.now ps)
    c.is_unwritable.ensures (λ x.
    let same = (c.in-Ok.ensures.only x.0 x.1.read).0 in
    c.in-Err.ensures.only (subst FitsDocument (sym same) x.1.fits))
