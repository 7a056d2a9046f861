use Rattle.std.proofs.Common.{◌≡◌, ◌∙◌, ap, subst, string_bytes}
use Rattle.bson_scalar.specs.Forms.{form_in}
use Rattle.bson.specs.Doubles.TheVariants.{Finite}
use Rattle.bson.specs.Form.TheVariants.{Canonical}
use Rattle.bson.specs.Texts.{IsTextInKeyOrder, IsTextInOrder}
use Rattle.bson.specs.Value.{document}
use Rattle.bson.specs.View.{bson_view}
use Rattle.bson.specs.declared.bson.Bson.TheVariants.{Document as held}
use Rattle.bson.specs.Options.{Options}
use Rattle.bson_pairs.proofs.Seen.{document_seen}
use Rattle.bson_pairs.proofs.round_trip.decode_bytes.Goals as goal

pub returns-in-Err-clause-only : goal.returns-in-Err-clause-only
returns-in-Err-clause-only c = λ ps read. (c.in-Err.ensures.only ps read).1

pub returns-in-Ok-into_text-clause-ok : goal.returns-in-Ok-into_text-clause-ok
returns-in-Ok-into_text-clause-ok c = λ ps read.
    let d = c.in-Ok.document in
    let text = string_bytes c.in-Ok-into_text.text in
    let is : bson_view (held d) ≡ document ps = document_seen d ∙ ap document (c.in-Ok.ensures.only ps read).0 in
    subst (λ v. IsTextInOrder Finite Canonical v text) is
    (subst (λ (o : Options). IsTextInKeyOrder o.key_order o.doubles (form_in o.layout Canonical) (bson_view (held d)) text) c.options.ensures
    c.in-Ok-into_text.ensures.text)
