use Rattle.std.proofs.Common.{◌∙◌, sym, subst, IsUtf8}
use Rattle.std.proofs.lemmas.Result.{err_from_is_err_and}
use Rattle.std.proofs.lemmas.Str.{IsUtf8-string_bytes}
use Rattle.bson.specs.Doubles.TheVariants.{Finite}
use Rattle.bson.specs.Form.TheVariants.{Canonical}
use Rattle.bson.specs.TextMeaning.{TextMeansInKeyOrder}
use Rattle.bson.specs.Options.{Options}
use Rattle.bson.specs.Texts.{IsTextInOrder}
use Rattle.bson.specs.Value.{document}
use Rattle.bson_run.specs.Encode.{Encodes}
use Rattle.bson_pairs.proofs.ComingBack.{encoded_again, means_again, read_again}
use Rattle.bson_pairs.proofs.round_trip.round_trip_bytes.Goals as goal

pub returns-in_err-text-clause-only : goal.returns-in_err-text-clause-only
returns-in_err-text-clause-only c = λ ps canonical back.
    let p = err_from_is_err_and c.from_residual.result c.from_residual.ensures.1 in
    rw (p.1, p.2) (c.in_err-text.ensures.only ps canonical.read)

pub returns-in-Ok-clause-same : goal.returns-in-Ok-clause-same
returns-in-Ok-clause-same c = λ ps canonical back.
    let text = c.as_bytes.result.now in
    let is : IsTextInOrder Finite Canonical (document ps) text =
    subst (IsTextInOrder Finite Canonical (document ps)) (sym c.as_bytes.ensures.value)
    (c.in_ok-text.ensures.ok ps canonical.read) in
    encoded_again ps text is back c.in-Ok.round_trip.items
    (subst (λ (o : Options). Encodes o.key_order o text c.in-Ok.round_trip.items) c.options.ensures c.in-Ok.ensures.ok)
    ∙ sym canonical.written

pub returns-clause-only : goal.returns-clause-only
returns-clause-only c = λ ps canonical back.
    let text = c.as_bytes.result.now in
    let is : IsTextInOrder Finite Canonical (document ps) text =
    subst (IsTextInOrder Finite Canonical (document ps)) (sym c.as_bytes.ensures.value)
    (c.in_ok-text.ensures.ok ps canonical.read) in
    let utf8 : IsUtf8 text = subst IsUtf8 (sym c.as_bytes.ensures.value) (IsUtf8-string_bytes c.in_ok-text.text) in
    c.in-Err.ensures.accepts ps
    (subst (λ (o : Options). TextMeansInKeyOrder o.key_order o.doubles text (document ps)) (sym c.options.ensures)
    (is.tree, utf8, read_again ps text is back, means_again ps text is back)) canonical.fits
