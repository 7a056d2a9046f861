use Rattle.std.proofs.Common.{◌∙◌, ap, refl, subst, sym}
use Rattle.bson.specs.TextMeaning.{TextMeansInKeyOrder}
use Rattle.bson_model.specs.Value.{document}
use Rattle.bson_run.specs.Encode.{Encodes}
use Rattle.vbson.proofs.Causes.{unencoded}
use Rattle.vbson.proofs.Preprocessed.{no_value, of_under, read_by, under, unread}
use Rattle.vbson.specs.Convert.{status_of}
use Rattle.vbson.specs.Reading.{IsTextEncodeFailure}
use Rattle.vbson.proofs.encode.encode_under.Goals as goal

pub returns-in-Ok-encode-clause-ok : goal.returns-in-Ok-encode-clause-ok
returns-in-Ok-encode-clause-ok c =
    let is = read_by _ _ _ _ _ c.in-Ok.new_text c.options_of.ensures refl c.in-Ok.ensures.ok c.text_to_read.ensures in
    under (λ p x. Encodes p.key_order p x c.in-Ok-encode.bytes.items) _ _ _ _ is c.in-Ok-encode.ensures.ok

pub returns-clause-accepts : goal.returns-clause-accepts
returns-clause-accepts c = λ pairs h fits.
    let is = read_by _ _ _ _ _ c.in-Ok.new_text c.options_of.ensures refl c.in-Ok.ensures.ok c.text_to_read.ensures in
    let means = of_under (λ p x. TextMeansInKeyOrder p.key_order p.doubles x (document pairs)) _ _ _ _ is h in
    c.status_of.ensures ∙ ap status_of (c.in-Err-encode.ensures.accepts pairs means fits)

pub returns-clause-error_status : goal.returns-clause-error_status
returns-clause-error_status c =
    let is = read_by _ _ _ _ _ c.in-Ok.new_text c.options_of.ensures refl c.in-Ok.ensures.ok c.text_to_read.ensures in
    subst (λ s. IsTextEncodeFailure c.args.options s c.args.text.now) (sym c.status_of.ensures)
    (unencoded _ _ _ _ is c.in-Err-encode.fault c.in-Err-encode.ensures.fault)

pub returns-in-Err-clause-accepts : goal.returns-in-Err-clause-accepts
returns-in-Err-clause-accepts c = λ pairs h fits. c.in-Err.ensures.rejected.accepts h.read_text h.read_as

pub returns-in-Err-clause-error_status : goal.returns-in-Err-clause-error_status
returns-in-Err-clause-error_status c = no_value _ _ _ (unread c.args.options c.in-Err.status c.args.text.now c.in-Err.ensures.rejected)
