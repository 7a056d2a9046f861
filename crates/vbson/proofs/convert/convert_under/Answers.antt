use Rattle.std.proofs.Common.{◌∙◌, ap, refl, subst, sym}
use Rattle.bson_convert.specs.Convert.{IsAccepted}
use Rattle.bson_convert.specs.InOrder.{ConvertsBy}
use Rattle.vbson.proofs.Causes.{rejected}
use Rattle.vbson.proofs.Converted.{line_under}
use Rattle.vbson.proofs.Preprocessed.{of_under, read_by, unread}
use Rattle.vbson.specs.Convert.{status_of}
use Rattle.vbson.specs.Reading.{IsTextReadFailure}
use Rattle.vbson.proofs.convert.convert_under.Goals as goal

pub returns-in-Ok-convert_text-clause-ok : goal.returns-in-Ok-convert_text-clause-ok
returns-in-Ok-convert_text-clause-ok c =
    let is = read_by _ _ _ _ _ c.in-Ok.new_text c.options_of.ensures refl c.in-Ok.ensures.ok c.text_to_read-read_text.ensures in
    let line = c.in-Ok-convert_text.ensures in
    line_under _ c.args.mode _ _ _ _ is line.ok line.utf8 line.again

pub returns-in-Ok-convert_text-clause-unique : goal.returns-in-Ok-convert_text-clause-unique
returns-in-Ok-convert_text-clause-unique c = λ other h.
    let is = read_by _ _ _ _ _ c.in-Ok.new_text c.options_of.ensures refl c.in-Ok.ensures.ok c.text_to_read-read_text.ensures in
    c.in-Ok-convert_text.ensures.unique other (of_under (λ p x. ConvertsBy p.key_order p c.args.mode x other) _ _ _ _ is h)

pub returns-clause-accepts : goal.returns-clause-accepts
returns-clause-accepts c = λ h.
    let is = read_by _ _ _ _ _ c.in-Ok.new_text c.options_of.ensures refl c.in-Ok.ensures.ok c.text_to_read-read_text.ensures in
    let means = of_under IsAccepted _ _ _ _ is h in
    c.status_of.ensures ∙ ap status_of (c.in-Err-convert_text.ensures.accepts means.0 means.1 means.2 means.3)

pub returns-clause-error_status : goal.returns-clause-error_status
returns-clause-error_status c =
    let is = read_by _ _ _ _ _ c.in-Ok.new_text c.options_of.ensures refl c.in-Ok.ensures.ok c.text_to_read-read_text.ensures in
    subst (λ s. IsTextReadFailure c.args.options s c.args.text.now) (sym c.status_of.ensures)
    (rejected _ _ _ _ is c.in-Err-convert_text.fault c.in-Err-convert_text.ensures.fault)

pub returns-in-Err-clause-accepts : goal.returns-in-Err-clause-accepts
returns-in-Err-clause-accepts c = λ h. c.in-Err.ensures.rejected.accepts h.read_text h.read_as

pub returns-in-Err-clause-error_status : goal.returns-in-Err-clause-error_status
returns-in-Err-clause-error_status c = unread c.args.options c.in-Err.status c.args.text.now c.in-Err.ensures.rejected
