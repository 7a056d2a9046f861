use Rattle.std.proofs.Common.{◌∙◌, ap, refl, subst, sym}
use Rattle.bson.specs.View.{bson_view}
use Rattle.vbson.proofs.Causes.{rejected}
use Rattle.vbson.proofs.Preprocessed.{meant, means_under, one_meaning, read_by, unread}
use Rattle.vbson.specs.Convert.{status_of}
use Rattle.vbson.specs.Reading.{IsTextReadFailure}
use Rattle.vbson.proofs.reading.value_of_text.Goals as goal

pub returns-in-Ok-from_text-clause-ok : goal.returns-in-Ok-from_text-clause-ok
returns-in-Ok-from_text-clause-ok c =
    let is = read_by _ _ _ _ _ c.in-Ok.new_text c.options_of-conversion_options.ensures refl c.in-Ok.ensures.ok c.text_to_read.ensures in
    means_under _ _ _ _ (bson_view c.in-Ok-from_text.value) is c.in-Ok-from_text.ensures.ok

pub returns-in-Ok-from_text-clause-unique_value : goal.returns-in-Ok-from_text-clause-unique_value
returns-in-Ok-from_text-clause-unique_value c = λ value means.
    let is = read_by _ _ _ _ _ c.in-Ok.new_text c.options_of-conversion_options.ensures refl c.in-Ok.ensures.ok c.text_to_read.ensures in
    one_meaning _ _ value (bson_view c.in-Ok-from_text.value) (meant _ _ _ _ value is means) c.in-Ok-from_text.ensures.ok

pub returns-clause-accepts : goal.returns-clause-accepts
returns-clause-accepts c = λ value means.
    let is = read_by _ _ _ _ _ c.in-Ok.new_text c.options_of-conversion_options.ensures refl c.in-Ok.ensures.ok c.text_to_read.ensures in
    let m = meant _ _ _ _ value is means in
    let memory = c.in-Err-from_text.ensures.accepts m.tree value m.text m.meaning.means in
    c.status_of.ensures ∙ ap status_of (c.error_of.ensures.memory memory)

pub returns-clause-rejected : goal.returns-clause-rejected
returns-clause-rejected c =
    let is = read_by _ _ _ _ _ c.in-Ok.new_text c.options_of-conversion_options.ensures refl c.in-Ok.ensures.ok c.text_to_read.ensures in
    let fault = c.error_of.ensures.cause c.options_of-conversion_options.result _ c.in-Err-from_text.ensures.fault in
    subst (λ s. IsTextReadFailure c.args.options s c.args.text.now) (sym c.status_of.ensures)
    (rejected _ _ _ _ is c.error_of.result fault)

pub returns-in-Err-clause-accepts : goal.returns-in-Err-clause-accepts
returns-in-Err-clause-accepts c = λ value means. c.in-Err.ensures.rejected.accepts means.read_text means.read_as

pub returns-in-Err-clause-rejected : goal.returns-in-Err-clause-rejected
returns-in-Err-clause-rejected c = unread c.args.options c.in-Err.status c.args.text.now c.in-Err.ensures.rejected
