use Rattle.std.proofs.Common.{string_bytes, sym, subst}
use Rattle.bson.specs.TextMeaning.{HasTextMeaningInKeyOrder}
use Rattle.bson.proofs.Meant.{meant_by_key, meant_by_first_places}
use Rattle.bson.proofs.extjson.text_reader.retry.normalize_by_key_order.Goals as goal

pub returns-in-Ascending-clause-keeps_meaning : goal.returns-in-Ascending-clause-keeps_meaning
returns-in-Ascending-clause-keeps_meaning c =
    let text = c.args.text.now in
    let s = string_bytes c.args.ascending_text in
    λ D v. subst (λ o. HasTextMeaningInKeyOrder o D s v → HasTextMeaningInKeyOrder o D text v) (sym c.in-Ascending.is)
    (meant_by_key D text c.utf8.text s v c.requires)

pub returns-in-Ok-clause-keeps_meaning : goal.returns-in-Ok-clause-keeps_meaning
returns-in-Ok-clause-keeps_meaning c =
    let text = c.args.text.now in
    let s = string_bytes c.in-Ok.normalized in
    λ D v. subst (λ o. HasTextMeaningInKeyOrder o D s v → HasTextMeaningInKeyOrder o D text v) (sym c.in-AsGiven.is)
    (meant_by_first_places D text c.utf8.text s v c.in-Ok.ensures.ok)

pub returns-in-Err-clause-fault : goal.returns-in-Err-clause-fault
returns-in-Err-clause-fault c = λ D. c.error_of_tree.ensures D c.args.text.now c.in-Err.ensures.broken
