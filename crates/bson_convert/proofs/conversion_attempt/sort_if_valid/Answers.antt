use Rattle.std.proofs.Common.{◌≡◌, ◌∙◌, arith, subst}
use Rattle.std.proofs.lemmas.Str.{IsUtf8-string_bytes}
use Rattle.std.specs.Prelude.{IsUtf8, string_bytes}
use Rattle.bson_tokens.specs.Normalized.{IsNormalizedText}
use Rattle.bson_model.specs.declared.options.KeyOrder.TheVariants.{Ascending}
use Rattle.bson_tokens.specs.TextErrors.{IsTextPlaceIn}
use Rattle.bson_convert.proofs.conversion_attempt.sort_if_valid.Goals as goal

pub returns-in-Ok-None-clause-ok : goal.returns-in-Ok-None-clause-ok
returns-in-Ok-None-clause-ok c =
    let D = c.args.options.doubles in
    let text = c.args.text.now in
    let normalized = c.in_ok-normalized.normalized in
    let whole : string_bytes normalized ≡ c.as_str.result.now = grind arith in
    let is = subst (IsNormalizedText Ascending text) whole c.in_ok-normalized.ensures.ok in
    let found = subst (IsTextPlaceIn D text) c.in-Ok-None.field-0-is (c.in-Ok-None.ensures.place text is) in
    let read = c.in_ok-normalized.ensures.same ∙ found.1 in (
      found.0,
      found.2.0,
      record { utf8 = IsUtf8-string_bytes normalized; tree_read = read },
      found.2.1,
    )

pub returns-in-Ok-Some-clause-fault : goal.returns-in-Ok-Some-clause-fault
returns-in-Ok-Some-clause-fault c =
    let D = c.args.options.doubles in
    let text = c.args.text.now in
    let whole : string_bytes c.in_ok-normalized.normalized ≡ c.as_str.result.now = grind arith in
    let is = subst (IsNormalizedText Ascending text) whole c.in_ok-normalized.ensures.ok in
    let found = subst (IsTextPlaceIn D text) c.in-Ok-Some.field-0-is (c.in-Ok-Some.ensures.place text is) in
    let utf8 : IsUtf8 text = grind arith in
    (found.0, record { utf8 = utf8; tree_read = found.1 }, found.2)
