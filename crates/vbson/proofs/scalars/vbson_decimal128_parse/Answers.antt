use Rattle.std.proofs.Common.{sym, subst}
use Rattle.bson_decimal.specs.DecimalStrings.{DenotesDecimal}
use Rattle.vbson.proofs.scalars.vbson_decimal128_parse.Goals as goal

pub returns-in-Ok-from_str-clause-success : goal.returns-in-Ok-from_str-clause-success
returns-in-Ok-from_str-clause-success c z =
    subst (λ b. DenotesDecimal c.args.text.now b) (sym c.bytes.ensures.same)
    (subst (λ t. DenotesDecimal t c.in-Ok-from_str.decimal) c.in-Ok.ensures.cases.0 c.in-Ok-from_str.ensures.answer.0)

pub returns-in-Err-clause-no_such_text : goal.returns-in-Err-clause-no_such_text
returns-in-Err-clause-no_such_text c z u b p =
    c.in-Err.ensures.answer.0 b (subst (λ t. DenotesDecimal t b) (sym c.in-Ok.ensures.cases.0) p)
