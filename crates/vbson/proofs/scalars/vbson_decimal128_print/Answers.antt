use Rattle.std.proofs.Common.{IsUtf8, length, ap, arith, subst, sym}
use Rattle.std.proofs.lemmas.Str.{IsUtf8-string_bytes}
use Rattle.bson_decimal.proofs.Offered.{display_text-length}
use Rattle.vbson.proofs.scalars.vbson_decimal128_print.Goals as goal

pub write_string-requires : goal.write_string-requires
write_string-requires c = subst IsUtf8 (sym c.as_bytes.ensures.value) (IsUtf8-string_bytes c.in-Ok.text)

pub returns-in-Ok-clause-fits : goal.returns-in-Ok-clause-fits
returns-in-Ok-clause-fits c enough is =
    omega (arith, (c.write_string.ensures.too_small is).too_short, display_text-length c.from_bytes.result, ap length c.in-Ok.ensures.ok)
