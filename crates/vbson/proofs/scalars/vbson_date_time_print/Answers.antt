use Rattle.std.proofs.Common.{IsUtf8, length, ap, arith, subst, sym}
use Rattle.std.proofs.lemmas.Str.{IsUtf8-string_bytes}
use Rattle.bson_datetime.proofs.Offered.{rfc-length}
use Rattle.vbson.proofs.scalars.vbson_date_time_print.Goals as goal

pub write_string-requires : goal.write_string-requires
write_string-requires c = subst IsUtf8 (sym c.as_bytes.ensures.value) (IsUtf8-string_bytes c.in-Ok.text)

pub returns-in-Ok-clause-fits : goal.returns-in-Ok-clause-fits
returns-in-Ok-clause-fits c enough is =
    let too_short = rfc-length c.from_millis.result c.in-Ok.ensures.in_years in
    omega (arith, (c.write_string.ensures.too_small is).too_short, too_short, ap length c.in-Ok.ensures.ok)
