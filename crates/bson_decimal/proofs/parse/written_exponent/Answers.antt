use Rattle.std.proofs.Common.{◌<◌, get_or, arith}
use Rattle.std.proofs.lemmas.Str.{IsCharBoundary-after_ascii}
use Rattle.bson_decimal.proofs.parse.written_exponent.Goals as goal

pub range_from-exponent_text-requires : goal.range_from-exponent_text-requires
range_from-exponent_text-requires c =
    let within = c.exponent_mark_at-mark_index.ensures.within in
    let low : get_or c.args.unsigned_text.now c.exponent_mark_at-mark_index.result 0 < 128 =
    rw c.as_bytes.ensures.value at c.exponent_mark_at-mark_index.ensures.ascii (omega arith) in
    λ _. IsCharBoundary-after_ascii c.args.unsigned_text.now c.exponent_mark_at-mark_index.result c.utf8.unsigned_text (omega arith) low
