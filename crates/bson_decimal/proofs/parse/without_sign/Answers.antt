use Rattle.std.proofs.Common.{◌≡◌, ◌<◌, List, ℕ, length, get_or, arith, false, eqb}
use Rattle.std.specs.Str.{IsUtf8, IsCharBoundary}
use Rattle.std.proofs.lemmas.Bool.Decides.{nat_tests}
use Rattle.std.proofs.lemmas.Str.{IsCharBoundary-after_ascii}
use Rattle.bson_decimal.proofs.parse.without_sign.Goals as goal

after_first : (s bs : List ℕ) (b : ℕ) → bs ≡ s → IsUtf8 s → false ≡ eqb (length bs) 0 → get_or bs 0 0 ≡ b → b < 128
    → IsCharBoundary s 1
after_first s bs b same utf8 some first low =
    let other : 0 < length bs = grind (arith, nat_tests) in
    let small : get_or bs 0 0 < 128 = omega arith in
    IsCharBoundary-after_ascii s 0 utf8 (rw same at other) (rw same at small)

pub range_from-requires : goal.range_from-requires
range_from-requires c = λ _. after_first c.args.text.now c.as_bytes-bytes.result.now 45 c.as_bytes-bytes.ensures.value
    c.utf8.text c.if-is_empty.ensures c.if-bytes-eq45.true (omega arith)

pub range_from-requires-then-bytes-eq43 : goal.range_from-requires-then-bytes-eq43
range_from-requires-then-bytes-eq43 c =
    λ _. after_first c.args.text.now c.as_bytes-bytes.result.now 43 c.as_bytes-bytes.ensures.value c.utf8.text
    c.if-is_empty.ensures c.if-bytes-eq43.true (omega arith)
