use Rattle.std.proofs.Common.{◌≡◌, ℕ, ◌<◌, arith, refl, ℤ, pos, ◌+ℤ◌, ◌-ℤ◌, ◌*ℤ◌, FitsSigned, to_z, of_z, to_z-of_z}
use Rattle.std.proofs.Common.{w32, w64}
use Rattle.std.specs.Int.{w128}
use Rattle.std.proofs.lemmas.Int.{to_z_pos}
use Rattle.jiff.proofs.SpanFacts.{signed_arith}
use Rattle.jiff.specs.Words.{IsEpochDay, IsWithin}
use Rattle.bson_datetime.specs.Rfc3339Parser.{epoch_nanos}
use Rattle.bson_datetime.proofs.rfc3339.epoch_nanos.Goals as goal

-- no step of the sum wraps
exact : (day : ℤ) (s n : ℕ) (o : ℤ) → IsEpochDay day → s < 86_400 → n < 1_000_000_000 → IsWithin 86_399 o
    → to_z w128
    (of_z w128
    (to_z w128
    (of_z w128
    (to_z w128
    (of_z w128
    (to_z w64
    (of_z w64
    (to_z w64 (of_z w64 (to_z w64 (of_z w64 (to_z w64 (of_z w64 day) *ℤ pos 86_400)) +ℤ to_z w64 s)) -ℤ to_z w64
    (of_z w64 (to_z w32 (of_z w32 o))))))) *ℤ pos 1_000_000_000)) +ℤ to_z w128 n)) ≡ epoch_nanos day s n o
exact day s n o dr sr nr wr =
    let fd : FitsSigned w64 day = omega (arith, signed_arith) in
    let f1 : FitsSigned w64 (day *ℤ pos 86_400) = omega (arith, signed_arith) in
    let es : to_z w64 s ≡ pos s = to_z_pos w64 s (omega arith) in
    let f2 : FitsSigned w64 (day *ℤ pos 86_400 +ℤ pos s) = omega (arith, signed_arith) in
    let fo : FitsSigned w32 o = omega (arith, signed_arith) in
    let fo' : FitsSigned w64 o = omega (arith, signed_arith) in
    let second = day *ℤ pos 86_400 +ℤ pos s -ℤ o in
    let f3 : FitsSigned w64 second = omega (arith, signed_arith) in
    let f4 : FitsSigned w128 second = omega (arith, signed_arith) in
    let f5 : FitsSigned w128 (second *ℤ pos 1_000_000_000) = omega (arith, signed_arith) in
    let en : to_z w128 n ≡ pos n = to_z_pos w128 n (omega arith) in
    let f6 : FitsSigned w128 (second *ℤ pos 1_000_000_000 +ℤ pos n) = omega (arith, signed_arith) in
    rw (
      to_z-of_z fd,
      to_z-of_z f1,
      es,
      to_z-of_z f2,
      to_z-of_z fo,
      to_z-of_z fo',
      to_z-of_z f3,
      to_z-of_z f4,
      to_z-of_z f5,
      en,
      to_z-of_z f6,
    ) refl

pub returns-clause-value : goal.returns-clause-value
returns-clause-value c =
    exact c.args.day c.args.seconds c.args.nanos c.args.offset c.requires.day c.requires.seconds c.requires.nanos
    c.requires.offset
