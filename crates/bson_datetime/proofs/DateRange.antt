-- A moment that a text names is in the range of an i64.
use Rattle.std.proofs.Common.{◌<◌, ◌+◌, ◌-◌, ◌*◌, ◌^◌, ℕ, zero, suc, ℤ, pos, List, [], ◌∷◌, refl, sym, subst, w64}
use Rattle.std.proofs.Common.{arith}
use Rattle.std.specs.Prelude.{FitsSigned, int_div}
use Rattle.std.specs.Char.{IsAsciiDigit}
use Rattle.std.specs.List.{All}
use Rattle.std.proofs.lemmas.Nat.{mul-add-lt}
use Rattle.jiff.proofs.SpanFacts.{signed_arith}
use Rattle.jiff_core.specs.Calendar.{IsCivilDate, IsEpochDay, IsWithin, days_from_civil}
use Rattle.jiff.specs.Types.{Date}
use Rattle.jiff_core.proofs.DateLemmas.{epoch_day_range}
use Rattle.jiff_fmt.specs.Reader.{fraction_value}
use Rattle.jiff_fmt.proofs.ReaderLemmas.{tenth, ten_pow-pos}
use Rattle.bson_datetime.specs.Rfc3339Parser.{epoch_nanos}
use Rattle.bson_datetime.specs.Rfc3339Grammar.{DenotesDateTime, Offset, utc, plus, minus, IsOffsetInRange, offset_seconds}

day_range : (y m d : ℕ) → IsCivilDate (pos y) m d → IsEpochDay (days_from_civil (pos y) m d)
day_range y m d is =
    let date : Date = record { year = pos y; month = m; day = d; year_in = is.0; month_in = is.1; day_in = is.2 } in
    epoch_day_range date

offset_range : (o : Offset) → IsOffsetInRange o → IsWithin 86_399 (offset_seconds o)
offset_range (utc c) h = omega (arith, signed_arith)
offset_range (plus h m) is = let a : h < 24 = is.0 in let b : m < 60 = is.1 in omega (arith, signed_arith)
offset_range (minus h m) is = let a : h < 24 = is.0 in let b : m < 60 = is.1 in omega (arith, signed_arith)

fits : (day o : ℤ) (s n : ℕ) → IsEpochDay day → s < 86_400 → n < 1_000_000_000 → IsWithin 86_399 o
    → FitsSigned w64 (int_div (epoch_nanos day s n o) (pos 1_000_000))
fits day o s n a b c d = omega (arith, signed_arith)

fraction_small : (k : ℕ) (ds : List ℕ) → All IsAsciiDigit ds → fraction_value k ds < 10 ^ k
unfolding fraction_value
fraction_small zero ds are = omega arith
fraction_small (suc k) [] are = ten_pow-pos (suc k)
fraction_small (suc k) (d ∷ ds) are =
    let digit : IsAsciiDigit d = are 0 0 (omega arith) in
    let worth : d - 48 < 10 = omega (arith, digit) in
    let rest = fraction_small k ds (λ i x before. are (suc i) x (omega (arith, before))) in
    omega (arith, mul-add-lt (d - 48) (10 ^ k) (fraction_value k ds) 10 worth rest, tenth (suc k) k refl)

pub named_fits : (s : List ℕ) (z : ℤ) → DenotesDateTime s z → FitsSigned w64 z
named_fits s z n =
    let p = n.parts in
    let r = n.in_ranges in
    let hour : p.hour < 24 = r.hour in
    let minute : p.minute < 60 = r.minute in
    let second : p.second < 60 = r.second in
    let day = day_range p.year p.month p.day r.date in
    let fraction : fraction_value 9 p.fraction < 1_000_000_000 = fraction_small 9 p.fraction r.fraction in
    subst (FitsSigned w64) (sym n.moment)
    (fits (days_from_civil (pos p.year) p.month p.day) (offset_seconds p.offset)
    (p.hour * 3600 + p.minute * 60 + p.second) (fraction_value 9 p.fraction) day (omega arith) fraction
    (offset_range p.offset r.offset))
