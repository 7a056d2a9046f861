use Rattle.std.proofs.Common.{◌≡◌, ℕ, ◌&&◌, nat_le, true, Some, sym, ap, ◌∙◌, arith, pos, to_z, to_z-of_z, FitsSigned}
use Rattle.std.proofs.Common.{w8, w16, w32, w64}
use Rattle.std.proofs.lemmas.Bool.Decides.{nat_tests}
use Rattle.std.proofs.lemmas.Int.{to_z_pos}
use Rattle.jiff.proofs.SpanFacts.{signed_arith}
use Rattle.jiff.specs.Types.{Date}
use Rattle.jiff.specs.Words.{days_in_month, epoch_day}
use Rattle.bson_datetime.specs.Rfc3339Parser.{day_number}
use Rattle.bson_datetime.proofs.rfc3339.day_number.Goals as goal

-- the day number of jiff's date with these parts
day_number-date : (date : Date) (y m d : ℕ) → date.year ≡ pos y → pos date.month ≡ pos m → pos date.day ≡ pos d
    → day_number y m d ≡ Some (epoch_day date)
unfolding day_number
day_number-date date y m d year month day =
    let month : date.month ≡ m = omega (arith, signed_arith) in
    let day : date.day ≡ d = omega (arith, signed_arith) in
    let in_month : nat_le 1 date.month && nat_le date.month 12 && nat_le 1 date.day
    && nat_le date.day (days_in_month date.year date.month) ≡ true =
    grind (arith, nat_tests, date.month_in, date.day_in) in
    let test = rw (year, month, day) at in_month in
    rw (test, year, month, day)

pub returns-in-Ok-clause-value : goal.returns-in-Ok-clause-value
returns-in-Ok-clause-value c =
    let parts = c.in-Ok.ensures.value in
    let y : to_z w16 c.args.year ≡ pos c.args.year = to_z_pos w16 _ (omega arith) in
    let m : to_z w8 c.args.month ≡ pos c.args.month = to_z_pos w8 _ (omega arith) in
    let d : to_z w8 c.args.day ≡ pos c.args.day = to_z_pos w8 _ (omega arith) in
    let is = day_number-date c.in-Ok.date _ _ _ (parts.0 ∙ y) (parts.1 ∙ m) (parts.2 ∙ d) in
    let narrow : FitsSigned w32 c.to_unix_epoch_day.result = omega (arith, signed_arith) in
    let wide : FitsSigned w64 c.to_unix_epoch_day.result = omega (arith, signed_arith) in
    rw (to_z-of_z narrow, to_z-of_z wide) (ap Some (c.to_unix_epoch_day.ensures.value ∙ ap epoch_day c.to_plain.ensures)
    ∙ sym is)
