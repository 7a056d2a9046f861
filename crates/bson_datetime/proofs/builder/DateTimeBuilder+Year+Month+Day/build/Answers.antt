use Rattle.std.proofs.Common.{◌≡◌, ℕ, ◌+◌, ◌*◌, ◌<◌, ◌∙◌, arith, ℤ, pos, ◌+ℤ◌, ◌*ℤ◌, to_z, of_z, to_z-of_z, FitsSigned}
use Rattle.std.proofs.Common.{w32, w64, refl, rules}
use Rattle.std.proofs.lemmas.Int.{to_z_pos}
use Rattle.jiff.proofs.SpanFacts.{signed_arith}
use Rattle.jiff.specs.Words.{IsEpochDay}
use Rattle.bson_datetime.proofs.DisplayedLemmas.{civil_of_millis-moment}
use Rattle.bson_datetime.proofs.builder.DateTimeBuilder+Year+Month+Day.build.Goals as goal

-- no step of the sum wraps
exact : (day : ℤ) (time : ℕ) → IsEpochDay day → time < 86_400_000
    → to_z w64 (of_z w64 (to_z w64 (of_z w64 (to_z w64 (of_z w64 day) *ℤ pos 86_400_000)) +ℤ to_z w64 time))
    ≡ day *ℤ pos 86_400_000 +ℤ pos time
exact day time dr tr =
    let fd : FitsSigned w64 day = omega (arith, signed_arith) in
    let f1 : FitsSigned w64 (day *ℤ pos 86_400_000) = omega (arith, signed_arith) in
    let et : to_z w64 time ≡ pos time = to_z_pos w64 time (omega arith) in
    let f2 : FitsSigned w64 (day *ℤ pos 86_400_000 +ℤ pos time) = omega (arith, signed_arith) in
    rw (to_z-of_z fd, to_z-of_z f1, et, to_z-of_z f2) refl

-- the date and time that was set exists
told_exists : goal.returns-clause-exists
told_exists c =
    let fy : FitsSigned w32 c.args.self.year.calendar_value = search rules in
    let date = rw (to_z-of_z fy) at (c.in_ok-day.ensures.exists.0 refl) in
    (λ ok. (date, omega arith, omega arith, omega arith, omega arith), λ reported. refl)

moment : goal.returns-clause-value
moment c =
    let fy : FitsSigned w32 c.args.self.year.calendar_value = search rules in
    let day = rw (to_z-of_z fy) at c.in_ok-day.ensures.value in
    let time =
    (c.unwrap_or-hour.result * 3600 + c.unwrap_or-minute.result * 60 + c.unwrap_or-second.result) * 1000
    + c.unwrap_or-millisecond.result in
    let sum = exact c.in_ok-day.day time c.in_ok-day.ensures.bound (omega arith) in (
      (told_exists c).0 refl,
      rw (
        ← day,
        ← c.unwrap_or-hour.ensures,
        ← c.unwrap_or-minute.ensures,
        ← c.unwrap_or-second.ensures,
        ← c.unwrap_or-millisecond.ensures,
      ) (c.from_millis.ensures ∙ sum),
    )

pub returns-clause-exists : goal.returns-clause-exists
returns-clause-exists c = told_exists c

pub returns-clause-value : goal.returns-clause-value
returns-clause-value c = moment c

pub returns-clause-fields : goal.returns-clause-fields
returns-clause-fields c = civil_of_millis-moment _ _ (moment c)
