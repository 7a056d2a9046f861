-- How long the text of a moment is.
use Rattle.std.proofs.Common.{◌≡◌, ℕ, ◌%◌, ◌≤◌, ◌==◌, inl, inr, arith, List, [], ◌++◌, length}
use Rattle.std.proofs.Common.{length-append, ℤ, pos}
use Rattle.std.specs.Prelude.{codes, if◌then◌else◌}
use Rattle.std.proofs.lemmas.Bool.{cases_Bool}
use Rattle.jiff.proofs.SpanFacts.{signed_arith}
use Rattle.bson_datetime.specs.CivilTime.{CivilDateTime, IsRfc3339Millis}
use Rattle.bson_datetime.specs.DateTimeText.{thousandths_text, rfc3339_text, civil_rfc3339_text}
use Rattle.bson_datetime.proofs.DisplayedLemmas.{civil_of_millis-jiff}
use Rattle.bson_datetime.proofs.MomentExists.{moment_at}
use Rattle.bson_datetime.proofs.MomentLemmas.{moment-not_negative}

thousandths_text-length : (n : ℕ) → length (thousandths_text n) ≤ 3
thousandths_text-length n =
    elim (cases_Bool (n % 100 == 0)) [
      | inl a ↦ rw a (omega arith)
      | inr a ↦ elim (cases_Bool (n % 10 == 0)) [
        | inl b ↦ rw (a, b) (omega arith)
        | inr b ↦ rw (a, b) (omega arith)
      ]
    ]

-- the fraction of a second
abbrev fraction : ℕ → List ℕ
fraction n = if n == 0 then [] else codes "." ++ thousandths_text n

fraction-length : (n : ℕ) → length (fraction n) ≤ 4
fraction-length n =
    elim (cases_Bool (n == 0)) [
      | inl a ↦ rw a (omega arith)
      | inr a ↦ rw a (omega (arith, thousandths_text-length n))
    ]

civil_rfc3339_text-length : (c : CivilDateTime) (y : ℕ) → c.year ≡ pos y → length (civil_rfc3339_text c) ≤ 24
civil_rfc3339_text-length c y year =
    rw year (omega (arith, length-append (fraction c.millisecond) (codes "Z"), fraction-length c.millisecond))

-- the text of a moment of the years 0000 to 9999 has at most 24 bytes
pub rfc-length : (ms : ℤ) → IsRfc3339Millis ms → length (rfc3339_text ms) ≤ 24
unfolding rfc3339_text
rfc-length ms h =
    let at = moment_at ms (omega (arith, signed_arith, h.0), h.1) in
    let year = moment-not_negative ms at.0 at.1 h.0 in
    rw (civil_of_millis-jiff ms at.0 at.1) (civil_rfc3339_text-length _ year.0 year.1)
