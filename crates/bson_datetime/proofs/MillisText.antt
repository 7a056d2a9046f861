-- The RFC 3339 text of a moment with three digits of its fraction, and that it denotes the moment.
use Rattle.std.proofs.Common.{◌≡◌, ℕ, ◌*◌, ◌/◌, ◌%◌, ◌<◌, ◌==◌, ◌++◌, false, [], ◌∷◌, Some, refl, sym, ap, ◌∙◌, arith, ℤ, pos}
use Rattle.std.proofs.Common.{take_at, drop_at, List, int_div, ◌-◌, ◌^◌, ◌+◌}
use Rattle.std.proofs.Common.{inl, inr}
use Rattle.std.proofs.Math.Nat.{eq-zero-or-pos}
use Rattle.std.proofs.lemmas.Bool.Decides.{nat_tests}
use Rattle.std.proofs.lemmas.List.{append_assoc}
use Rattle.std.specs.Char.{is_ascii_digit}
use Rattle.std.specs.List.{prefix_len}
use Rattle.jiff.specs.Types.{DateTime}
use Rattle.jiff.specs.Words.{epoch_day}
use Rattle.jiff.proofs.Family.{civil_nanos-parts}
use Rattle.jiff.proofs.SpanFacts.{signed_arith}
use Rattle.jiff_core.specs.Time.{time_seconds}
use Rattle.jiff_fmt.specs.Reader.{fraction_value}
use Rattle.jiff_fmt.specs.Text.{datetime_text, fraction, fraction_part as fraction_text, pad2, pad4, places}
use Rattle.jiff_fmt.proofs.TextLemmas.{places-read}
use Rattle.bson_datetime.specs.CivilTime.{CivilDateTime, HasCivilTime, IsRfc3339Millis}
use Rattle.bson_datetime.specs.DateTimeText.{civil_rfc3339_millis_text, rfc3339_millis_text, rfc3339_text, three_digit_text}
use Rattle.bson_datetime.specs.JiffConversion.{HasJiffTime}
use Rattle.bson_datetime.specs.Rfc3339Parser.{after_letter, epoch_nanos, fraction_part, offset_part, parsed_rfc3339_millis}
use Rattle.bson_datetime.proofs.DisplayedLemmas.{civil_of_millis-jiff, civil_of_millis-moment}
use Rattle.bson_datetime.proofs.MomentExists.{moment_at}
use Rattle.bson_datetime.proofs.MomentLemmas.{moment-not_negative}
use Rattle.bson_datetime.proofs.RfcLemmas.{places_three}
use Rattle.bson_datetime.proofs.RoundTrip.{date_part-text, epoch_nanos-moment, int_div-whole, named_moment-rfc, time_part-text}

-- jiff's text with three places, of whole milliseconds that are not zero
pub millis-jiff : (ms : ℤ) (at : DateTime) (y : ℕ) → HasJiffTime ms at → at.date.year ≡ pos y
    → (at.time.subsec_nanosecond ≡ 0 → ⊥) → rfc3339_millis_text ms ≡ datetime_text false 84 (Some 3) at ++ 90 ∷ []
unfolding rfc3339_millis_text
millis-jiff ms at y is year some =
    let k = at.time.subsec_nanosecond / 1_000_000 in
    let whole : k * 1_000_000 ≡ at.time.subsec_nanosecond = omega (arith, signed_arith, civil_nanos-parts at) in
    let test : (k == 0) ≡ false = grind (arith, nat_tests, whole, some) in
    let part : places 3 1_000_000_000 (k * 1_000_000) ≡ three_digit_text k = places_three k in
    let part_of : places 3 1_000_000_000 at.time.subsec_nanosecond ≡ three_digit_text k = rw whole at part in
    rw (civil_of_millis-jiff ms at is, year, test, part_of) (simp append_assoc refl)

-- without a fraction the texts are the same
pub millis-whole : (ms : ℤ) (at : DateTime) → HasJiffTime ms at → at.time.subsec_nanosecond ≡ 0
    → rfc3339_millis_text ms ≡ rfc3339_text ms
unfolding rfc3339_millis_text rfc3339_text
millis-whole ms at is none =
    let zero : at.time.subsec_nanosecond / 1_000_000 ≡ 0 = omega (arith, none) in
    rw (civil_of_millis-jiff ms at is, zero) refl

-- three places before the `Z`
three_places-text : (n : ℕ) → n < 1_000_000_000 → n % 1_000_000 ≡ 0
    → fraction_part (fraction_text (Some 3) n ++ 90 ∷ []) ≡ Some (n, 90 ∷ [])
unfolding fraction_part
three_places-text n high whole =
    let rest : List ℕ = 90 ∷ [] in
    let facts = places-read 3 9 n rest (omega arith) high in
    let count : prefix_len is_ascii_digit (places 3 1_000_000_000 n ++ rest) ≡ 3 = omega (arith, facts.0) in
    let value : fraction_value 9 (places 3 1_000_000_000 n) ≡ n = omega (arith, facts.2, whole) in
    rw (
      count,
      take_at (places 3 1_000_000_000 n) rest 3 facts.1,
      drop_at (places 3 1_000_000_000 n) rest 3 facts.1,
      value,
    )

parsed_millis-parts : (at : DateTime) (y : ℕ) (ms : ℤ) → at.date.year ≡ pos y → y < 10_000 → HasJiffTime ms at
    → parsed_rfc3339_millis (datetime_text false 84 (Some 3) at ++ 90 ∷ []) ≡ Some ms
unfolding parsed_rfc3339_millis after_letter offset_part
parsed_millis-parts at y ms year small is =
    let d = at.date in
    let t = at.time in
    let after_second = fraction_text (Some 3) t.subsec_nanosecond ++ 90 ∷ [] in
    let after_t = pad2 t.hour ++ 58 ∷ pad2 t.minute ++ 58 ∷ pad2 t.second ++ after_second in
    let shape : datetime_text false 84 (Some 3) at ++ 90 ∷ [] ≡ pad4 y ++ 45 ∷ pad2 d.month ++ 45 ∷ pad2 d.day ++ 84 ∷ after_t =
    rw year (simp append_assoc refl) in
    let whole : t.subsec_nanosecond % 1_000_000 ≡ 0 = omega (arith, signed_arith, civil_nanos-parts at) in
    let value : int_div (epoch_nanos (epoch_day d) (time_seconds t) t.subsec_nanosecond (pos 0)) (pos 1_000_000) ≡ ms =
    rw (epoch_nanos-moment at, is) (int_div-whole ms) in
    rw (
      shape,
      date_part-text d y (84 ∷ after_t) year small,
      time_part-text t after_second,
      three_places-text t.subsec_nanosecond t.subsec_in whole,
      value,
    )

-- the text with three places denotes the moment
pub millis-denoted : (ms : ℤ) (at : DateTime) → HasJiffTime ms at → IsRfc3339Millis ms
    → (at.time.subsec_nanosecond ≡ 0 → ⊥) → parsed_rfc3339_millis (rfc3339_millis_text ms) ≡ Some ms
millis-denoted ms at is h some =
    let year = moment-not_negative ms at is h.0 in
    rw (millis-jiff ms at year.0 is year.1 some)
    (parsed_millis-parts at year.0 ms year.1 (omega (arith, signed_arith, at.date.year_in, year.1)) is)

pub millis-fields : (ms : ℤ) (c : CivilDateTime) → HasCivilTime ms c → rfc3339_millis_text ms ≡ civil_rfc3339_millis_text c
unfolding rfc3339_millis_text
millis-fields ms c is = rw (civil_of_millis-moment ms c is) refl

-- every millisecond of the years 0000 to 9999 comes back from its text
pub named_moment-millis : (ms : ℤ) → IsRfc3339Millis ms → parsed_rfc3339_millis (rfc3339_millis_text ms) ≡ Some ms
named_moment-millis ms h =
    let at = moment_at ms (omega (arith, signed_arith, h.0), h.1) in
    elim (eq-zero-or-pos at.0.time.subsec_nanosecond) [
      | inl none ↦ rw (millis-whole ms at.0 at.1 none) (named_moment-rfc ms h)
      | inr some ↦ millis-denoted ms at.0 at.1 h (λ none. omega (arith, none, some))
    ]
