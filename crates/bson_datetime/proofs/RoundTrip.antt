-- What is written for a millisecond denotes it.
use Rattle.std.proofs.Common.{◌≡◌, ℕ, ℤ, pos, negsuc, zero, suc, ◌+◌, ◌-◌, ◌*◌, ◌/◌, ◌%◌, ◌^◌, ◌<◌, ◌≤◌, ◌==◌, ◌&&◌}
use Rattle.std.proofs.Common.{nat_le, take_at, drop_at, true, false, List, [], ◌∷◌, ◌++◌, Some, None, refl, ap, arith}
use Rattle.std.proofs.Common.{◌*ℤ◌, int_div}
use Rattle.std.proofs.lemmas.Bool.Decides.{nat_tests}
use Rattle.std.proofs.lemmas.List.{append_assoc}
use Rattle.std.specs.Char.{is_ascii_digit}
use Rattle.std.specs.Int.{is_in_range}
use Rattle.std.specs.List.{prefix_len}
use Rattle.jiff.specs.Types.{Date, Time, DateTime}
use Rattle.jiff.specs.Words.{epoch_day, civil_nanos, days_in_month, iso_datetime_text}
use Rattle.jiff.proofs.Family.{civil_nanos-parts}
use Rattle.jiff.proofs.SpanFacts.{signed_arith}
use Rattle.jiff_fmt.specs.Text.{pad2, pad4, places, fraction, fraction_part as fraction_text, significant}
use Rattle.jiff_fmt.specs.Text.{trailing_zeros}
use Rattle.jiff_fmt.specs.Reader.{fraction_value}
use Rattle.jiff_fmt.proofs.TextLemmas.{places-read, trailing_zeros-le, trailing_zeros-mod, significant-not_zero}
use Rattle.jiff_core.specs.Time.{time_seconds}
use Rattle.jiff_core.proofs.CalendarLemmas.{days_in_month_bounds}
use Rattle.bson_datetime.specs.JiffConversion.{HasJiffTime}
use Rattle.bson_datetime.specs.Rfc3339Parser.{two_digits, four_digits, two_digits_below, after_byte, after_letter, day_number}
use Rattle.bson_datetime.specs.Rfc3339Parser.{date_part, time_part, fraction_part, offset_part, parsed_rfc3339_millis, epoch_nanos}
use Rattle.bson_datetime.specs.CivilTime.{IsRfc3339Millis}
use Rattle.bson_datetime.specs.DateTimeText.{rfc3339_text}
use Rattle.bson_datetime.proofs.MomentExists.{moment_at}
use Rattle.bson_datetime.proofs.RfcLemmas.{rfc-jiff}
use Rattle.bson_datetime.proofs.MomentLemmas.{moment-not_negative}

pub two_digits-pad2 : (n : ℕ) (rest : List ℕ) → n < 100 → two_digits (pad2 n ++ rest) ≡ Some (n, rest)
unfolding two_digits
two_digits-pad2 n rest h =
    let digits : (is_in_range 48 57 (48 + n / 10) && is_in_range 48 57 (48 + n % 10)) ≡ true =
    grind (arith, nat_tests) in
    let value : (48 + n / 10 - 48) * 10 + (48 + n % 10 - 48) ≡ n = omega arith in
    rw (digits, value)

four_digits-pad4 : (n : ℕ) (rest : List ℕ) → n < 10_000 → four_digits (pad4 n ++ rest) ≡ Some (n, rest)
unfolding four_digits
four_digits-pad4 n rest h =
    let a = two_digits-pad2 (n / 100) (pad2 (n % 100) ++ rest) (omega arith) in
    let b = two_digits-pad2 (n % 100) rest (omega arith) in
    let value : n / 100 * 100 + n % 100 ≡ n = omega arith in
    rw (a, b, value)

pub digits_below-pad2 : (bound n : ℕ) (rest : List ℕ) → n < bound → bound ≤ 100
    → two_digits_below bound (pad2 n ++ rest) ≡ Some (n, rest)
unfolding two_digits_below
digits_below-pad2 bound n rest h k =
    let below : nat_le bound n ≡ false = grind (arith, nat_tests) in
    rw (two_digits-pad2 n rest (omega arith), below)

-- the day number of jiff's date with these parts
day_number-date : (date : Date) (y : ℕ) → date.year ≡ pos y → day_number y date.month date.day ≡ Some (epoch_day date)
unfolding day_number
day_number-date date y year =
    let in_month : nat_le 1 date.month && nat_le date.month 12 && nat_le 1 date.day
    && nat_le date.day (days_in_month date.year date.month) ≡ true =
    grind (arith, nat_tests, date.month_in, date.day_in) in
    let test = rw year at in_month in
    rw (test, year)

-- a date of a year from 0000 to 9999, and then rest
pub date_part-text : (date : Date) (y : ℕ) (rest : List ℕ) → date.year ≡ pos y → y < 10_000
    → date_part (pad4 y ++ 45 ∷ pad2 date.month ++ 45 ∷ pad2 date.day ++ rest) ≡ Some (epoch_day date, rest)
unfolding date_part after_byte
date_part-text date y rest year small =
    let month : date.month < 100 = omega (arith, date.month_in) in
    let day : date.day < 100 = omega (arith, date.day_in, days_in_month_bounds date.year date.month) in
    rw (
      four_digits-pad4 y (45 ∷ pad2 date.month ++ 45 ∷ pad2 date.day ++ rest) small,
      two_digits-pad2 date.month (45 ∷ pad2 date.day ++ rest) month,
      two_digits-pad2 date.day rest day,
      day_number-date date y year,
    )

-- a time, and then rest
pub time_part-text : (t : Time) (rest : List ℕ)
    → time_part (pad2 t.hour ++ 58 ∷ pad2 t.minute ++ 58 ∷ pad2 t.second ++ rest) ≡ Some (time_seconds t, rest)
unfolding time_part after_byte
time_part-text t rest =
    rw (
      digits_below-pad2 24 t.hour (58 ∷ pad2 t.minute ++ 58 ∷ pad2 t.second ++ rest) (omega arith) (omega arith),
      digits_below-pad2 60 t.minute (58 ∷ pad2 t.second ++ rest) (omega arith) (omega arith),
      digits_below-pad2 60 t.second rest (omega arith) (omega arith),
    )

-- a fraction before the `Z`
fraction_part-text : (n : ℕ) → n < 1_000_000_000 → fraction_part (fraction_text None n ++ 90 ∷ []) ≡ Some (n, 90 ∷ [])
unfolding fraction_part
fraction_part-text zero high = refl
fraction_part-text (suc m) high =
    let n = suc m in
    let rest : List ℕ = 90 ∷ [] in
    let not_zero : n ≡ 0 → ⊥ = λ e. omega arith in
    let t = trailing_zeros 8 n in
    let few = trailing_zeros-le 8 n in
    let k = significant n in
    let is_k : k ≡ 9 - t = significant-not_zero n not_zero in
    let facts = places-read k 9 n rest (omega arith) high in
    let count : prefix_len is_ascii_digit (places k 1_000_000_000 n ++ rest) ≡ k = omega (arith, facts.0) in
    let left : 9 - k ≡ t = omega arith in
    let multiple = trailing_zeros-mod 8 n in
    let value : fraction_value 9 (places k 1_000_000_000 n) ≡ n =
    omega (arith, facts.2, ap (λ x. n % 10 ^ x) left, multiple) in
    let some : (k == 0) ≡ false = grind (arith, nat_tests) in
    let zero_test : (suc m == 0) ≡ false = grind (arith, nat_tests) in
    let part : fraction_text None (suc m) ≡ 46 ∷ fraction None (suc m) = rw zero_test in
    rw (
      part,
      count,
      some,
      take_at (places k 1_000_000_000 n) rest k facts.1,
      drop_at (places k 1_000_000_000 n) rest k facts.1,
      value,
    )

-- whole milliseconds are left as they are
pub int_div-whole : (ms : ℤ) → int_div (ms *ℤ pos 1_000_000) (pos 1_000_000) ≡ ms
int_div-whole (pos n) = omega (arith, signed_arith)
int_div-whole (negsuc n) = omega (arith, signed_arith)

-- the nanoseconds of a moment's parts
pub epoch_nanos-moment : (at : DateTime)
    → epoch_nanos (epoch_day at.date) (time_seconds at.time) at.time.subsec_nanosecond (pos 0) ≡ civil_nanos at
epoch_nanos-moment at = omega (arith, signed_arith, civil_nanos-parts at)

parsed_rfc3339_millis-parts : (at : DateTime) (y : ℕ) (ms : ℤ) → at.date.year ≡ pos y → y < 10_000 → HasJiffTime ms at
    → parsed_rfc3339_millis (iso_datetime_text at ++ 90 ∷ []) ≡ Some ms
unfolding parsed_rfc3339_millis after_letter offset_part
parsed_rfc3339_millis-parts at y ms year small is =
    let d = at.date in
    let t = at.time in
    let after_second = fraction_text None t.subsec_nanosecond ++ 90 ∷ [] in
    let after_t = pad2 t.hour ++ 58 ∷ pad2 t.minute ++ 58 ∷ pad2 t.second ++ after_second in
    let shape : iso_datetime_text at ++ 90 ∷ [] ≡ pad4 y ++ 45 ∷ pad2 d.month ++ 45 ∷ pad2 d.day ++ 84 ∷ after_t =
    rw year (simp append_assoc refl) in
    let value : int_div (epoch_nanos (epoch_day d) (time_seconds t) t.subsec_nanosecond (pos 0)) (pos 1_000_000) ≡ ms =
    rw (epoch_nanos-moment at, is) (int_div-whole ms) in
    rw (
      shape,
      date_part-text d y (84 ∷ after_t) year small,
      time_part-text t after_second,
      fraction_part-text t.subsec_nanosecond t.subsec_in,
      value,
    )

-- the text of a millisecond of the years 0000 to 9999 denotes it, where jiff has its moment
pub denoted_moment : (ms : ℤ) (at : DateTime) → HasJiffTime ms at → IsRfc3339Millis ms → parsed_rfc3339_millis (rfc3339_text ms) ≡ Some ms
denoted_moment ms at is h =
    let year = moment-not_negative ms at is h.0 in
    rw (rfc-jiff ms at year.0 is year.1)
    (parsed_rfc3339_millis-parts at year.0 ms year.1 (omega (arith, signed_arith, at.date.year_in, year.1)) is)

-- every millisecond of the years 0000 to 9999 comes back from its text
pub named_moment-rfc : (ms : ℤ) → IsRfc3339Millis ms → parsed_rfc3339_millis (rfc3339_text ms) ≡ Some ms
named_moment-rfc ms h =
    let at = moment_at ms (omega (arith, signed_arith, h.0), h.1) in
    denoted_moment ms at.0 at.1 h
