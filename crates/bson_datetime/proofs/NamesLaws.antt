-- What the parts of a text name is read from its front; a text names at most one moment.
use Rattle.std.proofs.Common.{◌≡◌, ◌↔◌, ℕ, ℤ, pos, suc, ◌+◌, ◌*◌, ◌/◌, ◌%◌, ◌<◌, ◌==◌, inl, inr, true, false, List, []}
use Rattle.std.proofs.Common.{◌∷◌, ◌++◌, length, Some, None, refl, sym, ap, ◌∙◌, arith, take_at, drop_at}
use Rattle.std.proofs.lemmas.Bool.Decides.{nat_tests}
use Rattle.std.specs.Char.{IsAsciiDigit, is_ascii_digit}
use Rattle.std.specs.List.{All, prefix_len}
use Rattle.jiff.specs.Types.{Date, Time}
use Rattle.jiff_core.specs.Calendar.{IsCivilDate, days_from_civil}
use Rattle.bson_datetime.specs.Rfc3339Grammar.{Offset, utc, plus, minus, offset_text, fraction_text, IsLetterOfEitherCase, IsOffsetInRange}
use Rattle.bson_datetime.specs.Rfc3339Grammar.{offset_seconds, DenotesDateTime}
use Rattle.bson_datetime.specs.Rfc3339Parser.{after_byte, after_letter, date_part, time_part, fraction_part, fraction_value}
use Rattle.bson_datetime.specs.Rfc3339Parser.{hours_minutes, offset_part, parsed_rfc3339_millis}
use Rattle.bson_datetime.specs.DateTimeText.{two_digit_text}
use Rattle.bson_datetime.proofs.ReaderLemmas.{fraction_value-nil}
use Rattle.bson_datetime.proofs.RoundTrip.{digits_below-pad2, date_part-text, time_part-text}
use Rattle.bson_datetime.proofs.PartsRead.{un_some, some_none, digit_test}
use Rattle.bson_datetime.proofs.GrammarLemmas.{named_moment-names}

date-parts : (y m d : ℕ) (rest : List ℕ) → y < 10_000 → IsCivilDate (pos y) m d
    → date_part (two_digit_text (y / 100) ++ two_digit_text (y % 100) ++ 45 ∷ two_digit_text m ++ 45 ∷ two_digit_text d
    ++ rest) ≡ Some (days_from_civil (pos y) m d, rest)
date-parts y m d rest small is =
    let date : Date = record { year = pos y; month = m; day = d; year_in = is.0; month_in = is.1; day_in = is.2 } in
    date_part-text date y rest refl small

time-parts : (h m s : ℕ) (rest : List ℕ) → h < 24 → m < 60 → s < 60
    → time_part (two_digit_text h ++ 58 ∷ two_digit_text m ++ 58 ∷ two_digit_text s ++ rest)
    ≡ Some (h * 3600 + m * 60 + s, rest)
time-parts h m s rest hour minute second =
    let time : Time = record {
      hour = h;
      minute = m;
      second = s;
      subsec_nanosecond = 0;
      hour_in = hour;
      minute_in = minute;
      second_in = second;
      subsec_in = omega arith;
    } in
    time_part-text time rest

letter-parts : (upper c : ℕ) (rest : List ℕ) → IsLetterOfEitherCase upper c → after_letter upper (c ∷ rest) ≡ Some rest
unfolding after_letter
letter-parts upper c rest (inl e) =
    let test : (c == upper) ≡ true = grind (arith, nat_tests, e) in
    rw test
letter-parts upper c rest (inr e) =
    let first : (c == upper) ≡ false = grind (arith, nat_tests, e) in
    let second : (c == upper + 32) ≡ true = grind (arith, nat_tests, e) in
    rw (first, second)

-- so many digits, and then a byte that is none
prefix-all : (ds : List ℕ) (c : ℕ) (rest : List ℕ) → All IsAsciiDigit ds → is_ascii_digit c ≡ false
    → prefix_len is_ascii_digit (ds ++ c ∷ rest) ≡ length ds
prefix-all [] c rest are none = rw none
prefix-all (d ∷ ds) c rest are none =
    let first : IsAsciiDigit d = are 0 0 (omega arith) in
    let test = digit_test d first in
    let more : All IsAsciiDigit ds = λ k x before. are (suc k) x (omega (arith, before)) in
    let ind = prefix-all ds c rest more none in
    rw test (omega (arith, ind))

fraction-some : (all : List ℕ) (c : ℕ) (rest : List ℕ) → 0 < length all → All IsAsciiDigit all
    → is_ascii_digit c ≡ false
    → fraction_part (46 ∷ all ++ c ∷ rest) ≡ Some (fraction_value 9 all, c ∷ rest)
unfolding fraction_part
fraction-some all c rest long are none =
    let some : (length all == 0) ≡ false = grind (arith, nat_tests) in
    rw (
      prefix-all all c rest are none,
      some,
      take_at all (c ∷ rest) (length all) refl,
      drop_at all (c ∷ rest) (length all) refl,
    ) refl

fraction-parts : (ds : List ℕ) (c : ℕ) (rest : List ℕ) → All IsAsciiDigit ds → is_ascii_digit c ≡ false
    → (c == 46) ≡ false
    → fraction_part (fraction_text ds ++ c ∷ rest) ≡ Some (fraction_value 9 ds, c ∷ rest)
unfolding fraction_part
fraction-parts [] c rest are none point = rw point (ap (λ n. Some (n, c ∷ rest)) (sym (fraction_value-nil 9)))
fraction-parts (d ∷ ds) c rest are none point = fraction-some (d ∷ ds) c rest (omega arith) are none

offset-parts : (o : Offset) → IsOffsetInRange o → offset_part (offset_text o) ≡ Some (offset_seconds o, [])
unfolding offset_part hours_minutes after_byte
offset-parts (utc c) (inl e) = rw e refl
offset-parts (utc c) (inr e) = rw e refl
offset-parts (plus h m) is =
    rw (digits_below-pad2 24 h (58 ∷ two_digit_text m) is.0 (omega arith), digits_below-pad2 60 m [] is.1 (omega arith))
    refl
offset-parts (minus h m) is =
    rw (digits_below-pad2 24 h (58 ∷ two_digit_text m) is.0 (omega arith), digits_below-pad2 60 m [] is.1 (omega arith))
    refl

-- the fraction before an offset
fraction-offset : (ds : List ℕ) (o : Offset) → All IsAsciiDigit ds → IsOffsetInRange o
    → fraction_part (fraction_text ds ++ offset_text o) ≡ Some (fraction_value 9 ds, offset_text o)
fraction-offset ds (utc c) are (inl e) = rw e (fraction-parts ds 90 [] are refl refl)
fraction-offset ds (utc c) are (inr e) = rw e (fraction-parts ds 122 [] are refl refl)
fraction-offset ds (plus h m) are is = fraction-parts ds 43 (two_digit_text h ++ 58 ∷ two_digit_text m) are refl refl
fraction-offset ds (minus h m) are is = fraction-parts ds 45 (two_digit_text h ++ 58 ∷ two_digit_text m) are refl refl

names-parsed_rfc3339_millis : (text : List ℕ) (ms : ℤ) → DenotesDateTime text ms → parsed_rfc3339_millis text ≡ Some ms
unfolding parsed_rfc3339_millis
names-parsed_rfc3339_millis text ms n =
    let p = n.parts in
    let r = n.in_ranges in
    let after_second = fraction_text p.fraction ++ offset_text p.offset in
    let after_separator = two_digit_text p.hour ++ 58 ∷ two_digit_text p.minute ++ 58 ∷ two_digit_text p.second
    ++ after_second in
    rw (
      n.written,
      date-parts p.year p.month p.day (p.separator ∷ after_separator) r.year r.date,
      letter-parts 84 p.separator after_separator r.separator,
      time-parts p.hour p.minute p.second after_second r.hour r.minute r.second,
      fraction-offset p.fraction p.offset r.fraction r.offset,
      offset-parts p.offset r.offset,
    ) (ap (λ z. Some z) (sym n.moment))

-- what is read from the front of a text is the moment that its parts name
pub denotes-names : (text : List ℕ) (ms : ℤ) → (parsed_rfc3339_millis text ≡ Some ms) ↔ DenotesDateTime text ms
denotes-names text ms = (named_moment-names text ms, names-parsed_rfc3339_millis text ms)

-- where a text names none, none is read
pub denotes-none : (text : List ℕ) → parsed_rfc3339_millis text ≡ None → (ms : ℤ) → ¬ (DenotesDateTime text ms)
denotes-none text none ms n = some_none ms (sym (names-parsed_rfc3339_millis text ms n) ∙ none)

-- a text names one moment
pub names-one : (text : List ℕ) (a b : ℤ) → DenotesDateTime text a → DenotesDateTime text b → a ≡ b
names-one text a b n m = un_some a b (sym (names-parsed_rfc3339_millis text a n) ∙ names-parsed_rfc3339_millis text b m)
