-- What is read from the front of a text is what its parts name.
use Rattle.std.proofs.Common.{◌≡◌, ℕ, ℤ, pos, neg_ℤ, ◌+◌, ◌*◌, ◌/◌, ◌%◌, ◌<◌, ◌≤◌, ◌==◌, ◌&&◌, ◌||◌, nat_le, true}
use Rattle.std.proofs.Common.{false, Bool, List, [], ◌∷◌, ◌++◌, length, take, drop, get_or, Option, Some, None, refl}
use Rattle.std.proofs.Common.{sym, ap, ◌∙◌, arith, append-nil, get_or-take}
use Rattle.std.specs.Prelude.{if◌then◌else◌, option_map}
use Rattle.std.proofs.lemmas.Bool.{and_parts}
use Rattle.std.proofs.lemmas.Bool.Decides.{nat_tests}
use Rattle.std.proofs.lemmas.List.{take-append-drop}
use Rattle.std.proofs.lemmas.List.Folds.{length-prefix_len}
use Rattle.std.proofs.lemmas.List.Sums.{prefix_len_passes}
use Rattle.std.specs.Char.{IsAsciiDigit, is_ascii_digit}
use Rattle.std.specs.List.{All, prefix_len}
use Rattle.jiff.specs.Words.{days_in_month}
use Rattle.jiff.proofs.SpanFacts.{signed_arith}
use Rattle.jiff_core.specs.Calendar.{IsCivilDate, days_from_civil}
use Rattle.bson_datetime.specs.Rfc3339Grammar.{Offset, utc, plus, minus, offset_text, fraction_text, IsOffsetInRange}
use Rattle.bson_datetime.specs.Rfc3339Grammar.{offset_seconds, DenotesDateTime}
use Rattle.bson_datetime.specs.Rfc3339Parser.{two_digits, four_digits, two_digits_below, after_byte, after_letter, day_number}
use Rattle.bson_datetime.specs.Rfc3339Parser.{date_part, time_part, fraction_part, fraction_value, hours_minutes, offset_part}
use Rattle.bson_datetime.specs.Rfc3339Parser.{parsed_rfc3339_millis}
use Rattle.bson_datetime.specs.DateTimeText.{two_digit_text}
use Rattle.bson_datetime.proofs.ReaderLemmas.{fraction_value-nil}
use Rattle.bson_datetime.proofs.PartsRead.{found, un_some, un_then, digit_of, two_digits-read, four_digits-read}
use Rattle.bson_datetime.proofs.PartsRead.{digits_below-read, after-read, after_letter-read, letter_of}

-- a day that the calendar has
day_number-test : (y m d : ℕ) (z : ℤ) (t : Bool)
    → (nat_le 1 m && nat_le m 12 && nat_le 1 d && nat_le d (days_in_month (pos y) m)) ≡ t
    → (if t then Some (days_from_civil (pos y) m d) else None) ≡ Some z → y < 10_000
    → IsCivilDate (pos y) m d × (days_from_civil (pos y) m d ≡ z)
day_number-test y m d z true e h small =
    let a = and_parts (nat_le 1 m && nat_le m 12 && nat_le 1 d) (nat_le d (days_in_month (pos y) m)) e in
    let b = and_parts (nat_le 1 m && nat_le m 12) (nat_le 1 d) a.0 in
    let c = and_parts (nat_le 1 m) (nat_le m 12) b.0 in
    let from_1 : 1 ≤ m = grind (arith, nat_tests, c.0) in
    let to_12 : m ≤ 12 = grind (arith, nat_tests, c.1) in
    let first : 1 ≤ d = grind (arith, nat_tests, b.1) in
    let last : d ≤ days_in_month (pos y) m = grind (arith, nat_tests, a.1) in
    (((omega (arith, signed_arith), omega (arith, signed_arith)), (from_1, to_12), (first, last)), un_some _ _ h)
day_number-test y m d z false e h small = cc

day_number-read : (y m d : ℕ) (z : ℤ) → day_number y m d ≡ Some z → y < 10_000
    → IsCivilDate (pos y) m d × (days_from_civil (pos y) m d ≡ z)
unfolding day_number
day_number-read y m d z h small =
    day_number-test y m d z (nat_le 1 m && nat_le m 12 && nat_le 1 d && nat_le d (days_in_month (pos y) m)) refl h small

record DateRead (s : List ℕ) (z : ℤ) (rest : List ℕ) : Type 0 where
  year : ℕ
  month : ℕ
  day : ℕ
  small : year < 10_000
  exists : IsCivilDate (pos year) month day
  value : days_from_civil (pos year) month day ≡ z
  text : s ≡ two_digit_text (year / 100) ++ two_digit_text (year % 100) ++ 45 ∷ two_digit_text month
      ++ 45 ∷ two_digit_text day ++ rest

date_part-read : (s : List ℕ) (r : ℤ × List ℕ) → date_part s ≡ Some r → DateRead s r.0 r.1
unfolding date_part
date_part-read s r h =
    let y = un_then (four_digits s) _ r h in
    let a = un_then (after_byte 45 y.0.1) _ r y.2 in
    let m = un_then (two_digits a.0) _ r a.2 in
    let b = un_then (after_byte 45 m.0.1) _ r m.2 in
    let d = un_then (two_digits b.0) _ r b.2 in
    let n = un_then (day_number y.0.0 m.0.0 d.0.0) _ r d.2 in
    let same = un_some _ _ n.2 in
    let year = four_digits-read s y.0 y.1 in
    let month = two_digits-read a.0 m.0 m.1 in
    let day = two_digits-read b.0 d.0 d.1 in
    let number = day_number-read y.0.0 m.0.0 d.0.0 n.0 n.1 year.0 in
    record {
      year = y.0.0;
      month = m.0.0;
      day = d.0.0;
      small = year.0;
      exists = number.0;
      value = number.1 ∙ ap (λ q. q.0) same;
      text = year.1 ∙ ap (λ t. two_digit_text (y.0.0 / 100) ++ two_digit_text (y.0.0 % 100) ++ t)
          (after-read 45 y.0.1 a.0 a.1
          ∙ ap (λ t. 45 ∷ t) (month.1 ∙ ap (λ t. two_digit_text m.0.0 ++ t) (after-read 45 m.0.1 b.0 b.1
          ∙ ap (λ t. 45 ∷ t) (day.1 ∙ ap (λ t. two_digit_text d.0.0 ++ t) (ap (λ q. q.1) same)))));
    }

record TimeRead (s : List ℕ) (n : ℕ) (rest : List ℕ) : Type 0 where
  hour : ℕ
  minute : ℕ
  second : ℕ
  hour_in : hour < 24
  minute_in : minute < 60
  second_in : second < 60
  value : hour * 3600 + minute * 60 + second ≡ n
  text : s ≡ two_digit_text hour ++ 58 ∷ two_digit_text minute ++ 58 ∷ two_digit_text second ++ rest

time_part-read : (s : List ℕ) (r : ℕ × List ℕ) → time_part s ≡ Some r → TimeRead s r.0 r.1
unfolding time_part
time_part-read s r h =
    let x = un_then (two_digits_below 24 s) _ r h in
    let a = un_then (after_byte 58 x.0.1) _ r x.2 in
    let y = un_then (two_digits_below 60 a.0) _ r a.2 in
    let b = un_then (after_byte 58 y.0.1) _ r y.2 in
    let z = un_then (two_digits_below 60 b.0) _ r b.2 in
    let same = un_some _ _ z.2 in
    let hour = digits_below-read 24 s x.0 x.1 in
    let minute = digits_below-read 60 a.0 y.0 y.1 in
    let second = digits_below-read 60 b.0 z.0 z.1 in
    record {
      hour = x.0.0;
      minute = y.0.0;
      second = z.0.0;
      hour_in = hour.0;
      minute_in = minute.0;
      second_in = second.0;
      value = ap (λ q. q.0) same;
      text = hour.1 ∙ ap (λ t. two_digit_text x.0.0 ++ t) (after-read 58 x.0.1 a.0 a.1
          ∙ ap (λ t. 58 ∷ t) (minute.1 ∙ ap (λ t. two_digit_text y.0.0 ++ t) (after-read 58 y.0.1 b.0 b.1
          ∙ ap (λ t. 58 ∷ t) (second.1 ∙ ap (λ t. two_digit_text z.0.0 ++ t) (ap (λ q. q.1) same)))));
    }

-- the digits that a text begins with
prefix-digits : (s : List ℕ) → All IsAsciiDigit (take (prefix_len is_ascii_digit s) s)
prefix-digits s = λ k d before.
    let within : k < prefix_len is_ascii_digit s = omega (arith, length-prefix_len is_ascii_digit s) in
    let passes = prefix_len_passes is_ascii_digit s k d within in
    rw (get_or-take (prefix_len is_ascii_digit s) s k d within) (digit_of (get_or s k d) passes)

fraction_text-some : (ds : List ℕ) → 0 < length ds → fraction_text ds ≡ 46 ∷ ds
fraction_text-some [] h = absurd (omega arith)
fraction_text-some (d ∷ ds) h = refl

record FractionRead (s : List ℕ) (n : ℕ) (rest : List ℕ) : Type 0 where
  digits : List ℕ
  are : All IsAsciiDigit digits
  value : fraction_value 9 digits ≡ n
  text : s ≡ fraction_text digits ++ rest

no_digits : All IsAsciiDigit []
no_digits = λ k d before. absurd (omega (arith, before))

fraction-none : (s : List ℕ) (r : ℕ × List ℕ) → found 0 s ≡ Some r → FractionRead s r.0 r.1
fraction-none s r h =
    let same = un_some _ _ h in
    record {
      digits = [];
      are = no_digits;
      value = fraction_value-nil 9 ∙ ap (λ q. q.0) same;
      text = ap (λ q. q.1) same;
    }

fraction-digits : (s : List ℕ) (r : ℕ × List ℕ) (t : Bool) → (prefix_len is_ascii_digit s == 0) ≡ t
    → (if t then None else found (fraction_value 9 (take (prefix_len is_ascii_digit s) s))
    (drop (prefix_len is_ascii_digit s) s)) ≡ Some r
    → FractionRead (46 ∷ s) r.0 r.1
fraction-digits s r true e h = cc
fraction-digits s r false e h =
    let len = prefix_len is_ascii_digit s in
    let same = un_some _ _ h in
    let some : 0 < len = grind (arith, nat_tests, e) in
    let long : 0 < length (take len s) = omega (arith, some, length-prefix_len is_ascii_digit s) in
    record {
      digits = take len s;
      are = prefix-digits s;
      value = ap (λ q. q.0) same;
      text = rw (fraction_text-some (take len s) long)
          (ap (λ t. 46 ∷ t) (sym (take-append-drop len s) ∙ ap (λ t. take len s ++ t) (ap (λ q. q.1) same)));
    }

fraction-test : (c : ℕ) (s : List ℕ) (r : ℕ × List ℕ) (t : Bool) → (c == 46) ≡ t
    → (if t then (if prefix_len is_ascii_digit s == 0 then None
    else found (fraction_value 9 (take (prefix_len is_ascii_digit s) s)) (drop (prefix_len is_ascii_digit s) s))
    else found 0 (c ∷ s)) ≡ Some r
    → FractionRead (c ∷ s) r.0 r.1
fraction-test c s r true e h =
    let point : c ≡ 46 = grind (arith, nat_tests, e) in
    rw point (fraction-digits s r (prefix_len is_ascii_digit s == 0) refl h)
fraction-test c s r false e h = fraction-none (c ∷ s) r h

fraction_part-read : (s : List ℕ) (r : ℕ × List ℕ) → fraction_part s ≡ Some r → FractionRead s r.0 r.1
unfolding fraction_part
fraction_part-read [] r h = fraction-none [] r h
fraction_part-read (c ∷ s) r h = fraction-test c s r (c == 46) refl h

hours_minutes-read : (s : List ℕ) (r : ℕ × List ℕ) → hours_minutes s ≡ Some r
    → (h : ℕ) × (m : ℕ) × (h < 24) × (m < 60) × (h * 3600 + m * 60 ≡ r.0)
    × (s ≡ two_digit_text h ++ 58 ∷ two_digit_text m ++ r.1)
unfolding hours_minutes
hours_minutes-read s r h =
    let x = un_then (two_digits_below 24 s) _ r h in
    let a = un_then (after_byte 58 x.0.1) _ r x.2 in
    let y = un_then (two_digits_below 60 a.0) _ r a.2 in
    let same = un_some _ _ y.2 in
    let hour = digits_below-read 24 s x.0 x.1 in
    let minute = digits_below-read 60 a.0 y.0 y.1 in (
      x.0.0,
      y.0.0,
      hour.0,
      minute.0,
      ap (λ q. q.0) same,
      hour.1 ∙ ap (λ t. two_digit_text x.0.0 ++ t) (after-read 58 x.0.1 a.0 a.1
          ∙ ap (λ t. 58 ∷ t) (minute.1 ∙ ap (λ t. two_digit_text y.0.0 ++ t) (ap (λ q. q.1) same))),
    )

un_map : {A B : Type 0} (f : A → B) (o : Option A) (y : B) → option_map f o ≡ Some y
    → (x : A) × (o ≡ Some x) × (f x ≡ y)
un_map f None y h = cc
un_map f (Some x) y h = (x, refl, un_some _ _ h)

-- a number that was read, as it counts
abbrev counted : (ℕ → ℤ) → ℕ × List ℕ → ℤ × List ℕ
counted count n = (count n.0, n.1)

record OffsetRead (s : List ℕ) (z : ℤ) (rest : List ℕ) : Type 0 where
  offset : Offset
  is : IsOffsetInRange offset
  value : offset_seconds offset ≡ z
  text : s ≡ offset_text offset ++ rest

-- hours and minutes after a sign are an offset of this kind, with these seconds
signed-read : (sign : ℕ) (way : ℕ → ℕ → Offset) (count : ℕ → ℤ) → ((h m : ℕ) → h < 24 → m < 60 → IsOffsetInRange (way h m))
    → ((h m : ℕ) → offset_seconds (way h m) ≡ count (h * 3600 + m * 60))
    → ((h m : ℕ) (t : List ℕ) → sign ∷ two_digit_text h ++ 58 ∷ two_digit_text m ++ t ≡ offset_text (way h m) ++ t)
    → (s : List ℕ) (r : ℤ × List ℕ) → option_map (counted count) (hours_minutes s) ≡ Some r
    → OffsetRead (sign ∷ s) r.0 r.1
signed-read sign way count is seconds text s r h =
    let n = un_map (counted count) (hours_minutes s) r h in
    let p = hours_minutes-read s n.0 n.1 in
    let rest = ap (λ t. two_digit_text p.0 ++ 58 ∷ two_digit_text p.1 ++ t) (ap (λ q. q.1) n.2) in
    record {
      offset = way p.0 p.1;
      is = is p.0 p.1 p.2 p.3;
      value = seconds p.0 p.1 ∙ ap count p.4 ∙ ap (λ q. q.0) n.2;
      text = ap (λ t. sign ∷ t) (p.5 ∙ rest) ∙ text p.0 p.1 r.1;
    }

offset-behind : (c : ℕ) (s : List ℕ) (r : ℤ × List ℕ) (t : Bool) → (c == 45) ≡ t
    → (if t then option_map (counted (λ k. neg_ℤ (pos k))) (hours_minutes s) else None) ≡ Some r
    → OffsetRead (c ∷ s) r.0 r.1
offset-behind c s r true e h =
    let sign : c ≡ 45 = grind (arith, nat_tests, e) in
    rw sign (signed-read 45 minus (λ k. neg_ℤ (pos k)) (λ h m p q. (p, q)) (λ h m. refl) (λ h m t. refl) s r h)
offset-behind c s r false e h = cc

offset-lookahead : (c : ℕ) (s : List ℕ) (r : ℤ × List ℕ) (t : Bool) → (c == 43) ≡ t
    → (if t then option_map (counted pos) (hours_minutes s)
    else if c == 45 then option_map (counted (λ k. neg_ℤ (pos k))) (hours_minutes s) else None) ≡ Some r
    → OffsetRead (c ∷ s) r.0 r.1
offset-lookahead c s r true e h =
    let sign : c ≡ 43 = grind (arith, nat_tests, e) in
    rw sign (signed-read 43 plus pos (λ h m p q. (p, q)) (λ h m. refl) (λ h m t. refl) s r h)
offset-lookahead c s r false e h = offset-behind c s r (c == 45) refl h

offset-utc : (c : ℕ) (s : List ℕ) (r : ℤ × List ℕ) (t : Bool) → ((c == 90) || (c == 122)) ≡ t
    → (if t then found (pos 0) s else if c == 43 then option_map (counted pos) (hours_minutes s)
    else if c == 45 then option_map (counted (λ k. neg_ℤ (pos k))) (hours_minutes s) else None) ≡ Some r
    → OffsetRead (c ∷ s) r.0 r.1
offset-utc c s r true e h =
    let same = un_some _ _ h in
    record { offset = utc c; is = letter_of 90 c e; value = ap (λ q. q.0) same; text = ap (λ q. c ∷ q.1) same }
offset-utc c s r false e h = offset-lookahead c s r (c == 43) refl h

offset_part-read : (s : List ℕ) (r : ℤ × List ℕ) → offset_part s ≡ Some r → OffsetRead s r.0 r.1
unfolding offset_part
offset_part-read [] r h = cc
offset_part-read (c ∷ s) r h = offset-utc c s r ((c == 90) || (c == 122)) refl h

end-test : (s : List ℕ) (x z : ℤ) (t : Bool) → (length s == 0) ≡ t → (if t then Some x else None) ≡ Some z
    → (s ≡ []) × (x ≡ z)
end-test [] x z true e h = (refl, un_some x z h)
end-test (c ∷ s) x z true e h =
    let none : length (c ∷ s) ≡ 0 = grind (arith, nat_tests, e) in
    absurd (omega (arith, none))
end-test s x z false e h = cc

-- a text that denotes a moment has parts that name it
pub named_moment-names : (text : List ℕ) (ms : ℤ) → parsed_rfc3339_millis text ≡ Some ms → DenotesDateTime text ms
unfolding parsed_rfc3339_millis
named_moment-names text ms h =
    let x = un_then (date_part text) _ ms h in
    let a = un_then (after_letter 84 x.0.1) _ ms x.2 in
    let y = un_then (time_part a.0) _ ms a.2 in
    let f = un_then (fraction_part y.0.1) _ ms y.2 in
    let o = un_then (offset_part f.0.1) _ ms f.2 in
    let end = end-test o.0.1 _ ms (length o.0.1 == 0) refl o.2 in
    let date = date_part-read text x.0 x.1 in
    let letter = after_letter-read 84 x.0.1 a.0 a.1 in
    let time = time_part-read a.0 y.0 y.1 in
    let fraction = fraction_part-read y.0.1 f.0 f.1 in
    let offset = offset_part-read f.0.1 o.0 o.1 in
    record {
      parts = record {
        year = date.year;
        month = date.month;
        day = date.day;
        separator = letter.0;
        hour = time.hour;
        minute = time.minute;
        second = time.second;
        fraction = fraction.digits;
        offset = offset.offset;
      };
      in_ranges = record {
        year = date.small;
        date = date.exists;
        separator = letter.1;
        hour = time.hour_in;
        minute = time.minute_in;
        second = time.second_in;
        fraction = fraction.are;
        offset = offset.is;
      };
      written = date.text ∙ ap
          (λ t. two_digit_text (date.year / 100) ++ two_digit_text (date.year % 100) ++ 45 ∷ two_digit_text date.month
          ++ 45 ∷ two_digit_text date.day ++ t) (letter.2
          ∙ ap (λ t. letter.0 ∷ t)
          (time.text ∙ ap (λ t. two_digit_text time.hour ++ 58 ∷ two_digit_text time.minute
          ++ 58 ∷ two_digit_text time.second ++ t) (fraction.text
          ∙ ap (λ t. fraction_text fraction.digits ++ t) (offset.text ∙ ap (λ t. offset_text offset.offset ++ t) end.0
          ∙ append-nil _))));
      moment = rw (date.value, time.value, fraction.value, offset.value) (sym end.1);
    }
