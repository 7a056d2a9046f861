-- Parsing of an RFC 3339 string from its start, as functions, for the proofs and for the bodies in src/rfc3339.
-- `DenotesDateTime` in `Rfc3339Grammar` says which date-time a string denotes; `parsed_rfc3339_millis` returns the same one.
use Rattle.std.specs.Prelude.{ℕ, ◌+◌, ◌-◌, ◌*◌, ◌==◌, ◌&&◌, ◌||◌, nat_le, ℤ, pos, neg_ℤ, ◌+ℤ◌, ◌-ℤ◌, ◌*ℤ◌, int_div}
use Rattle.std.specs.Prelude.{List, [], ◌∷◌, length, take, drop, if◌then◌else◌, Option, Some, None, option_map}
use Rattle.std.specs.Char.{is_ascii_digit}
use Rattle.std.specs.List.{prefix_len}
use Rattle.std.specs.Borrow.{Bor}
use Rattle.jiff.specs.Words.{days_in_month}
pub use Rattle.jiff_fmt.specs.Reader.{fraction_value}
pub use Rattle.bson_datetime.specs.CivilTime.{IsRfc3339Millis}
use Rattle.jiff_core.specs.Calendar.{days_from_civil}

-- the value of a part at the start of a string, and the remaining string
abbrev pub Parsed : Type 0 → Type 0
Parsed A = Option (A × List ℕ)

infixl 10 ◌>>=◌
abbrev pub ◌>>=◌ : {A B : Type 0} → Option A → (A → Option B) → Option B
None >>= next_step = None
(Some parsed) >>= next_step = next_step parsed

-- two digits at the start
unfoldable pub two_digits : (text : List ℕ) → Parsed ℕ
two_digits (high ∷ low ∷ remaining_text) =
    if is_ascii_digit high && is_ascii_digit low
    then Some ((high - 48) * 10 + (low - 48), remaining_text)
    else None
two_digits _ = None

-- four digits at the start
unfoldable pub four_digits : (text : List ℕ) → Parsed ℕ
four_digits text = do
  century ← two_digits text
  year ← two_digits century.1
  Some (century.0 * 100 + year.0, year.1)

-- two digits of a number below the bound
unfoldable pub two_digits_below : (bound : ℕ) → List ℕ → Parsed ℕ
two_digits_below bound text = do
  parsed_number ← two_digits text
  if nat_le bound parsed_number.0 then None else Some parsed_number

-- the string after this byte at its start
unfoldable pub after_byte : (byte : ℕ) → List ℕ → Option (List ℕ)
after_byte byte [] = None
after_byte byte (first_byte ∷ remaining_text) = if first_byte == byte then Some remaining_text else None

-- the string after this letter, of either case, at its start
unfoldable pub after_letter : (upper : ℕ) → List ℕ → Option (List ℕ)
after_letter upper [] = None
after_letter upper (first_byte ∷ remaining_text) =
    if (first_byte == upper) || (first_byte == upper + 32) then Some remaining_text else None

-- the day number, if the calendar has the day
unfoldable pub day_number : (year month day : ℕ) → Option ℤ
day_number year month day =
    if nat_le 1 month && nat_le month 12 && nat_le 1 day && nat_le day (days_in_month (pos year) month)
    then Some (days_from_civil (pos year) month day)
    else None

-- `YYYY-MM-DD`, as a day number
unfoldable pub date_part : (text : List ℕ) → Parsed ℤ
date_part text = do
  year ← four_digits text
  after_separator ← after_byte 45 year.1
  month ← two_digits after_separator
  after_second_separator ← after_byte 45 month.1
  day ← two_digits after_second_separator
  number ← day_number year.0 month.0 day.0
  Some (number, day.1)

-- `hh:mm:ss`, in seconds
unfoldable pub time_part : (text : List ℕ) → Parsed ℕ
time_part text = do
  hour ← two_digits_below 24 text
  after_separator ← after_byte 58 hour.1
  minute ← two_digits_below 60 after_separator
  after_second_separator ← after_byte 58 minute.1
  second ← two_digits_below 60 after_second_separator
  Some (hour.0 * 3600 + minute.0 * 60 + second.0, second.1)

-- a point and at least one digit, in nanoseconds; 0 without a point
unfoldable pub fraction_part : (text : List ℕ) → Parsed ℕ
fraction_part [] = Some (0, [])
fraction_part (first_byte ∷ remaining_text) =
    if first_byte == 46 then
    (let len = prefix_len is_ascii_digit remaining_text in
    if len == 0 then None else Some (fraction_value 9 (take len remaining_text), drop len remaining_text))
    else Some (0, first_byte ∷ remaining_text)

-- `hh:mm`, in seconds
unfoldable pub hours_minutes : (text : List ℕ) → Parsed ℕ
hours_minutes text = do
  hour ← two_digits_below 24 text
  after_separator ← after_byte 58 hour.1
  minute ← two_digits_below 60 after_separator
  Some (hour.0 * 3600 + minute.0 * 60, minute.1)

-- `Z`, or a sign and `hh:mm`: how many seconds the clock is ahead
unfoldable pub offset_part : (text : List ℕ) → Parsed ℤ
offset_part [] = None
offset_part (first_byte ∷ remaining_text) =
    if (first_byte == 90) || (first_byte == 122) then Some (pos 0, remaining_text)
    else if first_byte == 43
    then option_map (λ parsed_number. (pos parsed_number.0, parsed_number.1)) (hours_minutes remaining_text)
    else if first_byte == 45
    then option_map (λ parsed_number. (neg_ℤ (pos parsed_number.0), parsed_number.1)) (hours_minutes remaining_text)
    else None

-- the nanoseconds since the epoch of a day number, the seconds of the day, a fraction and an offset
abbrev pub epoch_nanos : (day : ℤ) → (seconds nanos : ℕ) → (offset : ℤ) → ℤ
epoch_nanos day seconds nanos offset =
    ((day *ℤ pos 86_400) +ℤ pos seconds -ℤ offset) *ℤ pos 1_000_000_000 +ℤ pos nanos

-- the date-time that a string denotes, if it denotes one
unfoldable pub parsed_rfc3339_millis : (text : List ℕ) → Option ℤ
parsed_rfc3339_millis text = do
  day ← date_part text
  after_separator ← after_letter 84 day.1
  time ← time_part after_separator
  nanos ← fraction_part time.1
  offset ← offset_part nanos.1
  if length offset.1 == 0 then Some (int_div (epoch_nanos day.0 time.0 nanos.0 offset.0) (pos 1_000_000)) else None

-- the result of a parsing function, with the remaining bytes in place of the reference to them
abbrev pub parse_result_bytes : {A : Type 0} → Option (A × Bor (List ℕ)) → Parsed A
parse_result_bytes parse_result = option_map (λ parsed_part. (parsed_part.0, parsed_part.1.now)) parse_result

abbrev pub remaining_bytes_of : Option (Bor (List ℕ)) → Option (List ℕ)
remaining_bytes_of parse_result = option_map (λ after_separator. after_separator.now) parse_result
