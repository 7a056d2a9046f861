-- The grammar of RFC 3339 section 5.6: the parts of a string, and the date-time that it denotes.
-- `Rfc3339Parser` has the same as functions that parse a string from its start.
use Rattle.std.specs.Prelude.{◌≡◌, ◌⊎◌, ℕ, ◌+◌, ◌*◌, ◌/◌, ◌%◌, ◌<◌, ℤ, pos, neg_ℤ, int_div, List, [], ◌∷◌, ◌++◌, codes}
use Rattle.std.specs.Char.{IsAsciiDigit}
use Rattle.std.specs.List.{All}
use Rattle.jiff_core.specs.Calendar.{IsCivilDate, days_from_civil}
use Rattle.bson_datetime.specs.Rfc3339Parser.{fraction_value, epoch_nanos}
use Rattle.bson_datetime.specs.DateTimeText.{two_digit_text}

-- the offset at the end: a `Z` of either case, or the hours and minutes that the clock is ahead of UTC or late
pub data Offset : Type 0 where
  utc : (letter : ℕ) → Offset
  plus : (hours minutes : ℕ) → Offset
  minus : (hours minutes : ℕ) → Offset

-- the parts of a string; the separator is the `T`, and the fraction is its digits, empty without a point
pub record Rfc3339Parts : Type 0 where
  pub year : ℕ
  pub month : ℕ
  pub day : ℕ
  pub separator : ℕ
  pub hour : ℕ
  pub minute : ℕ
  pub second : ℕ
  pub fraction : List ℕ
  pub offset : Offset

-- `Z`, or a sign, hours and minutes
abbrev pub offset_text : Offset → List ℕ
offset_text (utc letter) = letter ∷ []
offset_text (plus hours minutes) = codes "+" ++ two_digit_text hours ++ codes ":" ++ two_digit_text minutes
offset_text (minus hours minutes) = codes "-" ++ two_digit_text hours ++ codes ":" ++ two_digit_text minutes

-- a point and the fraction, if there is one
abbrev pub fraction_text : List ℕ → List ℕ
fraction_text [] = []
fraction_text (first_digit ∷ other_digits) = codes "." ++ first_digit ∷ other_digits

-- `YYYY-MM-DDThh:mm:ss`, the fraction and the offset
abbrev pub parts_text : Rfc3339Parts → List ℕ
parts_text parts =
    two_digit_text (parts.year / 100) ++ two_digit_text (parts.year % 100) ++ codes "-" ++ two_digit_text parts.month
    ++ codes "-"
    ++ two_digit_text parts.day ++ parts.separator ∷ two_digit_text parts.hour
    ++ codes ":" ++ two_digit_text parts.minute ++ codes ":" ++ two_digit_text parts.second
    ++ fraction_text parts.fraction
    ++ offset_text parts.offset

-- a letter of either case: a lower-case letter is 32 above its upper-case letter
abbrev pub IsLetterOfEitherCase : (upper letter : ℕ) → Type 0
IsLetterOfEitherCase upper letter = (letter ≡ upper) ⊎ (letter ≡ upper + 32)

-- hours to 23 and minutes to 59, with either sign
abbrev pub IsOffsetInRange : Offset → Type 0
IsOffsetInRange (utc letter) = IsLetterOfEitherCase 90 letter
IsOffsetInRange (plus hours minutes) = (hours < 24) × (minutes < 60)
IsOffsetInRange (minus hours minutes) = (hours < 24) × (minutes < 60)

-- the ranges of section 5.7, except the second 60, which is rejected
pub record ArePartsInRange (parts : Rfc3339Parts) : Type 0 where
  pub year : parts.year < 10_000
  pub date : IsCivilDate (pos parts.year) parts.month parts.day
  pub separator : IsLetterOfEitherCase 84 parts.separator
  pub hour : parts.hour < 24
  pub minute : parts.minute < 60
  pub second : parts.second < 60
  pub fraction : All IsAsciiDigit parts.fraction
  pub offset : IsOffsetInRange parts.offset

-- how many seconds the clock is ahead of UTC
abbrev pub offset_seconds : Offset → ℤ
offset_seconds (utc letter) = pos 0
offset_seconds (plus hours minutes) = pos (hours * 3600 + minutes * 60)
offset_seconds (minus hours minutes) = neg_ℤ (pos (hours * 3600 + minutes * 60))

-- the nanoseconds since 1970-01-01T00:00:00Z that the parts denote; nine digits of the fraction count
abbrev pub epoch_nanos_of_parts : Rfc3339Parts → ℤ
epoch_nanos_of_parts parts =
    epoch_nanos (days_from_civil (pos parts.year) parts.month parts.day)
    (parts.hour * 3600 + parts.minute * 60 + parts.second)
    (fraction_value 9 parts.fraction) (offset_seconds parts.offset)

-- the string is one of RFC 3339, and denotes these milliseconds: its nanoseconds divided, rounded towards zero
pub record DenotesDateTime (text : List ℕ) (millis : ℤ) : Type 0 where
  pub parts : Rfc3339Parts
  pub in_ranges : ArePartsInRange parts
  pub written : text ≡ parts_text parts
  pub moment : millis ≡ int_div (epoch_nanos_of_parts parts) (pos 1_000_000)
