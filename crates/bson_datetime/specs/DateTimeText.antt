-- The strings that are written for a date-time: RFC 3339 section 5.6, and `Display`.
use Rattle.std.specs.Prelude.{ℕ, suc, ◌+◌, ◌/◌, ◌%◌, ◌==◌, ◌&&◌, nat_lt, Bool, ℤ, pos, negsuc, neg_ℤ, int_le, ◌++◌}
use Rattle.std.specs.Prelude.{List, [], ◌∷◌, if◌then◌else◌, codes}
use Rattle.std.specs.Fmt.{signed_decimal}
use Rattle.bson_datetime.specs.CivilTime.{CivilDateTime, civil_of_millis}

abbrev pub digit : (number : ℕ) → List ℕ
digit number = (48 + number) ∷ []

-- a number below 100, in two digits
abbrev pub two_digit_text : (number : ℕ) → List ℕ
two_digit_text number = digit (number / 10) ++ digit (number % 10)

-- a year in four digits, after a minus sign if it is negative
abbrev pub year_text : (year : ℤ) → List ℕ
year_text (pos number) = two_digit_text (number / 100) ++ two_digit_text (number % 100)
year_text (negsuc number) = codes "-" ++ two_digit_text (suc number / 100) ++ two_digit_text (suc number % 100)

-- `YYYY-MM-DD`
abbrev pub date_text : CivilDateTime → List ℕ
date_text civil =
    year_text civil.year ++ codes "-" ++ two_digit_text civil.month ++ codes "-" ++ two_digit_text civil.day

-- the digits of a fraction in thousandths: at least one, and no further zeros at the end
abbrev pub thousandths_text : (number : ℕ) → List ℕ
thousandths_text number =
    digit (number / 100)
    ++ (if number % 100 == 0 then []
    else digit (number / 10 % 10) ++ (if number % 10 == 0 then [] else digit (number % 10)))

-- all three digits of a fraction in thousandths
abbrev pub three_digit_text : (number : ℕ) → List ℕ
three_digit_text number = digit (number / 100) ++ digit (number / 10 % 10) ++ digit (number % 10)

-- ---- RFC 3339

-- `YYYY-MM-DDThh:mm:ssZ`, with a point and the fraction if it is not zero
abbrev pub civil_rfc3339_text : CivilDateTime → List ℕ
civil_rfc3339_text civil =
    date_text civil ++ codes "T" ++ two_digit_text civil.hour ++ codes ":" ++ two_digit_text civil.minute ++ codes ":"
    ++ two_digit_text civil.second
    ++ (if civil.millisecond == 0 then [] else codes "." ++ thousandths_text civil.millisecond) ++ codes "Z"

-- the RFC 3339 string of a date-time of the years 0000 to 9999
unfoldable pub rfc3339_text : (millis : ℤ) → List ℕ
rfc3339_text millis = civil_rfc3339_text (civil_of_millis millis)

-- the same with three digits of a fraction that is not zero
abbrev pub civil_rfc3339_millis_text : CivilDateTime → List ℕ
civil_rfc3339_millis_text civil =
    date_text civil ++ codes "T" ++ two_digit_text civil.hour ++ codes ":" ++ two_digit_text civil.minute ++ codes ":"
    ++ two_digit_text civil.second
    ++ (if civil.millisecond == 0 then [] else codes "." ++ three_digit_text civil.millisecond) ++ codes "Z"

unfoldable pub rfc3339_millis_text : (millis : ℤ) → List ℕ
rfc3339_millis_text millis = civil_rfc3339_millis_text (civil_of_millis millis)

-- ---- `Display`

-- an hour without a leading zero
abbrev pub hour_text : (number : ℕ) → List ℕ
hour_text number = if nat_lt number 10 then digit number else two_digit_text number

-- for example `2023-01-23 20:11:47.316 +00:00:00`
abbrev pub civil_text : CivilDateTime → List ℕ
civil_text civil =
    date_text civil ++ codes " " ++ hour_text civil.hour ++ codes ":" ++ two_digit_text civil.minute ++ codes ":"
    ++ two_digit_text civil.second ++ codes "."
    ++ thousandths_text civil.millisecond ++ codes " +00:00:00"

abbrev pub is_civil_millis : (millis : ℤ) → Bool
is_civil_millis millis = int_le (neg_ℤ (pos 377_705_116_800_000)) millis && int_le millis (pos 253_402_300_799_999)

-- the date and time if the year is -9999 to 9999, otherwise the milliseconds as a decimal number
unfoldable pub date_time_text : (millis : ℤ) → List ℕ
date_time_text millis = if is_civil_millis millis then civil_text (civil_of_millis millis) else signed_decimal millis
