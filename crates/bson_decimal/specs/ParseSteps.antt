-- The steps of parsing, and the error of the first step that fails. They are for `decimal_parse_error` and for the proofs.
-- DecimalStrings says, without steps, which strings denote a decimal, and which one. An exponent is a natural number here: its
-- place among those of 16 bits, which is 32768 more than the exponent.
use Rattle.std.specs.Prelude.{ℕ, ◌+◌, ◌-◌, ◌*◌, ◌^◌, Bool, not, ◌&&◌, ◌||◌, List, ◌++◌, length, take, drop, Option}
use Rattle.std.specs.Prelude.{Some, None, Result, Ok, Err, nat_lt, nat_le, ◌==◌, if◌then◌else◌, slice_index, min, ℤ}
use Rattle.std.specs.Prelude.{pos, ◌+ℤ◌, unsigned_abs}
use Rattle.std.specs.Option.{ok_or}
use Rattle.std.specs.List.{list_all, position_or_len, before_first, after_first}
use Rattle.std.specs.Str.{all_ascii_digits}
use Rattle.std.specs.Str.Parse.{digits_value, without_leading_sign, starts_with_minus}
use Rattle.bson_decimal.specs.declared.ParseError.{ParseError}
use Rattle.bson_decimal.specs.declared.ParseError.TheVariants.{EmptyExponent, InvalidExponent, InvalidCoefficient}
use Rattle.bson_decimal.specs.declared.ParseError.TheVariants.{Overflow, Underflow, InexactRounding, Unparseable}
use Rattle.bson_decimal.specs.Exponents.{least_exponent, greatest_exponent}
use Rattle.bson_decimal.specs.NumeralGrammar.{is_zero, without_leading_zeros}

abbrev pub is_exponent_mark : (input_byte : ℕ) → Bool
is_exponent_mark input_byte = input_byte == 101 || input_byte == 69

abbrev pub is_decimal_point : (input_byte : ℕ) → Bool
is_decimal_point input_byte = input_byte == 46

-- the place of an exponent among those of 16 bits, counted from the least one, -2 ^ 15
abbrev pub exponent_plus_32768 : (exponent : ℤ) → ℕ
exponent_plus_32768 exponent = unsigned_abs (exponent +ℤ pos (2 ^ 15))

abbrev pub zero_plus_32768 : ℕ
zero_plus_32768 = exponent_plus_32768 (pos 0)

abbrev pub min_exponent_plus_32768 : ℕ
min_exponent_plus_32768 = exponent_plus_32768 least_exponent

abbrev pub max_exponent_plus_32768 : ℕ
max_exponent_plus_32768 = exponent_plus_32768 greatest_exponent

-- the place of the greatest of 16 bits
abbrev pub i16_max_plus_32768 : ℕ
i16_max_plus_32768 = exponent_plus_32768 (pos 32767)

-- this byte continues a character (UTF-8, RFC 3629 section 3)
abbrev pub is_utf8_continuation : (input_byte : ℕ) → Bool
is_utf8_continuation input_byte = nat_le 128 input_byte && nat_lt input_byte 192

-- the digits of a coefficient, and the place of its exponent
abbrev pub DigitsWithExponent : Type 0
DigitsWithExponent = List ℕ × ℕ

-- at most 34 bytes are kept
unfoldable pub cut_to_34_digits : (digits : List ℕ) → (exponent : ℕ) → Result DigitsWithExponent ParseError
cut_to_34_digits digits exponent =
    if nat_le (length digits) 34 then Ok (digits, exponent)
    else (if is_utf8_continuation (slice_index digits 34) then Err Unparseable
    else (if not (list_all is_zero (drop 34 digits)) then Err InexactRounding
    else (if nat_lt 32767 (length digits - 34) then Err Overflow
    else (if nat_lt i16_max_plus_32768 (exponent + (length digits - 34)) then Err Overflow
    else Ok (take 34 digits, exponent + (length digits - 34))))))

-- the exponent is raised to the least one by dropping zeros
unfoldable pub raise_to_min_exponent : (digits : List ℕ) → (exponent : ℕ) → Result DigitsWithExponent ParseError
raise_to_min_exponent digits exponent =
    if nat_le min_exponent_plus_32768 exponent then Ok (digits, exponent)
    else (if length digits == 0 then Ok (digits, min_exponent_plus_32768)
    else (if nat_lt (length digits) (min_exponent_plus_32768 - exponent) then Err Underflow
    else (if is_utf8_continuation (slice_index digits (length digits - (min_exponent_plus_32768 - exponent)))
    then Err Unparseable
    else (if not (list_all is_zero (drop (length digits - (min_exponent_plus_32768 - exponent)) digits))
    then Err InexactRounding
    else Ok (take (length digits - (min_exponent_plus_32768 - exponent)) digits, min_exponent_plus_32768)))))

-- the number of zeros that are added to lower the exponent to the greatest one
unfoldable pub zeros_to_add : (digits : List ℕ) → (exponent : ℕ) → Result ℕ ParseError
zeros_to_add digits exponent =
    if nat_le exponent max_exponent_plus_32768 then Ok 0
    else (if length digits == 0 then Ok 0
    else (if nat_lt 34 (length digits + (exponent - max_exponent_plus_32768)) then Err Overflow
    else Ok (exponent - max_exponent_plus_32768)))

abbrev pub has_byte : (is_wanted_byte : ℕ → Bool) → (bytes : List ℕ) → Bool
has_byte is_wanted_byte bytes = nat_lt (position_or_len is_wanted_byte bytes) (length bytes)

-- a sign and digits, of a value from -32768 to 32767
abbrev pub is_exponent : (bytes : List ℕ) → Bool
is_exponent bytes = nat_lt 0 (length (without_leading_sign bytes))
    && (all_ascii_digits (without_leading_sign bytes)
    && nat_le (digits_value 10 (without_leading_sign bytes)) (if starts_with_minus bytes then 32768 else 32767))

-- the place of that value
abbrev pub signed_value_plus_32768 : (bytes : List ℕ) → ℕ
signed_value_plus_32768 bytes =
    if starts_with_minus bytes then zero_plus_32768 - digits_value 10 (without_leading_sign bytes)
    else zero_plus_32768 + digits_value 10 (without_leading_sign bytes)

unfoldable pub exponent_value : (bytes : List ℕ) → Option ℕ
exponent_value bytes = if is_exponent bytes then Some (signed_value_plus_32768 bytes) else None

-- the place of the exponent that is written, or of 0
unfoldable pub written_exponent_plus_32768 : (unsigned_text : List ℕ) → Result ℕ ParseError
written_exponent_plus_32768 unsigned_text =
    if not (has_byte is_exponent_mark unsigned_text) then Ok zero_plus_32768
    else (if length (after_first is_exponent_mark unsigned_text) == 0 then Err EmptyExponent
    else ok_or (exponent_value (after_first is_exponent_mark unsigned_text)) InvalidExponent)

-- the exponent, less one for each byte after the point
unfoldable pub scaled_exponent : (exponent : ℕ) → (fraction : List ℕ) → Result ℕ ParseError
scaled_exponent exponent fraction =
    if nat_lt 32767 (length fraction) then Err Underflow
    else (if nat_lt exponent (length fraction) then Err Underflow
    else Ok (exponent - length fraction))

-- the second step, if the first one did not fail
abbrev pub bind : {A B : Type 0} → Result A ParseError → (A → Result B ParseError) → Result B ParseError
bind (Ok exponent) next_step = next_step exponent
bind (Err parse_error) next_step = Err parse_error

infixl 10 ◌>>=◌
abbrev pub ◌>>=◌ : {A B : Type 0} → Result A ParseError → (A → Result B ParseError) → Result B ParseError
first_result >>= next_step = bind first_result next_step

-- the number that the digits denote, with this number of zeros after them
unfoldable pub coefficient : (digits : List ℕ) → (zeros : ℕ) → (has_digit : Bool) → Result ℕ ParseError
coefficient digits zeros has_digit =
    if not has_digit then Err InvalidCoefficient
    else (if not (all_ascii_digits digits) then Err InvalidCoefficient
    else Ok (digits_value 10 digits * 10 ^ zeros))

-- a coefficient and a stored exponent
unfoldable pub coefficient_and_exponent : (bytes : List ℕ) → (exponent : ℕ) → Result (ℕ × ℕ) ParseError
coefficient_and_exponent bytes exponent = do
  cut_digits ← cut_to_34_digits (without_leading_zeros bytes) exponent
  raised_digits ← raise_to_min_exponent cut_digits.0 cut_digits.1
  zeros ← zeros_to_add raised_digits.0 raised_digits.1
  coefficient_value ← coefficient raised_digits.0 zeros (nat_lt 0 (length bytes))
  Ok (coefficient_value, min raised_digits.1 max_exponent_plus_32768 - min_exponent_plus_32768)

-- a finite decimal without its sign
unfoldable pub finite : (unsigned_text : List ℕ) → Result (ℕ × ℕ) ParseError
finite unsigned_text = do
  written_exponent ← written_exponent_plus_32768 unsigned_text
  exponent ← scaled_exponent written_exponent
      (after_first is_decimal_point (before_first is_exponent_mark unsigned_text))
  coefficient_and_exponent
      (before_first is_decimal_point (before_first is_exponent_mark unsigned_text)
      ++ after_first is_decimal_point (before_first is_exponent_mark unsigned_text)) exponent

-- the kind of error of a string that denotes nothing
abbrev pub first_parse_error : Result (ℕ × ℕ) ParseError → ParseError
first_parse_error (Ok coefficient_pair) = InvalidCoefficient
first_parse_error (Err parse_error) = parse_error

unfoldable pub decimal_parse_error : (text : List ℕ) → ParseError
decimal_parse_error text = first_parse_error (finite (without_leading_sign text))
