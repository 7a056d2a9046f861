-- The shortest decimal of a finite double as a function, for the proofs. `IsShortest` is what it is.
use Rattle.std.specs.Prelude.{◌+◌, ◌*◌, ◌/◌, ◌%◌, ◌^◌, ◌==◌, ◌&&◌, ◌||◌, nat_lt, nat_le, ℕ, zero, suc, Bool, List, ◌++◌}
use Rattle.std.specs.Prelude.{codes, if◌then◌else◌, Option, Some, None, to_bits}
use Rattle.std.specs.Float.{binary64}
use Rattle.std.specs.Fmt.{sign_text}
use Rattle.bson_double.specs.FiniteDoubles.{is_finite}
use Rattle.bson_double.specs.ShortestDecimal.{nearest_double, scaled_double, scaled_power_of_ten}
use Rattle.bson_double.specs.DoubleText.{decimal_text}

-- whether this multiple of the power of ten reads as the double
abbrev pub multiple_rounds : (bit_pattern count exponent : ℕ) → Bool
multiple_rounds bit_pattern count exponent = to_bits binary64 (nearest_double count exponent) == bit_pattern

-- the multiple at the double or below it
abbrev pub multiple_below : (bit_pattern exponent : ℕ) → ℕ
multiple_below bit_pattern exponent = scaled_double bit_pattern / scaled_power_of_ten exponent

-- whether it is read as the double, or the next one
abbrev pub either_multiple_rounds : (bit_pattern exponent : ℕ) → Bool
either_multiple_rounds bit_pattern exponent =
    multiple_rounds bit_pattern (multiple_below bit_pattern exponent) exponent
    || multiple_rounds bit_pattern (multiple_below bit_pattern exponent + 1) exponent

-- the highest power below n at which one is
unfoldable pub highest_exponent : (bit_pattern power_bound : ℕ) → ℕ
highest_exponent bit_pattern zero = zero
highest_exponent bit_pattern (suc power_bound) =
    if either_multiple_rounds bit_pattern power_bound then power_bound else highest_exponent bit_pattern power_bound

-- the multiple or the next one, whichever is nearer to the double; if both are equally near, the even one
abbrev pub nearer_multiple : (bit_pattern exponent candidate : ℕ) → ℕ
nearer_multiple bit_pattern exponent candidate =
    if nat_lt (2 * scaled_double bit_pattern) ((2 * candidate + 1) * scaled_power_of_ten exponent) then candidate
    else (if (2 * scaled_double bit_pattern == (2 * candidate + 1) * scaled_power_of_ten exponent && candidate % 2 == 0)
    then candidate else candidate + 1)

abbrev pub chosen_multiple : (lower_rounds upper_rounds : Bool) (bit_pattern exponent candidate : ℕ) → ℕ
chosen_multiple lower_rounds upper_rounds bit_pattern exponent candidate =
    if lower_rounds then (if upper_rounds then nearer_multiple bit_pattern exponent candidate else candidate)
    else candidate + 1

unfoldable pub digits_at_exponent : (bit_pattern exponent : ℕ) → ℕ
digits_at_exponent bit_pattern exponent =
    chosen_multiple (multiple_rounds bit_pattern (multiple_below bit_pattern exponent) exponent)
    (multiple_rounds bit_pattern (multiple_below bit_pattern exponent + 1) exponent) bit_pattern exponent
    (multiple_below bit_pattern exponent)

-- the text of a double without its sign
unfoldable pub unsigned_text : (bit_pattern : ℕ) → List ℕ
unsigned_text bit_pattern =
    if bit_pattern == 0 then codes "0.0"
    else decimal_text (digits_at_exponent bit_pattern (highest_exponent bit_pattern 1500))
    (highest_exponent bit_pattern 1500)

-- the text of a finite pattern
unfoldable pub finite_double_text : (bit_pattern : ℕ) → Option (List ℕ)
finite_double_text bit_pattern =
    if is_finite bit_pattern then Some (sign_text (nat_le (2 ^ 63) bit_pattern) ++ unsigned_text (bit_pattern % 2 ^ 63))
    else None
