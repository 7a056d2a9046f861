use Rattle.std.proofs.Common.{◌≡◌, List, ℕ, ◌-◌, ◌^◌, ◌<◌, ◌≤◌, take, get_or, length, arith, length-take}
use Rattle.std.proofs.lemmas.Bool.Decides.{nat_tests}
use Rattle.std.proofs.lemmas.Int.Digits.{digits_value-lt, digits_value_more, digits_more}
use Rattle.std.proofs.lemmas.Str.Parse.{digit_at}
use Rattle.std.specs.Char.{digit_value}
use Rattle.std.specs.Str.Parse.{AllDigits, digits_value}
use Rattle.bson_decimal.proofs.Tens.{tens-le}
use Rattle.bson_decimal.proofs.digits.Digits.value.Goals as goal

digit-value : (b : ℕ) → 48 ≤ b → b ≤ 57 → digit_value b ≡ b - 48
digit-value b low high = grind (arith, nat_tests)

module _ (xs : List ℕ) (i : ℕ) (digits : AllDigits 10 (take i xs)) (within : i < length xs)
    (short : length xs ≤ 34) where
  bound : digits_value 10 (take i xs) < 10 ^ 33
  bound = omega (
    arith,
    digits_value-lt 10 (take i xs) digits,
    length-take i xs,
    tens-le (length (take i xs)) 33 (omega (arith, length-take i xs)),
  )

pub returns-then-not-is_ascii_digit : goal.returns-then-not-is_ascii_digit
returns-then-not-is_ascii_digit c = λ all.
    let at = digit_at c.args.self.now c.loop-digit_index.digit_index all (omega arith) in
    let b : c.byte-digit_byte.result ≡ get_or c.args.self.now c.loop-digit_index.digit_index 0 = c.byte-digit_byte.ensures in
    let low = at.0 in
    let high = at.1 in
    grind (arith, nat_tests, c.if-not-is_ascii_digit.ensures.value)

pub overflow_mul-number : goal.overflow_mul-number
overflow_mul-number c = let b = bound c.args.self.now c.loop-digit_index.digit_index c.loop-digit_index.invariant.0 (omega arith) c.requires in omega arith

pub overflow_add-number : goal.overflow_add-number
overflow_add-number c = let b = bound c.args.self.now c.loop-digit_index.digit_index c.loop-digit_index.invariant.0 (omega arith) c.requires in omega arith

pub loop-digit_index-preserved : goal.loop-digit_index-preserved
loop-digit_index-preserved c =
    let xs = c.args.self.now in
    let i = c.loop-digit_index.digit_index in
    let b : c.byte-digit_byte.result ≡ get_or xs i 0 = c.byte-digit_byte.ensures in
    let range = c.if-not-is_ascii_digit.ensures.cases in
    let v : digit_value (get_or xs i 0) ≡ get_or xs i 0 - 48 =
    digit-value (get_or xs i 0) (omega arith) (omega arith) in
    let inv = c.loop-digit_index.invariant in
    let low : digit_value (get_or xs i 0) < 10 = omega arith in
    (digits_more 10 xs i (omega arith) inv.0 low, omega (arith, digits_value_more 10 xs i (omega arith)))
