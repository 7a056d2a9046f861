-- The test for digits and the fact.
use Rattle.std.proofs.Common.{◌≡◌, ℕ, ◌+◌, ◌*◌, ◌^◌, ◌<◌, ◌≤◌, true, false, List, length, arith, inl, inr}
use Rattle.std.proofs.lemmas.Bool.{cases_Bool}
use Rattle.std.proofs.lemmas.Int.Digits.{digits_value-lt}
use Rattle.std.proofs.lemmas.Nat.{pow-add}
use Rattle.std.proofs.Math.Nat.{mul-lt-mul_of_pos_right}
use Rattle.std.proofs.lemmas.Str.Parse.{IsNumeralModel, numerals_by_value, tells_all_ascii_digits}
use Rattle.std.specs.Str.{all_ascii_digits}
use Rattle.std.specs.Str.Parse.{AllDigits, digits_value}
use Rattle.bson_decimal.proofs.Tens.{tens-pos, tens-le}

own : IsNumeralModel (λ ds. all_ascii_digits ds ≡ true) (digits_value 10)
own = numerals_by_value _ tells_all_ascii_digits

pub AllDigits-from_test : (ds : List ℕ) → all_ascii_digits ds ≡ true → AllDigits 10 ds
AllDigits-from_test ds e = own.to ds e

pub test-from_AllDigits : (ds : List ℕ) → AllDigits 10 ds → all_ascii_digits ds ≡ true
test-from_AllDigits ds h = own.from ds h

pub test-false : (ds : List ℕ) → ¬ (AllDigits 10 ds) → all_ascii_digits ds ≡ false
test-false ds h = elim (cases_Bool (all_ascii_digits ds)) [ inl e ↦ absurd (h (own.to ds e)) | inr e ↦ e ]

pub scaled-lt : (ds : List ℕ) (z : ℕ) → AllDigits 10 ds → length ds + z ≤ 34 → digits_value 10 ds * 10 ^ z < 10 ^ 34
scaled-lt ds z digits fits =
    omega (
      arith,
      mul-lt-mul_of_pos_right (digits_value-lt 10 ds digits) (tens-pos z),
      pow-add 10 (length ds) z,
      tens-le (length ds + z) 34 fits,
    )
