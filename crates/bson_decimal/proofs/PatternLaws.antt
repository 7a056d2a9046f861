-- What a pattern means has its numbers in range, and a finite decimal is read back from its first form.
use Rattle.std.proofs.Common.{◌≡◌, ℕ, ◌^◌, ◌<◌, Bool, true, false, cond, eqb, refl, ap, ◌∙◌, arith}
use Rattle.std.proofs.lemmas.Bool.Decides.{nat_tests}
use Rattle.std.specs.Prelude.{⊤}
use Rattle.std.specs.Int.{w128, to_le_bytes}
use Rattle.bson_decimal.specs.declared.bits.Decoded.{Decoded}
use Rattle.bson_decimal.specs.declared.bits.Decoded.TheVariants.{Nan, Infinity, Finite}
use Rattle.bson_decimal.specs.DecimalBits.{decoded_decimal_bits, decoded_decimal, encoded_finite, bit_field, is_bit_set, canonical_coefficient}
use Rattle.bson_decimal.proofs.Bytes.{from_le_bytes-to_le_bytes_16}

abbrev pub IsDecoded : Decoded → Type 0
IsDecoded (Nan s q) = ⊤
IsDecoded (Infinity s) = ⊤
IsDecoded (Finite s c e) = (c < 10 ^ 34) × (e < 12288)

choose : (b : Bool) (x y : Decoded) → (b ≡ true → IsDecoded x) → (b ≡ false → IsDecoded y) → IsDecoded (cond b x y)
choose true x y f g = f refl
choose false x y f g = g refl

pub number_meaning-within : (n : ℕ) → IsDecoded (decoded_decimal_bits n)
number_meaning-within n =
    let rest = Finite (is_bit_set n 127) (canonical_coefficient (bit_field n 0 113)) (bit_field n 113 14) in
    let second = Finite (is_bit_set n 127) 0 (bit_field n 111 14) in
    let other : Decoded = cond (eqb (bit_field n 125 2) 3) second rest in
    choose (eqb (bit_field n 122 5) 31) (Nan (is_bit_set n 127) (is_bit_set n 121))
    (cond (eqb (bit_field n 122 5) 30) (Infinity (is_bit_set n 127)) other) (λ _. tt)
    (λ a. choose (eqb (bit_field n 122 5) 30) (Infinity (is_bit_set n 127)) other (λ _. tt)
    (λ b. choose (eqb (bit_field n 125 2) 3) second rest
    (λ c. (omega arith, grind (arith, nat_tests)))
    (λ c. (grind (arith, nat_tests), grind (arith, nat_tests)))))

pub number_meaning-first_form : (negative : Bool) (c e : ℕ) → c < 10 ^ 34 → e < 12288
    → decoded_decimal_bits (encoded_finite negative c e) ≡ Finite negative c e
number_meaning-first_form true c e small low = grind (arith, nat_tests)
number_meaning-first_form false c e small low = grind (arith, nat_tests)

pub first_form-lt : (negative : Bool) (c e : ℕ) → c < 10 ^ 34 → e < 12288 → encoded_finite negative c e < 2 ^ 128
first_form-lt true c e small low = omega arith
first_form-lt false c e small low = omega arith

pub bytes_meaning-first_form : (negative : Bool) (c e : ℕ) → c < 10 ^ 34 → e < 12288
    → decoded_decimal (to_le_bytes w128 (encoded_finite negative c e)) ≡ Finite negative c e
bytes_meaning-first_form negative c e small low =
    ap decoded_decimal_bits (from_le_bytes-to_le_bytes_16 _ (first_form-lt negative c e small low))
    ∙ number_meaning-first_form negative c e small low
