-- How long the text of a decimal is.
use Rattle.std.proofs.Common.{◌≡◌, ℕ, zero, suc, ◌+◌, ◌-◌, ◌^◌, ◌<◌, ◌≤◌, inl, inr, Bool, true, false, ◌&&◌}
use Rattle.std.proofs.Common.{eqb, ltb, List, ◌++◌, length, take, drop, replicate, pos, neg_ℤ}
use Rattle.std.proofs.Common.{◌-ℤ◌, arith, length-append, length-drop}
use Rattle.std.specs.Prelude.{codes, int_le, int_lt}
use Rattle.std.specs.Fmt.{decimal, sign_text}
use Rattle.std.proofs.lemmas.Bool.{cases_Bool, and_parts, ltb-true, ltb-false}
use Rattle.std.proofs.lemmas.Fmt.{length-decimal-le_wide}
use Rattle.std.proofs.lemmas.Int.{ints}
use Rattle.std.proofs.lemmas.List.{length-replicate, length-take}
use Rattle.std.specs.Int.{w128, from_le_bytes}
use Rattle.bson_decimal.specs.declared.bits.Decoded.{Decoded}
use Rattle.bson_decimal.specs.declared.bits.Decoded.TheVariants.{Nan, Infinity, Finite}
use Rattle.bson_decimal.specs.Exponents.{unbiased_exponent}
use Rattle.bson_decimal.specs.DecimalBits.{decoded_decimal}
use Rattle.bson_decimal.specs.DecimalText.{decoded_decimal_text, decimal128_text, finite_text, plain_text, scientific_text}
use Rattle.bson_decimal.specs.DecimalText.{scientific_exponent, signed_exponent_text}
use Rattle.bson_decimal.proofs.PatternLaws.{IsDecoded, number_meaning-within}
use Rattle.bson_decimal.proofs.DisplayedLaws.{at-most-zero, at-least-six, places, first-digit}

digits-length : (k n : ℕ) → 0 < k → n < 10 ^ k → n < 10 ^ 64 → length (decimal n) ≤ k
digits-length k n = length-decimal-le_wide k n

below : (n : ℕ) → n < 9999 → length (signed_exponent_text (neg_ℤ (pos n))) ≤ 5
below zero h = omega (arith, digits-length 4 0 (omega arith) (omega arith) (omega arith))
below (suc n) h = omega (arith, digits-length 4 (suc n) (omega arith) (omega arith) (omega arith))

-- an exponent has four digits at most, and a sign
signed_exponent_text-length : (k : ℕ) → k < 12400 → length (signed_exponent_text (pos k -ℤ pos 6177)) ≤ 5
signed_exponent_text-length k most =
    elim (cases_Bool (ltb 6177 k)) [
      | inl a ↦
          let high = ltb-true 6177 k a in
          let x : pos k -ℤ pos 6177 ≡ pos (k - 6177) = omega (arith, ints) in
          let above : int_lt (pos 0) (pos (k - 6177)) ≡ true = grind (arith, ints) in
          rw (x, above) (omega (arith, digits-length 4 (k - 6177) (omega arith) (omega arith) (omega arith)))
      | inr a ↦
          let low = ltb-false 6177 k a in
          let x : pos k -ℤ pos 6177 ≡ neg_ℤ (pos (6177 - k)) = omega (arith, ints) in
          rw x (below (6177 - k) (omega arith))
    ]

plain_text-length : (ds : List ℕ) (n : ℕ) → length ds ≤ 34 → n ≤ length ds + 5
    → length (plain_text ds n) ≤ 41
plain_text-length ds n few near =
    let cut = length ds - n in
    let parts = length-append (take cut ds) (codes "." ++ drop cut ds) in
    let filled = length-append (replicate (n - length ds) 48) ds in
    elim (cases_Bool (eqb n 0)) [
      | inl a ↦ rw a (omega arith)
      | inr a ↦ elim (cases_Bool (ltb n (length ds))) [
        | inl b ↦ rw (a, b) (omega (arith, parts, length-take cut ds, length-drop cut ds))
        | inr b ↦ rw (a, b) (omega (arith, filled, length-replicate {A = ℕ} (n - length ds) 48))
      ]
    ]

scientific_text-length : (ds : List ℕ) (k : ℕ) → length ds ≤ 34 → k < 12400
    → length (scientific_text ds (pos k -ℤ pos 6177)) ≤ 41
scientific_text-length ds k few most =
    let power = codes "E" ++ signed_exponent_text (pos k -ℤ pos 6177) in
    let most = signed_exponent_text-length k most in
    let first = length-take 1 ds in
    elim (cases_Bool (eqb (length ds) 1)) [
      | inl a ↦ rw a (omega (arith, length-append (take 1 ds) power, first, most))
      | inr a ↦
          rw a
          (omega (
            arith,
            length-append (take 1 ds) (codes "." ++ drop 1 ds ++ power),
            length-append (drop 1 ds) power,
            first,
            length-drop 1 ds,
            most,
          ))
    ]

finite_text-length : (c e : ℕ) → c < 10 ^ 34 → e < 12288 → length (finite_text (decimal c) (unbiased_exponent e)) ≤ 41
finite_text-length c e small within =
    let ds = decimal c in
    let few = digits-length 34 c (omega arith) small (omega arith) in
    let x = unbiased_exponent e in
    elim (cases_Bool (int_le x (pos 0) && int_le (neg_ℤ (pos 6)) (scientific_exponent ds x))) [
      | inl a ↦
          let tests = and_parts (int_le x (pos 0)) _ a in
          let low = at-most-zero e tests.0 in
          rw (a, places e low) (plain_text-length ds (6176 - e) few (omega (arith, at-least-six ds e tests.1)))
      | inr a ↦ rw (a, first-digit ds e) (scientific_text-length ds (e + length ds) few (omega arith))
    ]

signed-length : (negative : Bool) (text : List ℕ) → length text ≤ 41 → length (sign_text negative ++ text) ≤ 42
signed-length true text h = omega arith
signed-length false text h = omega arith

decoded_decimal_text-length : (d : Decoded) → IsDecoded d → length (decoded_decimal_text d) ≤ 42
decoded_decimal_text-length (Nan s q) h = omega arith
decoded_decimal_text-length (Infinity s) h = signed-length s (codes "Infinity") (omega arith)
decoded_decimal_text-length (Finite s c e) h =
    signed-length s (finite_text (decimal c) (unbiased_exponent e)) (finite_text-length c e h.0 h.1)

-- the text of a decimal has at most 42 bytes
pub display_text-length : (b : List ℕ) → length (decimal128_text b) ≤ 42
unfolding decimal128_text
display_text-length b = decoded_decimal_text-length (decoded_decimal b) (number_meaning-within (from_le_bytes w128 b))
