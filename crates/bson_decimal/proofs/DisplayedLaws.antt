-- A printed text parses to the canonical pattern.
use Rattle.std.proofs.Common.{◌≡◌, ℕ, zero, suc, ◌+◌, ◌-◌, ◌*◌, ◌^◌, ◌<◌, ◌≤◌, inl, inr, Bool, true, false, ◌&&◌}
use Rattle.std.proofs.Common.{eqb, ltb, List, [], ◌∷◌, ◌++◌, length, take, drop, replicate, pos, neg_ℤ, ◌-ℤ◌}
use Rattle.std.proofs.Common.{Option, Some, None, refl, sym, ap, subst, ◌∙◌, arith, length-append, length-drop}
use Rattle.std.specs.Prelude.{codes, int_le, int_lt, unsigned_abs, Result, Ok, Err, ◌↔◌, IsOkAnd}
use Rattle.bson_decimal.specs.ParseResult.{IsParseResult}
use Rattle.bson_decimal.specs.declared.ParseError.{ParseError}
use Rattle.bson_decimal.specs.ParseSteps as Steps
use Rattle.bson_decimal.proofs.Bytes.{from_le_bytes-to_le_bytes_16}
use Rattle.bson_decimal.proofs.PatternLaws.{IsDecoded, number_meaning-within, number_meaning-first_form, first_form-lt}
use Rattle.bson_decimal.proofs.Parsing.{word-off, no-word, special-parses, finite-parses, refused-parses}
use Rattle.std.specs.Fmt.{decimal, sign_text}
use Rattle.std.proofs.lemmas.Bool.{cases_Bool, eqb-true, and_parts, ltb-true, ltb-false}
use Rattle.std.proofs.lemmas.Bool.Decides.{nat_tests}
use Rattle.std.proofs.lemmas.Fmt.{decimal_digit, decimal_is_IsNumeral_wide, length-decimal-le_wide}
use Rattle.std.proofs.lemmas.Int.{ints, clamps}
use Rattle.std.proofs.lemmas.List.{take-append-drop, length-replicate, append-nil, take_all}
use Rattle.std.proofs.Math.Numerals.{one-add}
use Rattle.std.specs.Int.{w128, to_le_bytes, from_le_bytes}
use Rattle.std.specs.List.{prefix_len}
use Rattle.std.specs.Str.Parse.{AllDigits, digits_value, without_leading_sign}
use Rattle.bson_decimal.specs.declared.bits.Decoded.{Decoded}
use Rattle.bson_decimal.specs.declared.bits.Decoded.TheVariants.{Nan, Infinity, Finite}
use Rattle.bson_decimal.specs.Exponents.{unbiased_exponent}
use Rattle.bson_decimal.specs.DecimalBits.{decoded_decimal_bits, decoded_decimal, encoded_finite, sign_bit, canonical_decimal}
use Rattle.bson_decimal.specs.DecimalBits.{canonical_decimal_bits}
use Rattle.bson_decimal.specs.DecimalText.{decoded_decimal_text, decimal128_text, finite_text, plain_text, scientific_text}
use Rattle.bson_decimal.specs.DecimalText.{scientific_exponent, signed_exponent_text}
use Rattle.bson_decimal.specs.NumeralGrammar.{Sign, none, plus, minus, sign_bytes, is_minus, Exponent, unwritten, written}
use Rattle.bson_decimal.specs.NumeralGrammar.{exponent_bytes, fraction_bytes, fraction_digits, IsExponent, Numeral, is_zero}
use Rattle.bson_decimal.specs.NumeralGrammar.{without_leading_zeros}
use Rattle.bson_decimal.specs.DecimalStrings.{DenotesDecimal, special, nan, infinity, finite}
use Rattle.bson_decimal.proofs.Shifted.{IsNearestShifted, written_up, written_down, up, down, within16, nearest}
use Rattle.bson_decimal.proofs.NearestLaws.{nearest-same}
use Rattle.bson_decimal.proofs.Zeros.{value-before, AllDigits-append, AllDigits-zeros}

sign_of : Bool → Sign
sign_of true = minus
sign_of false = none

sign_bytes-is : (b : Bool) → sign_text b ≡ sign_bytes (sign_of b)
unfolding sign_of
sign_bytes-is true = refl
sign_bytes-is false = refl

is_minus-is : (b : Bool) → is_minus (sign_of b) ≡ b
unfolding sign_of
is_minus-is true = refl
is_minus-is false = refl

-- the parts of a printed number
record Prints (c e : ℕ) (body : List ℕ) : Type 0 where
  integer_digits : List ℕ
  fraction : Option (List ℕ)
  exponent : Exponent
  is : body ≡ integer_digits ++ (fraction_bytes fraction ++ exponent_bytes exponent)
  digits : AllDigits 10 (integer_digits ++ fraction_digits fraction)
  some : 0 < length (integer_digits ++ fraction_digits fraction)
  ok : IsExponent exponent
  value : digits_value 10 (integer_digits ++ fraction_digits fraction) ≡ c
  high : written_up exponent ≤ 7000
  low : written_down exponent ≤ 7000
  short : length (fraction_digits fraction) ≤ 7000
  few : length (without_leading_zeros (integer_digits ++ fraction_digits fraction)) ≤ 34
  at : e + (length (fraction_digits fraction) + written_down exponent) ≡ written_up exponent + 6176

from-prints : (negative : Bool) (c e : ℕ) (body : List ℕ) → c < 10 ^ 34 → e < 12288 → Prints c e body
    → DenotesDecimal (sign_text negative ++ body) (to_le_bytes w128 (encoded_finite negative c e))
from-prints negative c e body small within p =
    let n : Numeral = record {
      sign = sign_of negative;
      integer_digits = p.integer_digits;
      fraction = p.fraction;
      exponent = p.exponent;
    } in
    let high = p.high in
    let low = p.low in
    let short = p.short in
    let few = p.few in
    let at = p.at in
    finite n c e
    (record {
      is = ap (λ t. t ++ body) (sign_bytes-is negative) ∙ ap (λ t. sign_bytes (sign_of negative) ++ t) p.is;
      digits = p.digits;
      some = p.some;
      exponent = p.ok;
    })
    (within16 n (record {
      high = omega arith;
      low = omega arith;
      fraction = omega arith;
      least = omega arith;
      cut = omega arith;
      greatest = omega arith;
    }))
    (nearest n c e (subst (λ m. IsNearestShifted m (up n) (down n) c e) (sym p.value)
    (nearest-same c (up n) (down n) e small within p.at)))
    (ap (λ b. to_le_bytes w128 (encoded_finite b c e)) (sym (is_minus-is negative)))

stripped-le : (ds : List ℕ) → length ds ≤ 34 → length (without_leading_zeros ds) ≤ 34
stripped-le ds h = omega (arith, length-drop (prefix_len is_zero ds) ds)

stripped-zeros : (k : ℕ) (ds : List ℕ) → without_leading_zeros (replicate k 48 ++ ds) ≡ without_leading_zeros ds
stripped-zeros zero ds = refl
stripped-zeros (suc k) ds = rw one-add (stripped-zeros k ds)

-- what `decimal` writes
record Writes (c : ℕ) : Type 0 where
  some : 0 < length (decimal c)
  digits : AllDigits 10 (decimal c)
  value : digits_value 10 (decimal c) ≡ c

writes : (c : ℕ) → c < 10 ^ 64 → Writes c
writes c h = let d = decimal_is_IsNumeral_wide c h in record { some = d.0.0; digits = d.0.1; value = d.1 }

-- the text of an exponent that is not 0
power-above : (n : ℕ) → 0 < n → signed_exponent_text (pos n) ≡ 43 ∷ decimal n
power-above n some = let above : int_lt (pos 0) (pos n) ≡ true = grind (arith, ints) in rw above refl

power-below : (n : ℕ) → 0 < n → signed_exponent_text (neg_ℤ (pos n)) ≡ 45 ∷ decimal n
power-below zero some = absurd (omega arith)
power-below (suc n) some = refl

-- the exponent k - 6177 that is written after an `E`
record PrintsPower (k : ℕ) : Type 0 where
  exponent : Exponent
  is : 69 ∷ signed_exponent_text (pos k -ℤ pos 6177) ≡ exponent_bytes exponent
  ok : IsExponent exponent
  at : written_up exponent + 6177 ≡ k + written_down exponent
  high : written_up exponent ≤ 7000
  low : written_down exponent ≤ 7000

prints-power : (k : ℕ) → k ≤ 12400 → PrintsPower k
prints-power k most =
    elim (cases_Bool (ltb 6177 k)) [
      | inl a ↦
          let above = ltb-true 6177 k a in
          let d = writes (k - 6177) (omega arith) in
          let v = d.value in
          let x : pos k -ℤ pos 6177 ≡ pos (k - 6177) = omega (arith, ints) in
          record {
            exponent = written 69 plus (decimal (k - 6177));
            is = rw x (ap (λ t. 69 ∷ t) (power-above (k - 6177) (omega arith)));
            ok = (inr refl, d.some, d.digits);
            at = omega arith;
            high = omega arith;
            low = omega arith;
          }
      | inr a ↦ let below = ltb-false 6177 k a in elim (cases_Bool (eqb k 6177)) [
        | inl b ↦ let is = eqb-true k 6177 b in
            record {
              exponent = written 69 none (48 ∷ []);
              is = rw is (ap (λ t. 69 ∷ t) (decimal_digit 0 (omega arith)));
              ok = (inr refl, omega arith, (omega arith, tt));
              at = omega arith;
              high = omega arith;
              low = omega arith;
            }
        | inr b ↦
            let d = writes (6177 - k) (omega arith) in
            let v = d.value in
            let other : k < 6177 = grind (arith, nat_tests) in
            let x : pos k -ℤ pos 6177 ≡ neg_ℤ (pos (6177 - k)) = omega (arith, ints) in
            record {
              exponent = written 69 minus (decimal (6177 - k));
              is = rw x (ap (λ t. 69 ∷ t) (power-below (6177 - k) (omega arith)));
              ok = (inr refl, d.some, d.digits);
              at = omega arith;
              high = omega arith;
              low = omega arith;
            }
      ]
    ]

module _ (c e : ℕ) (small : c < 10 ^ 34) (within : e < 12288) where
  short : length (decimal c) ≤ 34
  short = length-decimal-le_wide 34 c (omega arith) small (omega arith)

  plain-prints : e ≤ 6176 → 6171 ≤ e + length (decimal c) → Prints c e (plain_text (decimal c) (6176 - e))
  plain-prints low near =
      let d = writes c (omega arith) in
      let ds = decimal c in
      let few = short in
      elim (cases_Bool (eqb (6176 - e) 0)) [
        | inl a ↦
            let zero-p = eqb-true (6176 - e) 0 a in
            rw a (record {
              integer_digits = ds;
              fraction = None;
              exponent = unwritten;
              is = sym (append-nil ds);
              digits = rw append-nil d.digits;
              some = rw append-nil d.some;
              ok = tt;
              value = rw append-nil d.value;
              high = omega arith;
              low = omega arith;
              short = omega arith;
              few = rw append-nil (stripped-le ds short);
              at = omega arith;
            })
        | inr a ↦ elim (cases_Bool (ltb (6176 - e) (length ds))) [
          | inl b ↦
              let inside = ltb-true (6176 - e) (length ds) b in
              let joined = take-append-drop (length ds - (6176 - e)) ds in
              let size : length (drop (length ds - (6176 - e)) ds) ≡ 6176 - e =
              omega (arith, length-drop (length ds - (6176 - e)) ds) in
              rw (a, b) (record {
                integer_digits = take (length ds - (6176 - e)) ds;
                fraction = Some (drop (length ds - (6176 - e)) ds);
                exponent = unwritten;
                is = ap (λ t. take (length ds - (6176 - e)) ds ++ 46 ∷ t)
                    (sym (append-nil (drop (length ds - (6176 - e)) ds)));
                digits = rw joined d.digits;
                some = rw joined d.some;
                ok = tt;
                value = rw joined d.value;
                high = omega arith;
                low = omega arith;
                short = omega (arith, size);
                few = rw joined (stripped-le ds short);
                at = omega (arith, size);
              })
          | inr b ↦
              let outside = ltb-false (6176 - e) (length ds) b in
              let k = 6176 - e - length ds in
              let size : length (replicate k 48 ++ ds) ≡ 6176 - e =
              omega (arith, length-append (replicate k 48) ds, length-replicate {A = ℕ} k 48) in
              rw (a, b) (record {
                integer_digits = 48 ∷ [];
                fraction = Some (replicate k 48 ++ ds);
                exponent = unwritten;
                is = ap (λ t. 48 ∷ 46 ∷ t) (sym (append-nil (replicate k 48 ++ ds)));
                digits = AllDigits-append (replicate (suc k) 48) ds (AllDigits-zeros (suc k)) d.digits;
                some = omega arith;
                ok = tt;
                value = value-before (suc k) ds ∙ d.value;
                high = omega arith;
                low = omega arith;
                short = omega (arith, size);
                few = rw (stripped-zeros (suc k) ds) (stripped-le ds short);
                at = omega (arith, size);
              })
        ]
      ]

  scientific-prints : Prints c e (scientific_text (decimal c) (pos (e + length (decimal c)) -ℤ pos 6177))
  scientific-prints =
      let d = writes c (omega arith) in
      let ds = decimal c in
      let few = short in
      let some = d.some in
      let p = prints-power (e + length ds) (omega arith) in
      let at = p.at in
      let high = p.high in
      let low = p.low in
      elim (cases_Bool (eqb (length ds) 1)) [
        | inl a ↦
            let one = eqb-true (length ds) 1 a in
            let all = take_all 1 ds (omega arith) in
            rw (a, all) (record {
              integer_digits = ds;
              fraction = None;
              exponent = p.exponent;
              is = ap (λ t. ds ++ t) p.is;
              digits = rw append-nil d.digits;
              some = rw append-nil d.some;
              ok = p.ok;
              value = rw append-nil d.value;
              high = high;
              low = low;
              short = omega arith;
              few = rw append-nil (stripped-le ds short);
              at = omega arith;
            })
        | inr a ↦
            let joined = take-append-drop 1 ds in
            let size : length (drop 1 ds) ≡ length ds - 1 = length-drop 1 ds in
            rw a (record {
              integer_digits = take 1 ds;
              fraction = Some (drop 1 ds);
              exponent = p.exponent;
              is = ap (λ t. take 1 ds ++ (46 ∷ drop 1 ds ++ t)) p.is;
              digits = rw joined d.digits;
              some = rw joined d.some;
              ok = p.ok;
              value = rw joined d.value;
              high = high;
              low = low;
              short = omega (arith, size);
              few = rw joined (stripped-le ds short);
              at = omega (arith, size);
            })
      ]

-- the tests on an exponent, of the stored one
pub at-most-zero : (e : ℕ) → int_le (unbiased_exponent e) (pos 0) ≡ true → e ≤ 6176
at-most-zero e h = grind (arith, ints, h)

pub at-least-six : (ds : List ℕ) (e : ℕ) → int_le (neg_ℤ (pos 6)) (scientific_exponent ds (unbiased_exponent e)) ≡ true
    → 6171 ≤ e + length ds
at-least-six ds e h = grind (arith, ints, h)

pub places : (e : ℕ) → e ≤ 6176 → unsigned_abs (unbiased_exponent e) ≡ 6176 - e
places e low = omega (arith, ints, clamps)

pub first-digit : (ds : List ℕ) (e : ℕ) → scientific_exponent ds (unbiased_exponent e) ≡ pos (e + length ds) -ℤ pos 6177
first-digit ds e = omega (arith, ints)

finite-prints : (c e : ℕ) → c < 10 ^ 34 → e < 12288 → Prints c e (finite_text (decimal c) (unbiased_exponent e))
finite-prints c e small within =
    let ds = decimal c in
    let x = unbiased_exponent e in
    elim (cases_Bool (int_le x (pos 0) && int_le (neg_ℤ (pos 6)) (scientific_exponent ds x))) [
      | inl a ↦
          let tests = and_parts (int_le x (pos 0)) _ a in
          let low = at-most-zero e tests.0 in
          rw (a, places e low) (plain-prints c e small within low (at-least-six ds e tests.1))
      | inr a ↦ rw (a, first-digit ds e) (scientific-prints c e small within)
    ]

decoded_decimal_text-parses : (d : Decoded) → IsDecoded d → DenotesDecimal (decoded_decimal_text d) (to_le_bytes w128 (canonical_decimal_bits d))
decoded_decimal_text-parses (Nan s q) h = special none (codes "NaN") (124 * 2 ^ 120) refl (nan refl) refl
decoded_decimal_text-parses (Infinity s) h =
    special (sign_of s) (codes "Infinity") (120 * 2 ^ 120) (ap (λ t. t ++ codes "Infinity") (sign_bytes-is s))
    (infinity refl)
    (ap (λ b. to_le_bytes w128 (sign_bit b + 120 * 2 ^ 120)) (sym (is_minus-is s)))
decoded_decimal_text-parses (Finite s c e) h =
    from-prints s c e (finite_text (decimal c) (unbiased_exponent e)) h.0 h.1 (finite-prints c e h.0 h.1)

-- a printed text parses to the canonical pattern
pub display_text-parses : (b : List ℕ) → DenotesDecimal (decimal128_text b) (canonical_decimal b)
unfolding decimal128_text canonical_decimal
display_text-parses b = decoded_decimal_text-parses (decoded_decimal b) (number_meaning-within (from_le_bytes w128 b))

-- a text parses to one pattern
pub parses-one : (text a b : List ℕ) → DenotesDecimal text a → DenotesDecimal text b → a ≡ b
parses-one text a b (special s word n is w a-is) other =
    let off = word-off s word n w in
    let rest = ap without_leading_sign is ∙ off.0 in
    let one = (special-parses text n (rw rest w)).1 in
    one a (special s word n is w a-is) ∙ sym (one b other)
parses-one text a b (finite n c e t l near a-is) other = by-steps (Steps.finite (without_leading_sign text)) refl
  where
    by-steps : (r : Result (ℕ × ℕ) ParseError) → Steps.finite (without_leading_sign text) ≡ r → a ≡ b
    by-steps (Ok r) is =
        let one = (finite-parses text r (λ m. no-word text n m t) is).1 in
        one a (finite n c e t l near a-is) ∙ sym (one b other)
    by-steps (Err k) is = absurd (refused-parses text k (λ m. no-word text n m t) is a (finite n c e t l near a-is))

canon-lt : (d : Decoded) → IsDecoded d → canonical_decimal_bits d < 2 ^ 128
canon-lt (Nan s q) h = omega arith
canon-lt (Infinity true) h = omega arith
canon-lt (Infinity false) h = omega arith
canon-lt (Finite s c e) h = first_form-lt s c e h.0 h.1

decoded_decimal_text-canon : (d : Decoded) → IsDecoded d → decoded_decimal_text (decoded_decimal_bits (canonical_decimal_bits d)) ≡ decoded_decimal_text d
decoded_decimal_text-canon (Nan s q) h = refl
decoded_decimal_text-canon (Infinity true) h = refl
decoded_decimal_text-canon (Infinity false) h = refl
decoded_decimal_text-canon (Finite s c e) h = ap decoded_decimal_text (number_meaning-first_form s c e h.0 h.1)

pub display_text-canon : (b : List ℕ) → decimal128_text (canonical_decimal b) ≡ decimal128_text b
unfolding decimal128_text canonical_decimal
display_text-canon b =
    let h = number_meaning-within (from_le_bytes w128 b) in
    ap (λ n. decoded_decimal_text (decoded_decimal_bits n))
    (from_le_bytes-to_le_bytes_16 (canonical_decimal_bits (decoded_decimal b)) (canon-lt (decoded_decimal b) h))
    ∙ decoded_decimal_text-canon (decoded_decimal b) h

-- two patterns print the same string if and only if their canonical patterns are equal
pub display_text-same : (a b : List ℕ) → (decimal128_text a ≡ decimal128_text b) ↔ (canonical_decimal a ≡ canonical_decimal b)
display_text-same a b = (
  λ e. parses-one (decimal128_text b) (canonical_decimal a) (canonical_decimal b) (rw e at (display_text-parses a))
      (display_text-parses b),
  λ e. sym (display_text-canon a) ∙ ap decimal128_text e ∙ display_text-canon b,
)

-- so a printed text is answered by its canonical pattern
pub reads-display_text : (text : List ℕ) (r : Result (List ℕ) ParseError) → IsParseResult text r → (b : List ℕ)
    → text ≡ decimal128_text b → IsOkAnd r (λ d. d ≡ canonical_decimal b)
reads-display_text text (Ok d) h b e = sym (h.1 (canonical_decimal b) (rw e (display_text-parses b)))
reads-display_text text (Err k) h b e = absurd (h.0 (canonical_decimal b) (rw e (display_text-parses b)))
