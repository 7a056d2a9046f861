-- What holds of the text of a double.
use Rattle.std.proofs.Common.{◌≡◌, ℕ, suc, ◌*◌, ◌%◌, ◌<◌, ◌≤◌, ◌^◌, Bool, true, false, leb, eqb, List, [], ◌∷◌, ◌++◌}
use Rattle.std.proofs.Common.{length, inl, inr, refl, sym, ap, ap₂, ◌∙◌, subst, arith, codes, from_bits, true≢false}
use Rattle.std.proofs.Common.{Some}
use Rattle.std.specs.Prelude.{is_some, ◌||◌, unwrap_or}
use Rattle.std.specs.Char.{to_ascii_lowercase}
use Rattle.std.specs.Str.Parse.{AllDigits}
use Rattle.std.proofs.lemmas.Str.Parse.{digit_from_value}
use Rattle.std.specs.Fmt.{sign_text}
use Rattle.std.specs.Float.{Float, binary64}
use Rattle.std.specs.Float.Ieee.{round}
use Rattle.std.proofs.lemmas.Bool.{cases_lt, lt-ltb, ne_eqb}
use Rattle.std.proofs.lemmas.Fmt.{length-decimal-le}
use Rattle.std.proofs.lemmas.Float.Parse.{is_some-parse_float}
use lib.Ieee.Scale.{round_same}
use Rattle.fast_float.proofs.ExactLemmas.{ten_to_pos}
use Rattle.fast_float.proofs.Extremes.{nearest_of_zero}
use Rattle.fast_float.proofs.Writing.{parse_float-text_of}
use Rattle.fast_float.specs.Text.{Parts, digits_of, tens_up, tens_down}
use Rattle.fast_float.specs.Parse.{parse_float, completes_number, without_sign, is_float_text, is_infinity_text}
use Rattle.fast_float.specs.Parse.{is_nan_text}
use Rattle.ryu.specs.Plain.{IsPlainNumber}
use Rattle.ryu.proofs.Signs.{parts, signed}
use Rattle.bson_double.specs.FiniteDoubles.{is_finite, is_number, parsed_finite_bits}
use Rattle.bson_double.specs.ShortestDecimal.{DecimalRoundsTo, IsShortest}
use Rattle.bson_double.specs.DoubleText.{IsDoubleText, IsUnsignedText, decimal_text}
use Rattle.bson_double.proofs.Patterns.{not_nan, bits_of_finite}
use Rattle.bson_double.proofs.Found.{IsPositive}
use Rattle.bson_double.proofs.Exists.{has_shortest}
use Rattle.bson_double.proofs.Only.{one_decimal}
use Rattle.bson_double.proofs.Bounded.{digits_small, digits_some, power_small}
use Rattle.bson_double.proofs.Laid.{IsTextOf, IsWorth, decimal_text_is, zero_is}

is_positive : (p : ℕ) → 0 < p → p < 2 ^ 63 → is_finite p ≡ true → IsPositive p
is_positive p some small finite = record { some = some; small = small; finite = finite }

-- ---- one text, and no other

zero_unread : (d k : ℕ) → IsShortest 0 d k → ⊥
zero_unread d k s = s.highest 0 (suc k) (omega arith)
    (sym (nearest_of_zero binary64 (0 * 10 ^ suc k) (10 ^ 1100) (ten_to_pos 1100) (omega arith)).0)

one_unsigned : (p : ℕ) (s t : List ℕ) → IsUnsignedText p s → IsUnsignedText p t → s ≡ t
one_unsigned p s t (inl a) (inl b) = a.1 ∙ sym b.1
one_unsigned p s t (inl a) (inr (d, k, y, e)) = absurd (zero_unread d k (subst (λ q. IsShortest q d k) a.0 y))
one_unsigned p s t (inr (d, k, x, e)) (inl b) = absurd (zero_unread d k (subst (λ q. IsShortest q d k) b.0 x))
one_unsigned p s t (inr (d, k, x, e)) (inr (c, j, y, f)) =
    let same = one_decimal p d k c j x y in
    e ∙ (ap₂ decimal_text same.0 same.1 ∙ sym f)

pub one_text : (p : ℕ) (s t : List ℕ) → IsDoubleText p s → IsDoubleText p t → s ≡ t
one_text p s t (u, x, e) (v, y, f) = e
    ∙ (ap (λ w. sign_text (leb (2 ^ 63) p) ++ w) (one_unsigned (p % 2 ^ 63) u v x y) ∙ sym f)

size_finite : (p : ℕ) → is_finite p ≡ true → is_finite (p % 2 ^ 63) ≡ true
size_finite p h = let e : p % 2 ^ 63 % 2 ^ 63 ≡ p % 2 ^ 63 = omega arith in rw e h

unsigned_text : (p : ℕ) → p < 2 ^ 63 → is_finite p ≡ true → (t : List ℕ) × IsUnsignedText p t
unsigned_text p small finite =
    elim (cases_lt 0 p) [
      | inl some ↦ (let x = has_shortest p (is_positive p some small finite) in
          (decimal_text x.0 x.1, inr (x.0, x.1, x.2, refl)))
      | inr none ↦ (codes "0.0", inl (omega arith, refl))
    ]

pub some_text : (p : ℕ) → is_finite p ≡ true → (s : List ℕ) × IsDoubleText p s
some_text p finite =
    let t = unsigned_text (p % 2 ^ 63) (omega arith) (size_finite p finite) in
    (sign_text (leb (2 ^ 63) p) ++ t.0, (t.0, t.1, refl))

-- ---- the text as parts

text_parts : (p : ℕ) (s : List ℕ) → p < 2 ^ 63 → is_finite p ≡ true → IsUnsignedText p s
    → (d : ℕ) × (k : ℕ) × IsTextOf s d k × DecimalRoundsTo p d k
text_parts p s small finite (inl z) = (
  0,
  0,
  subst (λ t. IsTextOf t 0 0) (sym z.1) (zero_is 0),
  sym (nearest_of_zero binary64 (0 * 10 ^ 0) (10 ^ 1100) (ten_to_pos 1100) (omega arith)).0
      ∙ ap (from_bits binary64) (sym z.0),
)
text_parts p s small finite (inr (d, k, x, e)) =
    elim (cases_lt 0 p) [
      | inl some ↦ (let h = is_positive p some small finite in
          let low = digits_small p d k h x in
          let long = length-decimal-le 20 d (omega arith) (omega arith) (omega arith) in
          let power = power_small p d k h x in (
            d,
            k,
            subst (λ t. IsTextOf t d k) (sym e)
                (decimal_text_is d k (digits_some p d k h x) (omega arith) (omega arith)),
            x.read,
          ))
      | inr none ↦ (let z : p ≡ 0 = omega arith in absurd (zero_unread d k (subst (λ q. IsShortest q d k) z x)))
    ]

pub json_number : (p : ℕ) (s : List ℕ) → is_finite p ≡ true → IsDoubleText p s → IsPlainNumber s
json_number p s finite (t, x, e) =
    let y = text_parts (p % 2 ^ 63) t (omega arith) (size_finite p finite) x in
    let text = y.2 in
    (leb (2 ^ 63) p, text.0, e ∙ ap (λ w. sign_text (leb (2 ^ 63) p) ++ w) text.1, text.2)

-- ---- and it is read back

worth_read : (q : Parts) (p d k : ℕ) → IsWorth q d k → DecimalRoundsTo p d k
    → from_bits binary64 p ≡ round binary64 false (digits_of q * 10 ^ tens_up q) (10 ^ tens_down q)
worth_read q p d k w r =
    sym r ∙ sym (round_same binary64 false (digits_of q * 10 ^ tens_up q) (10 ^ tens_down q) (d * 10 ^ k) (10 ^ 1100)
    (ten_to_pos (tens_down q)) (ten_to_pos 1100) w)

pub parses : (p : ℕ) (s : List ℕ) → p < 2 ^ 64 → is_finite p ≡ true → IsDoubleText p s
    → parse_float binary64 s ≡ Some (from_bits binary64 p)
parses p s l finite (t, x, e) =
    let y = text_parts (p % 2 ^ 63) t (omega arith) (size_finite p finite) x in
    let q = y.2.0 in
    let plain = y.2.2 in
    let sides = parts binary64 (from_bits binary64 p) p refl l (not_nan p finite) in
    let value = signed binary64 (from_bits binary64 p) (leb (2 ^ 63) p) (p % 2 ^ 63) (digits_of q * 10 ^ tens_up q)
    (10 ^ tens_down q) sides
    (worth_read q (p % 2 ^ 63) y.0 y.1 y.2.3 y.3) in
    ap (parse_float binary64) (e ∙ ap (λ w. sign_text (leb (2 ^ 63) p) ++ w) y.2.1)
    ∙ (parse_float-text_of binary64 (leb (2 ^ 63) p) q plain.well_formed plain.whole ∙ ap Some value)

-- a text that begins with a digit is no word
small_same : (c : ℕ) → c < 65 → to_ascii_lowercase c ≡ c
small_same c h = rw (lt-ltb c 65 h) refl

no_word : (c : ℕ) (cs : List ℕ) → c < 65 → (is_infinity_text (c ∷ cs) ≡ false) × (is_nan_text (c ∷ cs) ≡ false)
no_word c cs h =
    let i : eqb (to_ascii_lowercase c) 105 ≡ false = ne_eqb _ _ (λ e. let s = small_same c h in omega arith) in
    let n : eqb (to_ascii_lowercase c) 110 ≡ false = ne_eqb _ _ (λ e. let s = small_same c h in omega arith) in
    (rw i refl, rw n refl)

or_none : (a b c : Bool) → b ≡ false → c ≡ false → (a || (b || c)) ≡ true → a ≡ true
or_none true b c e f h = refl
or_none false b c e f h = absurd (true≢false (sym h ∙ ap₂ (λ x y. x || y) e f))

signless : (b : Bool) (c : ℕ) (cs : List ℕ) → 48 ≤ c → without_sign (sign_text b ++ c ∷ cs) ≡ c ∷ cs
signless true c cs h = refl
signless false c cs h =
    let p : eqb c 43 ≡ false = ne_eqb _ _ (λ e. omega arith) in
    let m : eqb c 45 ≡ false = ne_eqb _ _ (λ e. omega arith) in
    rw (p, m) refl

number_at : (b : Bool) (c : ℕ) (cs : List ℕ) (o : Float) → 48 ≤ c → c < 65
    → parse_float binary64 (sign_text b ++ c ∷ cs) ≡ Some o
    → is_number (sign_text b ++ c ∷ cs) ≡ true
number_at b c cs o l h e =
    let some : is_float_text (sign_text b ++ c ∷ cs) ≡ true =
    sym (is_some-parse_float binary64 (sign_text b ++ c ∷ cs)) ∙ ap is_some e in
    let words = no_word c cs h in
    let bare = signless b c cs l in
    let w : (completes_number 0 (c ∷ cs) || (is_infinity_text (c ∷ cs) || is_nan_text (c ∷ cs))) ≡ true =
    ap (λ u. completes_number 0 u || (is_infinity_text u || is_nan_text u)) (sym bare) ∙ some in
    ap (completes_number 0) bare ∙ or_none _ _ _ words.0 words.1 w

number_of : (b : Bool) (ds rest : List ℕ) (o : Float) → AllDigits 10 ds → 0 < length ds
    → parse_float binary64 (sign_text b ++ (ds ++ rest)) ≡ Some o
    → is_number (sign_text b ++ (ds ++ rest)) ≡ true
number_of b [] rest o h l e = absurd (omega arith)
number_of b (d ∷ ds) rest o h l e = let r = digit_from_value d h.0 in
    number_at b d (ds ++ rest) o (omega arith) (omega arith) e

pub read_back : (p : ℕ) (s : List ℕ) → p < 2 ^ 64 → is_finite p ≡ true → IsDoubleText p s → parsed_finite_bits s ≡ Some p
read_back p s l finite text =
    let value = parses p s l finite text in
    let y = json_number p s finite text in
    let number : is_number s ≡ true =
    subst (λ u. is_number u ≡ true) (sym y.2)
    (number_of y.0 y.1.whole _ (from_bits binary64 p) y.3.well_formed.whole_digits y.3.whole
    (subst (λ u. parse_float binary64 u ≡ Some (from_bits binary64 p)) y.2 value)) in
    rw (number, value) (bits_of_finite p l finite)

pub texts_apart : (p q : ℕ) (s : List ℕ) → p < 2 ^ 64 → q < 2 ^ 64 → is_finite p ≡ true → is_finite q ≡ true
    → IsDoubleText p s → IsDoubleText q s → p ≡ q
texts_apart p q s l m h i x y = some_same (sym (read_back p s l h x) ∙ read_back q s m i y)
  where
    some_same : {a b : ℕ} → Some a ≡ Some b → a ≡ b
    some_same {a} e = ap (λ o. unwrap_or o a) e
