-- The layout of a decimal: its parts are those of a number, plainly written, and worth the decimal.
use Rattle.std.proofs.Common.{◌≡◌, ℕ, zero, suc, ◌+◌, ◌-◌, ◌*◌, ◌^◌, ◌<◌, ◌≤◌, Bool, true, false, cond, eqb, List, []}
use Rattle.std.proofs.Common.{◌∷◌, ◌++◌, length, get_or, take, drop, replicate, inl, inr, refl, sym, ap, ◌∙◌, subst}
use Rattle.std.proofs.Common.{arith, true≢false, append-nil, append_assoc, length-append, length-take-le, length-drop}
use Rattle.std.proofs.Common.{◌⊎◌, take-append-drop, codes}
use Rattle.std.proofs.lemmas.Bool.{cases_lt, lt-ltb, le-ltb, le-leb, lt-leb, ne_eqb}
use Rattle.std.proofs.lemmas.Fmt.{decimal_is_IsNumeral, decimal_nonempty, first_decimal}
use Rattle.std.proofs.lemmas.List.{length-replicate}
use Rattle.std.specs.Fmt.{decimal}
use Rattle.std.specs.Str.Parse.{digits_value, AllDigits}
use Rattle.fast_float.specs.Text.{Parts, text_of, digits_of, tens_up, tens_down, exponent_text}
use Rattle.fast_float.proofs.DigitsLemmas.{digits_value-append}
use Rattle.fast_float.proofs.Rows.{AllDigits-take, AllDigits-drop, AllDigits-append}
use Rattle.ryu.specs.Plain.{IsPlain}
use Rattle.ryu.proofs.Texts.{AllDigits-zeros, value_zeros}
use Rattle.bson_double.specs.DoubleText.{positional_notation, scientific_notation, double_exponent_text, decimal_text}

abbrev parts : List ℕ → Bool → List ℕ → Bool → List ℕ → Parts
parts whole point fraction negative exponent =
    record {
      whole = whole;
      point = point;
      fraction = fraction;
      exponent_negative = negative;
      exponent = exponent;
      len = length (whole ++ (cond point (46 ∷ fraction) [] ++ exponent_text negative exponent));
    }

-- the parts write digits * 10 ^ (power - 1100)
abbrev pub IsWorth : Parts → ℕ → ℕ → Type 0
IsWorth p d k = digits_of p * 10 ^ tens_up p * 10 ^ 1100 ≡ d * 10 ^ k * 10 ^ tens_down p

-- the text is that of plain parts, worth the decimal
abbrev pub IsTextOf : List ℕ → ℕ → ℕ → Type 0
IsTextOf s d k = (p : Parts) × (s ≡ text_of p) × IsPlain p × IsWorth p d k

tens : (a i j m n : ℕ) → i + j ≡ m + n → a * 10 ^ i * 10 ^ j ≡ a * 10 ^ m * 10 ^ n
tens a i j m n e = Rattle.fast_float.proofs.Extremes.tens_eq a i j m n e

with_point : (whole fraction : List ℕ) (d k : ℕ) → AllDigits 10 whole → AllDigits 10 fraction → 0 < length whole
    → (get_or whole 0 0 ≡ 48 → length whole ≡ 1) → 0 < length fraction
    → digits_value 10 (whole ++ fraction) * 10 ^ 0 * 10 ^ 1100 ≡ d * 10 ^ k * 10 ^ (length fraction + 0)
    → IsTextOf (whole ++ 46 ∷ fraction) d k
with_point whole fraction d k w f some first more same = (
  parts whole true fraction false [],
  ap (λ l. whole ++ 46 ∷ l) (sym (append-nil fraction)),
  record {
    well_formed = record {
      whole_digits = w;
      fraction_digits = f;
      exponent_digits = tt;
      no_point =
          λ e. absurd (true≢false e);
      no_exponent = λ _. refl;
      len_is = refl;
    };
    whole = some;
    no_leading_zero = first;
    fraction = λ _. more;
    marked = λ e. absurd (true≢false e);
  },
  same,
)

-- the digits of a number above zero
pub record IsDigits (d : ℕ) (s : List ℕ) : Type 0 where
  pub all : AllDigits 10 s
  pub some : 0 < length s
  pub first : get_or s 0 0 ≡ 48 → ⊥
  pub value : digits_value 10 s ≡ d

-- the point before the digits
before : (s : List ℕ) (d k : ℕ) → IsDigits d s → length s + k ≤ 1100
    → IsTextOf (48 ∷ 46 ∷ (replicate (1100 - (length s + k)) 48 ++ s)) d k
before s d k h l =
    let n : ℕ = 1100 - (length s + k) in
    let z : List ℕ = replicate n 48 in
    let long : length (z ++ s) ≡ n + length s = length-append z s ∙ ap (λ m. m + length s) (length-replicate n 48) in
    let value : digits_value 10 (48 ∷ (z ++ s)) ≡ d =
    digits_value-append z s
    ∙ (ap (λ v. v * 10 ^ length s + digits_value 10 s) (value_zeros n)
    ∙ (none (10 ^ length s) (digits_value 10 s) ∙ h.value)) in
    with_point (48 ∷ []) (z ++ s) d k (omega arith, tt) (AllDigits-append z s (AllDigits-zeros n) h.all) (omega arith)
    (λ _. refl)
    (let some = h.some in omega (arith, long))
    (ap (λ v. v * 10 ^ 0 * 10 ^ 1100) value ∙ tens d 0 1100 k (length (z ++ s) + 0) (omega (arith, long)))
  where
    none : (a b : ℕ) → 0 * a + b ≡ b
    none a b = omega arith

-- the point after them
after : (s : List ℕ) (d k : ℕ) → IsDigits d s → 1100 ≤ k
    → IsTextOf (s ++ (replicate (length s + k - 1100 - length s) 48 ++ 46 ∷ 48 ∷ [])) d k
after s d k h l =
    let n : ℕ = length s + k - 1100 - length s in
    let z : List ℕ = replicate n 48 in
    let long : length z ≡ n = length-replicate n 48 in
    let count : n ≡ k - 1100 = omega arith in
    let whole : digits_value 10 (s ++ z) ≡ d * 10 ^ n =
    digits_value-append s z
    ∙ (ap (λ v. digits_value 10 s * 10 ^ length z + v) (value_zeros n) ∙ (none (digits_value 10 s * 10 ^ length z)
    ∙ (ap (λ v. v * 10 ^ length z) h.value ∙ ap (λ m. d * 10 ^ m) long))) in
    let value : digits_value 10 ((s ++ z) ++ 48 ∷ []) ≡ d * 10 ^ n * 10 ^ 1 =
    digits_value-append (s ++ z) (48 ∷ []) ∙ (none (digits_value 10 (s ++ z) * 10 ^ 1) ∙ ap (λ v. v * 10 ^ 1) whole) in
    let total : length (s ++ z) ≡ length s + n = length-append s z ∙ ap (λ m. length s + m) long in
    let t = with_point (s ++ z) (48 ∷ []) d k (AllDigits-append s z h.all (AllDigits-zeros n)) (omega arith, tt)
    (let some = h.some in omega (arith, total)) (λ e. absurd (h.first (sym (front s z h.some) ∙ e))) (omega arith)
    (ap (λ v. v * 10 ^ 0 * 10 ^ 1100) value ∙ (regroup (d * 10 ^ n) ∙ tens d n 1101 k 1 (omega (arith, count)))) in
    subst (λ x. IsTextOf x d k) (append_assoc s z (46 ∷ 48 ∷ [])) t
  where
    none : (a : ℕ) → a + 0 ≡ a
    none a = omega arith

    front : (s z : List ℕ) → 0 < length s → get_or (s ++ z) 0 0 ≡ get_or s 0 0
    front [] z l = absurd (omega arith)
    front (x ∷ s) z l = refl

    regroup : (a : ℕ) → a * 10 ^ 1 * 10 ^ 0 * 10 ^ 1100 ≡ a * 10 ^ 1101
    regroup a = omega arith

-- the point between them
inside : (s : List ℕ) (d k w : ℕ) → IsDigits d s → 0 < w → w < length s → w + 1100 ≡ length s + k
    → IsTextOf (take w s ++ 46 ∷ drop w s) d k
inside s d k w h some l e =
    let front : length (take w s) ≡ w = length-take-le w s (omega arith) in
    let back : length (drop w s) ≡ length s - w = length-drop w s in
    with_point (take w s) (drop w s) d k (AllDigits-take w s h.all) (AllDigits-drop w s h.all) (omega (arith, front))
    (λ z. absurd (h.first (sym (first w s some h.some) ∙ z))) (omega (arith, back))
    (ap (λ v. v * 10 ^ 0 * 10 ^ 1100) (ap (digits_value 10) (take-append-drop w s) ∙ h.value)
    ∙ tens d 0 1100 k (length (drop w s) + 0) (omega (arith, back)))
  where
    first : (w : ℕ) (s : List ℕ) → 0 < w → 0 < length s → get_or (take w s) 0 0 ≡ get_or s 0 0
    first zero s l m = absurd (omega arith)
    first (suc w) [] l m = absurd (omega arith)
    first (suc w) (x ∷ s) l m = refl

-- ---- with an exponent

with_exponent : (whole fraction exponent : List ℕ) (point negative : Bool) (d k : ℕ) → AllDigits 10 whole
    → AllDigits 10 fraction → AllDigits 10 exponent
    → length whole ≡ 1 → (point ≡ true → 0 < length fraction) → (point ≡ false → fraction ≡ []) → 0 < length exponent
    → IsWorth (parts whole point fraction negative exponent) d k
    → IsTextOf (whole ++ (cond point (46 ∷ fraction) [] ++ exponent_text negative exponent)) d k
with_exponent whole fraction exponent point negative d k w f x one more none some worth = (
  parts whole point fraction negative exponent,
  refl,
  record {
    well_formed = record {
      whole_digits = w;
      fraction_digits = f;
      exponent_digits = x;
      no_point = none;
      no_exponent =
          λ e. absurd (empty exponent some e);
      len_is = refl;
    };
    whole = omega (arith, one);
    no_leading_zero = λ _. one;
    fraction = more;
    marked = λ _. some;
  },
  worth,
)
  where
    empty : (ds : List ℕ) → 0 < length ds → ds ≡ [] → ⊥
    empty ds l e = let m : length ds ≡ 0 = ap length e in absurd (omega arith)

-- the power of ten of the first digit
power_is : (point_position : ℕ) → point_position < 2 ^ 63
    → (negative : Bool) × (x : ℕ) × (x < 2 ^ 64) × (double_exponent_text point_position ≡ exponent_text negative (decimal x))
    × (((negative ≡ true) × (x + point_position ≡ 1101)) ⊎ ((negative ≡ false) × (x + 1101 ≡ point_position)))
power_is point_position small =
    elim (cases_lt point_position 1101) [
      | inl l ↦ (
        true,
        1101 - point_position,
        omega arith,
        rw (lt-ltb point_position 1101 l) (shown true (decimal (1101 - point_position)) (decimal_nonempty (1101 - point_position) (omega arith))),
        inl (refl, omega arith),
      )
      | inr l ↦ (
        false,
        point_position - 1101,
        omega arith,
        rw (le-ltb point_position 1101 l) (shown false (decimal (point_position - 1101)) (decimal_nonempty (point_position - 1101) (omega arith))),
        inr (refl, omega arith),
      )
    ]
  where
    shown : (b : Bool) (ds : List ℕ) → 0 < length ds → cond b (101 ∷ 45 ∷ ds) (101 ∷ ds) ≡ exponent_text b ds
    shown b [] l = absurd (omega arith)
    shown true (x ∷ ds) l = refl
    shown false (x ∷ ds) l = refl

scientific_at : (x : ℕ) (rest : List ℕ) (d k : ℕ) → IsDigits d (x ∷ rest) → length (x ∷ rest) + k < 2 ^ 63
    → (point : Bool) → (point ≡ true → 0 < length rest) → (point ≡ false → rest ≡ [])
    → IsTextOf ((x ∷ []) ++ (cond point (46 ∷ rest) [] ++ double_exponent_text (length (x ∷ rest) + k))) d k
scientific_at x rest d k h small point more none =
    let point_position : ℕ = length (x ∷ rest) + k in
    let e = power_is point_position small in
    let negative : Bool = e.0 in
    let y : ℕ = e.1 in
    let numeral = decimal_is_IsNumeral y e.2 in
    let worth : IsWorth (parts (x ∷ []) point rest negative (decimal y)) d k = elim e.4 [
      | inl n ↦ rw (n.0, numeral.1, h.value) (tens d 0 1100 k (length rest + y) (let s = n.1 in omega arith))
      | inr n ↦ rw (n.0, numeral.1, h.value) (tens d y 1100 k (length rest + 0) (let s = n.1 in omega arith))
    ] in
    subst (λ t. IsTextOf ((x ∷ []) ++ (cond point (46 ∷ rest) [] ++ t)) d k) (sym e.3)
    (with_exponent (x ∷ []) rest (decimal y) point negative d k
    (h.all.0, tt) h.all.1 numeral.0.1 refl more none numeral.0.0 worth)

scientific_is : (s : List ℕ) (d k : ℕ) → IsDigits d s → length s + k < 2 ^ 63
    → IsTextOf (scientific_notation s (length s + k)) d k
scientific_is [] d k h l = absurd (let some = h.some in omega arith)
scientific_is (x ∷ []) d k h l = scientific_at x [] d k h l false (λ e. absurd (true≢false (sym e))) (λ _. refl)
scientific_is (x ∷ y ∷ ys) d k h l =
    let two : eqb (length (x ∷ y ∷ ys)) 1 ≡ false = ne_eqb _ _ (λ e. omega arith) in
    rw two (scientific_at x (y ∷ ys) d k h l true (λ _. omega arith) (λ e. absurd (true≢false e)))

pointed_is : (s : List ℕ) (d k : ℕ) → IsDigits d s → IsTextOf (positional_notation s (length s + k)) d k
pointed_is s d k h =
    elim (cases_lt 1100 (length s + k)) [
      | inl l ↦ elim (cases_lt k 1100) [
        | inl b ↦ rw (lt-leb (length s + k) 1100 l, lt-leb (length s) (length s + k - 1100) (omega arith))
            (inside s d k (length s + k - 1100) h (omega arith) (omega arith) (omega arith))
        | inr a ↦ rw (lt-leb (length s + k) 1100 l, le-leb (length s) (length s + k - 1100) (omega arith))
            (after s d k h a)
      ]
      | inr l ↦ rw (le-leb (length s + k) 1100 l) (before s d k h l)
    ]

laid_is : (s : List ℕ) (d k : ℕ) (b : Bool) → IsDigits d s → length s + k < 2 ^ 63
    → IsTextOf (cond b (positional_notation s (length s + k)) (scientific_notation s (length s + k))) d k
laid_is s d k true h l = pointed_is s d k h
laid_is s d k false h l = scientific_is s d k h l

pub digits_of_decimal : (d : ℕ) → 0 < d → d < 2 ^ 64 → IsDigits d (decimal d)
digits_of_decimal d some small =
    let n = decimal_is_IsNumeral d small in
    record {
      all = n.0.1;
      some = n.0.0;
      first = λ e. (let f = first_decimal d some small in absurd (omega arith));
      value = n.1;
    }

pub decimal_text_is : (d k : ℕ) → 0 < d → d < 2 ^ 64 → length (decimal d) + k < 2 ^ 63 → IsTextOf (decimal_text d k) d k
decimal_text_is d k some small l = laid_is (decimal d) d k _ (digits_of_decimal d some small) l

-- 0.0
pub zero_is : (k : ℕ) → IsTextOf (codes "0.0") 0 k
zero_is k = with_point (48 ∷ []) (48 ∷ []) 0 k (omega arith, tt) (omega arith, tt) (omega arith) (λ _. refl)
    (omega arith) (nothing (10 ^ k))
  where
    nothing : (a : ℕ) → 0 * 10 ^ 0 * 10 ^ 1100 ≡ 0 * a * 10 ^ (1 + 0)
    nothing a = omega arith
