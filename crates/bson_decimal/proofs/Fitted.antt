-- The pair that the steps give is the nearest one.
use Rattle.std.proofs.Common.{◌≡◌, ◌≢◌, ℕ, ◌+◌, ◌-◌, ◌*◌, ◌^◌, ◌<◌, ◌≤◌, inl, inr, Bool, true, false, not, ltb, List}
use Rattle.std.proofs.Common.{[], ◌∷◌, ◌++◌, length, replicate, get_or, min, refl, sym, ap, ◌∙◌, subst, rules, tests}
use Rattle.std.proofs.Common.{arith, length-append, length-drop}
use Rattle.std.specs.Prelude.{Result, Ok, Err, MatchResult}
use Rattle.std.proofs.lemmas.Bool.{cases_lt, ltb-true}
use Rattle.std.proofs.lemmas.List.{length-replicate, get_or-drop}
use Rattle.std.proofs.lemmas.List.Sums.{prefix_len_stops}
use Rattle.std.proofs.lemmas.Nat.{pow-add}
use Rattle.std.proofs.lemmas.Int.Digits.{digits_value-lt}
use Rattle.std.proofs.Math.Nat.{mul-lt-mul_of_pos_right}
use Rattle.std.specs.List.{prefix_len}
use Rattle.std.specs.Str.{all_ascii_digits}
use Rattle.std.specs.Str.Parse.{AllDigits, digits_value}
use Rattle.bson_decimal.specs.declared.ParseError.{ParseError}
use Rattle.bson_decimal.proofs.Shifted.{FitsShifted, IsNearestShifted, distance_shifted}
use Rattle.bson_decimal.specs.NumeralGrammar.{is_zero, without_leading_zeros}
use Rattle.bson_decimal.specs.ParseSteps.{min_exponent_plus_32768, max_exponent_plus_32768, i16_max_plus_32768, cut_to_34_digits, raise_to_min_exponent, zeros_to_add}
use Rattle.bson_decimal.specs.ParseSteps.{coefficient, coefficient_and_exponent, DigitsWithExponent, bind}
use Rattle.bson_decimal.proofs.Tens.{tens-pos, tens-le, raised}
use Rattle.bson_decimal.proofs.DigitTests.{AllDigits-from_test, test-from_AllDigits, scaled-lt}
use Rattle.bson_decimal.proofs.Zeros.{value-behind, value-before, leading-zeros, first-weight, AllDigits-parts}
use Rattle.bson_decimal.proofs.Zeros.{AllDigits-append, AllDigits-zeros}
use Rattle.bson_decimal.proofs.NearestLaws.{nearest-dropped, nearest-same, nearest-lowest, nearest-highest}
use Rattle.bson_decimal.proofs.StepLaws.{if-cases, IsLarge, NoneFitsAt, IsCut, CutRefuses, IsRaised, Refuses, IsPadded}
use Rattle.bson_decimal.proofs.StepLaws.{cut_at_34-cases, raise_to_min_exponent-cases, zeros_to_add-cases, not-true, not-false}

pub bind-cases : {A B : Type 0} (P : B → Type 0) (Q : ParseError → Type 0) (r : Result A ParseError)
    (f : A → Result B ParseError)
    → MatchResult r (λ a. MatchResult (f a) P Q) Q → MatchResult (bind r f) P Q
bind-cases P Q (Ok a) f h = h
bind-cases P Q (Err e) f h = h

-- the same where the first part has facts of its own
pub bind-by : {A B : Type 0} (P : B → Type 0) (Q : ParseError → Type 0) (R : A → Type 0) (S : ParseError → Type 0)
    (r : Result A ParseError) (f : A → Result B ParseError)
    → MatchResult r R S → ((a : A) → R a → MatchResult (f a) P Q) → ((e : ParseError) → S e → Q e)
    → MatchResult (bind r f) P Q
bind-by P Q R S (Ok a) f h g k = g a h
bind-by P Q R S (Err e) f h g k = k e h

-- zeros after the digits move the exponent
pub fits-moved : (xs ds : List ℕ) (k up down c e : ℕ) → ds ≡ xs ++ replicate k 48
    → FitsShifted (digits_value 10 ds) up down c e → FitsShifted (digits_value 10 xs) (up + k) down c e
fits-moved xs ds k up down c e is f =
    record {
      equal = (let e2 : up + k + 6176 ≡ up + 6176 + k = omega arith in
          rw e2 (f.equal ∙ sym
          (raised (digits_value 10 xs) k (digits_value 10 ds) (up + 6176)
          (ap (digits_value 10) is ∙ value-behind xs k))));
      coefficient = f.coefficient;
      exponent = f.exponent;
    }

pub digits-kept : (xs ds : List ℕ) (k : ℕ) → ds ≡ xs ++ replicate k 48 → AllDigits 10 ds → AllDigits 10 xs
digits-kept xs ds k is h = (AllDigits-parts xs (replicate k 48) (rw is at h)).0

large-kept : (xs ds : List ℕ) (k : ℕ) → ds ≡ xs ++ replicate k 48 → IsLarge ds → IsLarge xs
large-kept xs ds k is h some =
    let long : length ds ≡ length xs + k = ap length is ∙ length-append xs (replicate k 48)
    ∙ rw (length-replicate {A = ℕ} k 48) refl in
    let value : digits_value 10 ds ≡ digits_value 10 xs * 10 ^ k = ap (digits_value 10) is ∙ value-behind xs k in
    let size : length ds - 1 ≡ length xs - 1 + k = omega arith in
    let integer_digits = rw (value, size, pow-add 10 (length xs - 1) k) at (h (omega arith)) in
    elim (cases_lt (digits_value 10 xs) (10 ^ (length xs - 1))) [
      | inl l ↦ absurd (omega (arith, mul-lt-mul_of_pos_right l (tens-pos k)))
      | inr g ↦ g
    ]

-- the pair of zero
nearest-zero : (up down e : ℕ) → e < 12288
    → ((f : ℕ) → f < 12288 → distance_shifted up down e ≤ distance_shifted up down f) → IsNearestShifted 0 up down 0 e
nearest-zero up down e within least =
    record {
      fits = record { equal = omega arith; coefficient = omega arith; exponent = within };
      least = λ d f g. least f g.exponent;
    }

-- the first digit is no zero
large-front : (ds : List ℕ) → AllDigits 10 ds → (0 < length ds → is_zero (get_or ds 0 0) ≡ false) → IsLarge ds
large-front [] h first some = absurd (omega arith)
large-front (x ∷ xs) h first some =
    let e : length (x ∷ xs) - 1 ≡ length xs = omega arith in
    let other : x ≢ 48 = λ z. search (rules, tests, first (omega arith)) in
    rw e (first-weight x xs h other)

abbrev pub IsCoefficient : List ℕ → ℕ → Bool → ℕ → Type 0
IsCoefficient ds z has_digit c = AllDigits 10 ds × (has_digit ≡ true) × (c ≡ digits_value 10 ds * 10 ^ z)

coefficient-cases : (ds : List ℕ) (z : ℕ) (has_digit : Bool)
    → MatchResult (coefficient ds z has_digit) (IsCoefficient ds z has_digit)
    (λ _. AllDigits 10 ds → has_digit ≡ true → ⊥)
unfolding coefficient
coefficient-cases ds z false = λ digits has. cc
coefficient-cases ds z true =
    if-cases (IsCoefficient ds z true) (λ _. AllDigits 10 ds → true ≡ true → ⊥) (not (all_ascii_digits ds)) _ _
    (λ e digits has. let t = test-from_AllDigits ds digits in let f = not-true (all_ascii_digits ds) e in cc)
    (λ e. (AllDigits-from_test ds (not-false (all_ascii_digits ds) e), refl, refl))

-- the three cases of the last step
module _ (ds ks : List ℕ) (k y up down : ℕ) (at : y + down ≡ up + k + 32768) (k-is : k ≡ length ds - 34)
    (is : ds ≡ ks ++ replicate k 48) (digits : AllDigits 10 ds) (large : IsLarge ds) where
  size : length ds ≡ length ks + k
  size = ap length is ∙ length-append ks (replicate k 48) ∙ rw (length-replicate {A = ℕ} k 48) refl

  value : digits_value 10 ds ≡ digits_value 10 ks * 10 ^ k
  value = ap (digits_value 10) is ∙ value-behind ks k

  kept-digits : AllDigits 10 ks
  kept-digits = digits-kept ks ds k is digits

  small : digits_value 10 ks < 10 ^ 34
  small = omega (arith, size, digits_value-lt 10 ks kept-digits, tens-le (length ks) 34 (omega (arith, size)))

  -- the exponent is in range
  final-same : min_exponent_plus_32768 ≤ y → y ≤ max_exponent_plus_32768
      → IsNearestShifted (digits_value 10 ds) up down (digits_value 10 ks * 10 ^ 0) (min y max_exponent_plus_32768 - min_exponent_plus_32768)
  final-same low high =
      let c-is : digits_value 10 ks * 10 ^ 0 ≡ digits_value 10 ks = omega arith in
      let e-is : min y max_exponent_plus_32768 - min_exponent_plus_32768 ≡ y - min_exponent_plus_32768 = omega arith in
      rw (c-is, e-is)
      (elim (cases_lt 0 k) [
        | inl some ↦
            let weight : length ds - 1 ≡ 33 + k = omega arith in
            nearest-dropped (digits_value 10 ds) up down (digits_value 10 ks) (y - min_exponent_plus_32768) k value small
            (rw weight at (large (omega arith))) (omega arith) (omega arith)
        | inr none ↦
            let zero-k : k ≡ 0 = omega arith in
            let integer_digits : digits_value 10 ds ≡ digits_value 10 ks = value ∙ rw zero-k (omega arith) in
            rw integer_digits (nearest-same (digits_value 10 ks) up down (y - min_exponent_plus_32768) small (omega arith) (omega arith))
      ])

  -- zeros were added
  final-padded : (z : ℕ) → max_exponent_plus_32768 < y → z ≡ y - max_exponent_plus_32768 → length ks + z ≤ 34
      → IsNearestShifted (digits_value 10 ds) up down (digits_value 10 ks * 10 ^ z) (min y max_exponent_plus_32768 - min_exponent_plus_32768)
  final-padded z high z-is fits =
      let long = size in
      let zero-k : k ≡ 0 = omega arith in
      let integer_digits : digits_value 10 ds ≡ digits_value 10 ks = value ∙ rw zero-k (omega arith) in
      let e-is : min y max_exponent_plus_32768 - min_exponent_plus_32768 ≡ 12287 = omega arith in
      rw (integer_digits, e-is) (nearest-highest (digits_value 10 ks) up down z (scaled-lt ks z kept-digits fits) (omega arith))

  -- zeros were dropped
  final-raised : (qs : List ℕ) → y < min_exponent_plus_32768 → ks ≡ qs ++ replicate (min_exponent_plus_32768 - y) 48
      → IsNearestShifted (digits_value 10 ds) up down (digits_value 10 qs * 10 ^ 0) 0
  final-raised qs low to =
      let inner : digits_value 10 ks ≡ digits_value 10 qs * 10 ^ (min_exponent_plus_32768 - y) = ap (digits_value 10) to
      ∙ value-behind qs (min_exponent_plus_32768 - y) in
      let j = min_exponent_plus_32768 - y + k in
      let integer_digits : digits_value 10 ds ≡ digits_value 10 qs * 10 ^ j =
      rw (value, inner, pow-add 10 (min_exponent_plus_32768 - y) k) (omega arith) in
      let shorter : length ks ≡ length qs + (min_exponent_plus_32768 - y) = ap length to
      ∙ length-append qs (replicate (min_exponent_plus_32768 - y) 48)
      ∙ rw (length-replicate {A = ℕ} (min_exponent_plus_32768 - y) 48) refl in
      let few = digits_value-lt 10 qs (digits-kept qs ks (min_exponent_plus_32768 - y) to kept-digits) in
      let below : digits_value 10 qs < 10 ^ 34 = omega (arith, size, tens-le (length qs) 34 (omega (arith, size))) in
      let c-is : digits_value 10 qs * 10 ^ 0 ≡ digits_value 10 qs = omega arith in
      rw c-is (nearest-lowest (digits_value 10 ds) up down (digits_value 10 qs) j integer_digits below (omega arith))

  -- zero
  final-zero : (e : ℕ) → ks ≡ [] → e < 12288
      → ((f : ℕ) → f < 12288 → distance_shifted up down e ≤ distance_shifted up down f)
      → IsNearestShifted (digits_value 10 ds) up down 0 e
  final-zero e none within least =
      let nothing : digits_value 10 ds ≡ 0 = value ∙ rw none (omega arith) in
      rw nothing (nearest-zero up down e within least)

-- what a raise keeps
raised-digits : (ks : List ℕ) (y : ℕ) (b : DigitsWithExponent) → IsRaised ks y b → AllDigits 10 ks → AllDigits 10 b.0
raised-digits ks y b rai h =
    elim (cases_lt y min_exponent_plus_32768) [
      | inr kept ↦ rw (rai.kept kept).0 h
      | inl low ↦ elim ((rai.raised low).1) [
        | inl none ↦ rw none.1 tt
        | inr is ↦ digits-kept b.0 ks (min_exponent_plus_32768 - y) is h
      ]
    ]

raised-digits-back : (ks : List ℕ) (y : ℕ) (b : DigitsWithExponent) → IsRaised ks y b → AllDigits 10 b.0 → AllDigits 10 ks
raised-digits-back ks y b rai h =
    elim (cases_lt y min_exponent_plus_32768) [
      | inr kept ↦ rw (rai.kept kept).0 at h
      | inl low ↦ elim ((rai.raised low).1) [
        | inl none ↦ rw none.0 tt
        | inr is ↦ rw is (AllDigits-append b.0 (replicate (min_exponent_plus_32768 - y) 48) h (AllDigits-zeros _))
      ]
    ]

-- if nothing fits after a raise, nothing fits before it
raised-refuses : (ks : List ℕ) (y : ℕ) (b : DigitsWithExponent) (e : ParseError) → IsRaised ks y b → Refuses b.0 b.1 e
    → Refuses ks y e
raised-refuses ks y b e rai refuse digits large up down at c f fits =
    elim (cases_lt y min_exponent_plus_32768) [
      | inr kept ↦
          let r = rai.kept kept in
          refuse (rw r.0 digits) (rw r.0 large) up down (rw r.1 at) c f (rw r.0 fits)
      | inl low ↦
          let r = rai.raised low in
          elim (r.1) [
            | inl none ↦ refuse (rw none.1 tt) (rw none.1 (λ some. absurd (omega arith))) 0 6176 (rw r.0 refl) 0 0
                (rw none.1 (record { equal = refl; coefficient = omega arith; exponent = omega arith }))
            | inr is ↦
                refuse (digits-kept b.0 ks (min_exponent_plus_32768 - y) is digits) (large-kept b.0 ks (min_exponent_plus_32768 - y) is large)
                (up + (min_exponent_plus_32768 - y)) down (rw r.0 (omega arith)) c f
                (fits-moved b.0 ks (min_exponent_plus_32768 - y) up down c f is fits)
          ]
    ]

-- the pair that the steps give
nearest-given : (ds ks : List ℕ) (k y up down : ℕ) (b : DigitsWithExponent) (z : ℕ) → y + down ≡ up + k + 32768 → k ≡ length ds - 34
    → ds ≡ ks ++ replicate k 48 → AllDigits 10 ds → IsLarge ds
    → IsRaised ks y b → IsPadded b.0 b.1 z
    → IsNearestShifted (digits_value 10 ds) up down (digits_value 10 b.0 * 10 ^ z)
    (min b.1 max_exponent_plus_32768 - min_exponent_plus_32768)
nearest-given ds ks k y up down b z at k-is is digits large rai pad =
    let long : length ds ≡ length ks + k = ap length is ∙ length-append ks (replicate k 48)
    ∙ rw (length-replicate {A = ℕ} k 48) refl in
    let empty-k : ks ≡ [] → k ≡ 0 = λ none. omega (arith, ap length none) in
    elim (cases_lt y min_exponent_plus_32768) [
      | inr kept ↦
          let r = rai.kept kept in
          elim (cases_lt max_exponent_plus_32768 y) [
            | inr same ↦ let none : z ≡ 0 = pad.same (rw r.1 same) in
                rw (none, r.0, r.1) (final-same ds ks k y up down at k-is is digits large kept same)
            | inl high ↦
                elim (pad.padded (rw r.1 high)) [
                  | inl none ↦
                      let empty : ks ≡ [] = sym r.0 ∙ none.0 in
                      let zero-k = empty-k empty in
                      let e-is : min y max_exponent_plus_32768 - min_exponent_plus_32768 ≡ 12287 = omega arith in
                      rw (none.0, none.1, r.1, e-is)
                      (final-zero ds ks k y up down at k-is is digits large 12287 empty (omega arith)
                      (λ f within. omega arith))
                  | inr more ↦
                      let z-is : z ≡ y - max_exponent_plus_32768 = rw r.1 at more.0 in
                      let fits : length ks + z ≤ 34 = rw r.0 at more.1 in
                      rw (r.0, r.1) (final-padded ds ks k y up down at k-is is digits large z high z-is fits)
                ]
          ]
      | inl low ↦
          let r = rai.raised low in
          let none : z ≡ 0 = pad.same (rw r.0 (omega arith)) in
          elim (r.1) [
            | inl empty ↦
                let zero-k = empty-k empty.0 in
                rw (empty.1, none, r.0) (final-zero ds ks k y up down at k-is is digits large 0 empty.0 (omega arith)
                (λ f within. omega arith))
            | inr to ↦ rw (none, r.0) (final-raised ds ks k y up down at k-is is digits large b.0 low to)
          ]
    ]

module _ (bs : List ℕ) (x : ℕ) where
  -- the digits are read, and the pair is the nearest one
  pub record IsFitted (r : ℕ × ℕ) : Type 0 where
    pub digits : AllDigits 10 bs
    pub some : 0 < length bs
    pub few : length (without_leading_zeros bs) - 34 ≤ 32767
    pub high : x + (length (without_leading_zeros bs) - 34) ≤ i16_max_plus_32768
    pub nearest : (up down : ℕ) → x + down ≡ up + 32768 → IsNearestShifted (digits_value 10 bs) up down r.0 r.1

  abbrev pub FittedRefuses : ParseError → Type 0
  FittedRefuses k = AllDigits 10 bs → 0 < length bs → length (without_leading_zeros bs) - 34 ≤ 32767
      → x + (length (without_leading_zeros bs) - 34) ≤ i16_max_plus_32768 → NoneFitsAt bs x

  front-value : digits_value 10 bs ≡ digits_value 10 (without_leading_zeros bs)
  front-value = ap (digits_value 10) (leading-zeros bs)
      ∙ value-before (prefix_len is_zero bs) (without_leading_zeros bs)

  front-digits : AllDigits 10 bs → AllDigits 10 (without_leading_zeros bs)
  front-digits h = (AllDigits-parts (replicate (prefix_len is_zero bs) 48) (without_leading_zeros bs)
      (rw (← leading-zeros bs) h)).1

  bs-digits : AllDigits 10 (without_leading_zeros bs) → AllDigits 10 bs
  bs-digits h = rw (leading-zeros bs)
      (AllDigits-append (replicate (prefix_len is_zero bs) 48) (without_leading_zeros bs) (AllDigits-zeros _) h)

  front-large : AllDigits 10 bs → IsLarge (without_leading_zeros bs)
  front-large h = large-front (without_leading_zeros bs) (front-digits h)
      (λ some. let e : get_or (without_leading_zeros bs) 0 0 ≡ get_or bs (prefix_len is_zero bs) 0 =
      get_or-drop (prefix_len is_zero bs) bs 0 0 ∙ ap (λ i. get_or bs i 0) (omega arith) in
      rw e (prefix_len_stops is_zero bs 0 (omega (arith, length-drop (prefix_len is_zero bs) bs))))

  -- a later step's refusal
  cut-refuses : (a : DigitsWithExponent) → IsCut (without_leading_zeros bs) x a → (e : ParseError) → Refuses a.0 a.1 e
      → AllDigits 10 bs → NoneFitsAt bs x
  cut-refuses a cut e refuse digits up down at c f fits =
      let ds = without_leading_zeros bs in
      let k = length ds - 34 in
      let p = cut.power in
      refuse (digits-kept a.0 ds k cut.is (front-digits digits)) (large-kept a.0 ds k cut.is (front-large digits))
      (up + k) down (omega arith) c f
      (fits-moved a.0 ds k up down c f cut.is (subst (λ m. FitsShifted m up down c f) front-value fits))

  pub stored_pair-cases : x ≤ i16_max_plus_32768 → MatchResult (coefficient_and_exponent bs x) IsFitted FittedRefuses
  unfolding coefficient_and_exponent
  stored_pair-cases low =
      let ds = without_leading_zeros bs in
      let k = length ds - 34 in
      bind-by IsFitted FittedRefuses (IsCut ds x) (CutRefuses ds x) (cut_to_34_digits ds x) _ (cut_at_34-cases ds x low)
      (λ a cut.
      bind-by IsFitted FittedRefuses (IsRaised a.0 a.1) (Refuses a.0 a.1) (raise_to_min_exponent a.0 a.1) _
      (raise_to_min_exponent-cases a.0 a.1)
      (λ b rai.
      bind-by IsFitted FittedRefuses (IsPadded b.0 b.1) (Refuses b.0 b.1) (zeros_to_add b.0 b.1) _
      (zeros_to_add-cases b.0 b.1)
      (λ z pad.
      bind-by IsFitted FittedRefuses (IsCoefficient b.0 z (ltb 0 (length bs)))
      (λ _. AllDigits 10 b.0 → ltb 0 (length bs) ≡ true → ⊥) (coefficient b.0 z (ltb 0 (length bs))) _
      (coefficient-cases b.0 z (ltb 0 (length bs)))
      (λ c is.
      let digits = bs-digits (rw cut.is
      (AllDigits-append a.0 (replicate k 48) (raised-digits-back a.0 a.1 b rai is.0) (AllDigits-zeros k))) in
      let p = cut.power in
      record {
        digits = digits;
        some = ltb-true 0 (length bs) is.1;
        few = cut.few;
        high = (let h = cut.high in omega arith);
        nearest = λ up down at. rw (front-value, is.2)
            (nearest-given ds a.0 k a.1 up down b z (omega arith) refl cut.is (front-digits digits)
            (front-large digits) rai pad);
      })
      (λ e refuse digits some few high up down at c f fits. refuse
      (raised-digits a.0 a.1 b rai (digits-kept a.0 ds k cut.is (front-digits digits)))
      (search (rules, tests, some))))
      (λ e refuse digits some few high. cut-refuses a cut e (raised-refuses a.0 a.1 b e rai refuse) digits))
      (λ e refuse digits some few high. cut-refuses a cut e refuse digits))
      (λ e refuse digits some few high up down at c f fits. refuse (front-digits digits)
      (front-large digits) few high up down at c f (subst (λ m. FitsShifted m up down c f) front-value fits))
