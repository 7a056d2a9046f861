-- What each step of a parse gives, and why it refuses.
use Rattle.std.proofs.Common.{◌≡◌, ℕ, ◌+◌, ◌-◌, ◌*◌, ◌%◌, ◌^◌, ◌<◌, ◌≤◌, ◌⊎◌, inl, inr, Bool, true, false, cond, not}
use Rattle.std.proofs.Common.{eqb, ltb, leb, List, [], ◌++◌, length, take, drop, replicate, get_or, refl, sym, ap, ◌∙◌}
use Rattle.std.proofs.Common.{arith, length-drop}
use Rattle.std.specs.Prelude.{Result, MatchResult}
use Rattle.std.proofs.lemmas.Bool.{and_parts, eqb-true, leb-true, leb-false, ltb-true, ltb-false}
use Rattle.std.proofs.lemmas.Bool.Decides.{nat_tests}
use Rattle.std.proofs.lemmas.List.{take-append-drop, nil_from_length, append-nil}
use Rattle.std.proofs.lemmas.Nat.{mod-mul-add}
use Rattle.std.proofs.lemmas.Int.Digits.{digits_value-lt}
use Rattle.std.proofs.lemmas.Str.Parse.{digit_at}
use Rattle.std.proofs.Math.Nat.{mod-eq_of_lt}
use Rattle.std.specs.List.{list_all, slice_index}
use Rattle.std.specs.Str.Parse.{AllDigits, digits_value}
use Rattle.bson_decimal.specs.declared.ParseError.{ParseError}
use Rattle.bson_decimal.proofs.Shifted.{FitsShifted}
use Rattle.bson_decimal.specs.NumeralGrammar.{is_zero}
use Rattle.bson_decimal.specs.ParseSteps.{min_exponent_plus_32768, max_exponent_plus_32768, i16_max_plus_32768, is_utf8_continuation, cut_to_34_digits, raise_to_min_exponent}
use Rattle.bson_decimal.specs.ParseSteps.{zeros_to_add, DigitsWithExponent}
use Rattle.bson_decimal.proofs.Tens.{tens-pos, tens-le, reach}
use Rattle.bson_decimal.proofs.Zeros.{value-append, zeros-are, zeros-not, AllDigits-parts}
use Rattle.bson_decimal.proofs.NearestLaws.{fits-above, fits-exact}

pub if-cases : {A E : Type 0} (P : A → Type 0) (Q : E → Type 0) (b : Bool) (r s : Result A E)
    → (b ≡ true → MatchResult r P Q) → (b ≡ false → MatchResult s P Q) → MatchResult (cond b r s) P Q
if-cases P Q true r s f g = f refl
if-cases P Q false r s f g = g refl

pub not-true : (b : Bool) → not b ≡ true → b ≡ false
not-true true e = sym e
not-true false e = refl

pub not-false : (b : Bool) → not b ≡ false → b ≡ true
not-false true e = refl
not-false false e = sym e

-- a number of so many digits
abbrev pub IsLarge : List ℕ → Type 0
IsLarge ds = 0 < length ds → 10 ^ (length ds - 1) ≤ digits_value 10 ds

-- nothing fits
abbrev pub NoneFits : List ℕ → ℕ → ℕ → Type 0
NoneFits ds up down = (c e : ℕ) → FitsShifted (digits_value 10 ds) up down c e → ⊥

inside-no-digit : (ds : List ℕ) (i : ℕ) → AllDigits 10 ds → i < length ds → is_utf8_continuation (get_or ds i 0) ≡ true → ⊥
inside-no-digit ds i digits within e =
    let r = digit_at ds i digits within in
    let low = leb-true 128 (get_or ds i 0) (and_parts (leb 128 (get_or ds i 0)) _ e).0 in
    let high = r.1 in
    omega arith

-- the last digits are no zeros, and so the number is no multiple
no-multiple : (ds : List ℕ) (n : ℕ) → AllDigits 10 ds → list_all is_zero (drop n ds) ≡ false
    → digits_value 10 ds % 10 ^ (length ds - n) ≡ 0 → ⊥
no-multiple ds n digits other e =
    let joined = take-append-drop n ds in
    let behind = (AllDigits-parts (take n ds) (drop n ds) (rw joined digits)).1 in
    let some = zeros-not (drop n ds) behind other in
    let parts : digits_value 10 ds ≡ digits_value 10 (take n ds) * 10 ^ (length ds - n) + digits_value 10 (drop n ds) =
    ap (digits_value 10) (sym joined)
    ∙ rw (value-append, length-drop) refl in
    let below : digits_value 10 (drop n ds) < 10 ^ (length ds - n) =
    rw (← length-drop n ds) (digits_value-lt 10 (drop n ds) behind) in
    omega (
      arith,
      rw parts at e,
      mod-mul-add (digits_value 10 (take n ds)) (10 ^ (length ds - n)) (digits_value 10 (drop n ds)) below,
    )

zeros-dropped : (ds : List ℕ) (n : ℕ) → list_all is_zero (drop n ds) ≡ true
    → ds ≡ take n ds ++ replicate (length ds - n) 48
zeros-dropped ds n e = sym (take-append-drop n ds)
    ∙ ap (λ ys. take n ds ++ ys) (zeros-are (drop n ds) e ∙ ap (λ k. replicate k 48) (length-drop n ds))

-- nothing fits, whatever exponent up - down x denotes
abbrev pub NoneFitsAt : List ℕ → ℕ → Type 0
NoneFitsAt ds x = (up down : ℕ) → x + down ≡ up + 32768 → NoneFits ds up down

module _ (ds : List ℕ) (x : ℕ) where
  -- a cut at 34
  pub record IsCut (r : DigitsWithExponent) : Type 0 where
    pub is : ds ≡ r.0 ++ replicate (length ds - 34) 48
    pub power : r.1 ≡ x + (length ds - 34)
    pub few : length ds - 34 ≤ 32767
    pub high : r.1 ≤ i16_max_plus_32768

  abbrev pub CutRefuses : ParseError → Type 0
  CutRefuses k = AllDigits 10 ds → IsLarge ds → length ds - 34 ≤ 32767 → x + (length ds - 34) ≤ i16_max_plus_32768
      → NoneFitsAt ds x

  pub cut_at_34-cases : x ≤ i16_max_plus_32768 → MatchResult (cut_to_34_digits ds x) IsCut CutRefuses
  unfolding cut_to_34_digits
  cut_at_34-cases low =
      if-cases IsCut CutRefuses (leb (length ds) 34) _ _
      (λ e. let short = leb-true (length ds) 34 e in
      let none : length ds - 34 ≡ 0 = omega arith in
      record { is = rw none (sym (append-nil ds)); power = omega arith; few = omega arith; high = low })
      (λ e. if-cases IsCut CutRefuses (is_utf8_continuation (slice_index ds 34)) _ _
      (λ e2 digits large few high up down at c f fits. inside-no-digit ds 34 digits (leb-false (length ds) 34 e) e2)
      (λ e2. if-cases IsCut CutRefuses (not (list_all is_zero (drop 34 ds))) _ _
      (λ e3 digits large few high up down at c f fits.
      let long = leb-false (length ds) 34 e in
      let size : length ds - 1 ≡ 33 + (length ds - 34) = omega arith in
      let from = rw size at (large (omega arith)) in
      let above = fits-above _ up down c f (length ds - 34) from fits in
      no-multiple ds 34 digits (not-true _ e3) (fits-exact _ up down c f (length ds - 34) above fits))
      (λ e3. if-cases IsCut CutRefuses (ltb 32767 (length ds - 34)) _ _
      (λ e4 digits large few high up down at c f fits. omega (arith, ltb-true 32767 (length ds - 34) e4))
      (λ e4. if-cases IsCut CutRefuses (ltb i16_max_plus_32768 (x + (length ds - 34))) _ _
      (λ e5 digits large few high up down at c f fits. omega (arith, ltb-true i16_max_plus_32768 (x + (length ds - 34)) e5))
      (λ e5. record {
        is = zeros-dropped ds 34 (not-false _ e3);
        power = refl;
        few = omega (arith, ltb-false 32767 (length ds - 34) e4);
        high = omega (arith, ltb-false i16_max_plus_32768 (x + (length ds - 34)) e5);
      })))))

  -- zeros dropped down to the least exponent
  pub record IsRaised (r : DigitsWithExponent) : Type 0 where
    pub kept : min_exponent_plus_32768 ≤ x → (r.0 ≡ ds) × (r.1 ≡ x)
    pub raised : x < min_exponent_plus_32768
        → (r.1 ≡ min_exponent_plus_32768) × (((ds ≡ []) × (r.0 ≡ [])) ⊎ (ds ≡ r.0 ++ replicate (min_exponent_plus_32768 - x) 48))

  abbrev pub Refuses : ParseError → Type 0
  Refuses k = AllDigits 10 ds → IsLarge ds → NoneFitsAt ds x

  -- where j digits would have to go, the number is a multiple of 10 ^ j
  divides : (up down c e j : ℕ) → x + down ≡ up + 32768 → FitsShifted (digits_value 10 ds) up down c e
      → x + j ≡ min_exponent_plus_32768 → digits_value 10 ds % 10 ^ j ≡ 0
  divides up down c e j at fits to = fits-exact (digits_value 10 ds) up down c e j (omega arith) fits

  pub raise_to_min_exponent-cases : MatchResult (raise_to_min_exponent ds x) IsRaised Refuses
  unfolding raise_to_min_exponent
  raise_to_min_exponent-cases =
      if-cases IsRaised Refuses (leb min_exponent_plus_32768 x) _ _
      (λ e. let low = leb-true min_exponent_plus_32768 x e in
      record { kept = λ _. (refl, refl); raised = λ h. absurd (omega arith) })
      (λ e. let low = leb-false min_exponent_plus_32768 x e in
      if-cases IsRaised Refuses (eqb (length ds) 0) _ _
      (λ e2. let none = nil_from_length ds (eqb-true (length ds) 0 e2) in
      record { kept = λ h. absurd (omega arith); raised = λ _. (refl, inl (none, none)) })
      (λ e2. if-cases IsRaised Refuses (ltb (length ds) (min_exponent_plus_32768 - x)) _ _
      (λ e3 digits large up down at c f fits.
      let some : 0 < length ds = grind (arith, nat_tests) in
      let long = ltb-true (length ds) (min_exponent_plus_32768 - x) e3 in
      let integer_digits = divides up down c f (min_exponent_plus_32768 - x) at fits (omega arith) in
      let below = digits_value-lt 10 ds digits in
      let wide = tens-le (length ds) (min_exponent_plus_32768 - x) (omega arith) in
      let small : digits_value 10 ds < 10 ^ (min_exponent_plus_32768 - x) = omega arith in
      omega (arith, mod-eq_of_lt small, large some, tens-pos (length ds - 1)))
      (λ e3. let within = ltb-false (length ds) (min_exponent_plus_32768 - x) e3 in
      if-cases IsRaised Refuses (is_utf8_continuation (slice_index ds (length ds - (min_exponent_plus_32768 - x)))) _ _
      (λ e4 digits large up down at c f fits. inside-no-digit ds (length ds - (min_exponent_plus_32768 - x)) digits
      (omega arith) e4)
      (λ e4. let size : length ds - (length ds - (min_exponent_plus_32768 - x)) ≡ min_exponent_plus_32768 - x = omega arith in
      if-cases IsRaised Refuses (not (list_all is_zero (drop (length ds - (min_exponent_plus_32768 - x)) ds))) _ _
      (λ e5 digits large up down at c f fits. no-multiple ds (length ds - (min_exponent_plus_32768 - x)) digits (not-true _ e5)
      (rw size (divides up down c f (min_exponent_plus_32768 - x) at fits (omega arith))))
      (λ e5. record {
        kept = λ h. absurd (omega arith);
        raised = λ _. (refl, inr (rw size at (zeros-dropped ds (length ds - (min_exponent_plus_32768 - x)) (not-false _ e5))));
      })))))

  -- zeros added up to the greatest exponent
  pub record IsPadded (z : ℕ) : Type 0 where
    pub same : x ≤ max_exponent_plus_32768 → z ≡ 0
    pub padded : max_exponent_plus_32768 < x → ((ds ≡ []) × (z ≡ 0)) ⊎ ((z ≡ x - max_exponent_plus_32768) × (length ds + z ≤ 34))

  pub zeros_to_add-cases : MatchResult (zeros_to_add ds x) IsPadded Refuses
  unfolding zeros_to_add
  zeros_to_add-cases =
      if-cases IsPadded Refuses (leb x max_exponent_plus_32768) _ _
      (λ e. let low = leb-true x max_exponent_plus_32768 e in record { same = λ _. refl; padded = λ h. absurd (omega arith) })
      (λ e. let high = leb-false x max_exponent_plus_32768 e in
      if-cases IsPadded Refuses (eqb (length ds) 0) _ _
      (λ e2. let none = nil_from_length ds (eqb-true (length ds) 0 e2) in
      record { same = λ h. absurd (omega arith); padded = λ _. inl (none, refl) })
      (λ e2. if-cases IsPadded Refuses (ltb 34 (length ds + (x - max_exponent_plus_32768))) _ _
      (λ e3 digits large up down at c f fits.
      let some : 0 < length ds = grind (arith, nat_tests) in
      let long = ltb-true 34 (length ds + (x - max_exponent_plus_32768)) e3 in
      let within = fits.exponent in
      omega (
        arith,
        reach 34 (length ds - 1) c (f + down) (digits_value 10 ds) (up + 6176) fits.coefficient
            (large some) fits.equal,
      ))
      (λ e3. let short = ltb-false 34 (length ds + (x - max_exponent_plus_32768)) e3 in
      record { same = λ h. absurd (omega arith); padded = λ _. inr (refl, omega arith) })))
