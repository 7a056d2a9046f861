-- The RFC 3339 text of a moment is jiff's text of its date and time, and `Z`.
use Rattle.std.proofs.Common.{◌≡◌, ℕ, suc, ◌+◌, ◌-◌, ◌*◌, ◌/◌, ◌%◌, ◌<◌, ◌==◌, if◌then◌else◌, None, inl, inr, true}
use Rattle.std.proofs.Common.{false, [], ◌∷◌, ◌++◌, refl, ap, ◌∙◌, arith, ℤ, pos}
use Rattle.std.proofs.Math.Nat.{eq-zero-or-pos}
use Rattle.std.proofs.lemmas.Bool.Decides.{nat_tests}
use Rattle.std.proofs.lemmas.List.{append_assoc}
use Rattle.jiff.specs.Types.{DateTime}
use Rattle.jiff.specs.Words.{iso_datetime_text}
use Rattle.jiff.proofs.Family.{civil_nanos-parts}
use Rattle.jiff.proofs.SpanFacts.{signed_arith}
use Rattle.jiff_fmt.specs.Text.{places, fraction, fraction_part, significant, trailing_zeros}
use Rattle.jiff_fmt.proofs.TextLemmas.{trailing_zeros-step, trailing_zeros-stop, trailing_zeros-end, places-step}
use Rattle.jiff_fmt.proofs.TextLemmas.{places-end, significant-not_zero}
use Rattle.bson_datetime.specs.JiffConversion.{HasJiffTime}
use Rattle.bson_datetime.specs.DateTimeText.{rfc3339_text, thousandths_text}
use Rattle.bson_datetime.proofs.DisplayedLemmas.{civil_of_millis-jiff}

-- the six zeros of a whole millisecond, in nanoseconds
six_zeros : (k : ℕ) → trailing_zeros 8 (k * 1_000_000) ≡ 6 + trailing_zeros 2 k
six_zeros k =
    let a : k * 1_000_000 / 10 ≡ k * 100_000 = omega arith in
    let b : k * 100_000 / 10 ≡ k * 10_000 = omega arith in
    let c : k * 10_000 / 10 ≡ k * 1_000 = omega arith in
    let d : k * 1_000 / 10 ≡ k * 100 = omega arith in
    let e : k * 100 / 10 ≡ k * 10 = omega arith in
    let f : k * 10 / 10 ≡ k = omega arith in
    let steps : trailing_zeros 8 (k * 1_000_000) ≡ suc (suc (suc (suc (suc (suc (trailing_zeros 2 k)))))) = rw (
      trailing_zeros-step 8 7 (k * 1_000_000) refl (omega arith),
      a,
      trailing_zeros-step 7 6 (k * 100_000) refl (omega arith),
      b,
      trailing_zeros-step 6 5 (k * 10_000) refl (omega arith),
      c,
      trailing_zeros-step 5 4 (k * 1_000) refl (omega arith),
      d,
      trailing_zeros-step 4 3 (k * 100) refl (omega arith),
      e,
      trailing_zeros-step 3 2 (k * 10) refl (omega arith),
      f,
    ) refl in
    omega (arith, steps)

-- the places of whole milliseconds
places_one : (k : ℕ) → places 1 1_000_000_000 (k * 1_000_000) ≡ (48 + k / 100) ∷ []
places_one k =
    let first : k * 1_000_000 / 100_000_000 ≡ k / 100 = omega arith in
    places-step 1 0 1_000_000_000 (k * 1_000_000) refl
    ∙ rw (places-end 0 100_000_000 (k * 1_000_000 % 100_000_000) refl, first) refl

places_two : (k : ℕ) → places 2 1_000_000_000 (k * 1_000_000) ≡ (48 + k / 100) ∷ (48 + k / 10 % 10) ∷ []
places_two k =
    let first : k * 1_000_000 / 100_000_000 ≡ k / 100 = omega arith in
    let left : k * 1_000_000 % 100_000_000 ≡ k % 100 * 1_000_000 = omega arith in
    let second : k % 100 * 1_000_000 / 10_000_000 ≡ k / 10 % 10 = omega arith in
    places-step 2 1 1_000_000_000 (k * 1_000_000) refl
    ∙ rw (
      first,
      left,
      places-step 1 0 100_000_000 (k % 100 * 1_000_000) refl,
      second,
      places-end 0 10_000_000 (k % 100 * 1_000_000 % 10_000_000) refl,
    ) refl

pub places_three : (k : ℕ) → places 3 1_000_000_000 (k * 1_000_000)
    ≡ (48 + k / 100) ∷ (48 + k / 10 % 10) ∷ (48 + k % 10) ∷ []
places_three k =
    let first : k * 1_000_000 / 100_000_000 ≡ k / 100 = omega arith in
    let left : k * 1_000_000 % 100_000_000 ≡ k % 100 * 1_000_000 = omega arith in
    let second : k % 100 * 1_000_000 / 10_000_000 ≡ k / 10 % 10 = omega arith in
    let last : k % 100 * 1_000_000 % 10_000_000 ≡ k % 10 * 1_000_000 = omega arith in
    let third : k % 10 * 1_000_000 / 1_000_000 ≡ k % 10 = omega arith in
    places-step 3 2 1_000_000_000 (k * 1_000_000) refl
    ∙ rw (
      first,
      left,
      places-step 2 1 100_000_000 (k % 100 * 1_000_000) refl,
      second,
      last,
      places-step 1 0 10_000_000 (k % 10 * 1_000_000) refl,
      third,
      places-end 0 1_000_000 (k % 10 * 1_000_000 % 1_000_000) refl,
    ) refl

-- the digits of a fraction that is not zero
fraction-displayed : (k : ℕ) → 0 < k → k < 1000 → fraction None (k * 1_000_000) ≡ thousandths_text k
fraction-displayed k some small =
    let not_zero : k * 1_000_000 ≡ 0 → ⊥ = λ e. omega arith in
    let zeros : significant (k * 1_000_000) ≡ 9 - (6 + trailing_zeros 2 k) =
    rw (← six_zeros k) (significant-not_zero _ not_zero) in
    elim (eq-zero-or-pos (k % 100)) [
      | inl none ↦
          let tens : k / 10 % 10 ≡ 0 = omega arith in
          let two : trailing_zeros 2 k ≡ 2 =
          rw (
            trailing_zeros-step 2 1 k refl (omega arith),
            trailing_zeros-step 1 0 (k / 10) refl tens,
            trailing_zeros-end 0 (k / 10 / 10) refl,
          ) refl in
          let one_place : significant (k * 1_000_000) ≡ 1 = rw two at zeros in
          let test : (k % 100 == 0) ≡ true = grind (arith, nat_tests) in
          rw (one_place, test) (places_one k)
      | inr more ↦
          let test : (k % 100 == 0) ≡ false = grind (arith, nat_tests) in
          elim (eq-zero-or-pos (k % 10)) [
            | inl none ↦
                let one : trailing_zeros 2 k ≡ 1 =
                rw (trailing_zeros-step 2 1 k refl none, trailing_zeros-stop 1 0 (k / 10) refl (λ e. omega arith))
                refl in
                let two_places : significant (k * 1_000_000) ≡ 2 = rw one at zeros in
                let last : (k % 10 == 0) ≡ true = grind (arith, nat_tests) in
                rw (two_places, test, last) (places_two k)
            | inr thousandths ↦
                let no_zeros : trailing_zeros 2 k ≡ 0 = trailing_zeros-stop 2 1 k refl (λ e. omega arith) in
                let three_places : significant (k * 1_000_000) ≡ 3 = rw no_zeros at zeros in
                let last : (k % 10 == 0) ≡ false = grind (arith, nat_tests) in
                rw (three_places, test, last) (places_three k)
          ]
    ]

-- the point and fraction of whole milliseconds
fraction_part-millis : (k : ℕ) → k < 1000 → fraction_part None (k * 1_000_000)
    ≡ (if k == 0 then [] else 46 ∷ thousandths_text k)
fraction_part-millis k small =
    elim (eq-zero-or-pos k) [
      | inl none ↦ rw none refl
      | inr some ↦
          let test : (k == 0) ≡ false = grind (arith, nat_tests) in
          let nanos_test : (k * 1_000_000 == 0) ≡ false = grind (arith, nat_tests) in
          let point : fraction_part None (k * 1_000_000) ≡ 46 ∷ fraction None (k * 1_000_000) = rw nanos_test in
          point ∙ ap (λ s. 46 ∷ s) (fraction-displayed k some small) ∙ rw test refl
    ]

-- jiff's text of the date and time, and `Z`
pub rfc-jiff : (ms : ℤ) (at : DateTime) (y : ℕ) → HasJiffTime ms at → at.date.year ≡ pos y
    → rfc3339_text ms ≡ iso_datetime_text at ++ 90 ∷ []
unfolding rfc3339_text
rfc-jiff ms at y is year =
    let k = at.time.subsec_nanosecond / 1_000_000 in
    let whole : k * 1_000_000 ≡ at.time.subsec_nanosecond = omega (arith, signed_arith, civil_nanos-parts at) in
    let part = rw whole at (fraction_part-millis k (omega arith)) in
    rw (civil_of_millis-jiff ms at is, year, ← part) (simp append_assoc refl)
