-- The parts of a text, joined and split.
use Rattle.std.proofs.Common.{◌≡◌, ◌≢◌, ℕ, ◌+◌, ◌-◌, ◌<◌, ◌≤◌, ◌⊎◌, inl, inr, Bool, true, false, cond, not, ◌&&◌, eqb}
use Rattle.std.proofs.Common.{ltb, leb, List, [], ◌∷◌, ◌++◌, length, drop, get_or, Option, Some, None, refl, sym, ap}
use Rattle.std.proofs.Common.{subst, ◌∙◌, rules, tests, arith, length-append}
use Rattle.std.specs.Prelude.{Result, Ok, Err, MatchResult, ⊤}
use Rattle.std.proofs.lemmas.Bool.{cases_Bool, and_parts, or_cases, eqb-true, cases_lt, leb-true, ltb-true, ltb-false}
use Rattle.std.proofs.lemmas.Bool.Decides.{nat_tests}
use Rattle.std.proofs.lemmas.List.{take_at, append-nil, take_all, drop_all}
use Rattle.std.proofs.lemmas.List.Sums.{passes_at_first, split_at_first}
use Rattle.std.proofs.lemmas.Str.Parse.{digit_from_value, digit_at}
use Rattle.std.proofs.Math.Numerals.{one-add, add-one}
use Rattle.std.specs.List.{position_or_len, before_first, after_first}
use Rattle.std.specs.Str.{all_ascii_digits}
use Rattle.std.specs.Str.Parse.{AllDigits, digits_value, without_leading_sign, starts_with_minus}
use Rattle.bson_decimal.specs.declared.ParseError.{ParseError}
use Rattle.std.specs.Option.{ok_or}
use Rattle.bson_decimal.specs.declared.ParseError.TheVariants.{EmptyExponent, InvalidExponent}
use Rattle.bson_decimal.specs.NumeralGrammar.{Sign, none, plus, minus, sign_bytes, is_minus, Exponent, unwritten, written}
use Rattle.bson_decimal.specs.NumeralGrammar.{exponent_bytes, fraction_bytes, fraction_digits, IsExponent}
use Rattle.bson_decimal.proofs.Shifted.{written_up, written_down}
use Rattle.bson_decimal.specs.ParseSteps.{is_exponent_mark, is_decimal_point, has_byte, is_exponent, signed_value_plus_32768, exponent_value}
use Rattle.bson_decimal.specs.ParseSteps.{written_exponent_plus_32768, scaled_exponent, coefficient_and_exponent, finite, bind}
use Rattle.bson_decimal.proofs.StepLaws.{if-cases, not-true, not-false}
use Rattle.bson_decimal.proofs.Zeros.{AllDigits-parts}
use Rattle.bson_decimal.proofs.DigitTests.{AllDigits-from_test, test-from_AllDigits}

past : (xs : List ℕ) (y : ℕ) (ys : List ℕ) → drop (length xs + 1) (xs ++ y ∷ ys) ≡ ys
past [] y ys = refl
past (x ∷ xs) y ys = rw add-one (rw add-one at (past xs y ys))

is-mark : (b : ℕ) → (b ≡ 101) ⊎ (b ≡ 69) → is_exponent_mark b ≡ true
is-mark b (inl e) = rw e refl
is-mark b (inr e) = rw e refl

-- no element passes
abbrev pub Fails : (ℕ → Bool) → List ℕ → Type 0
Fails p [] = ⊤
Fails p (x ∷ xs) = (p x ≡ false) × Fails p xs

pub Fails-append : (p : ℕ → Bool) (xs ys : List ℕ) → Fails p xs → Fails p ys → Fails p (xs ++ ys)
Fails-append p [] ys h g = g
Fails-append p (x ∷ xs) ys h g = (h.0, Fails-append p xs ys h.1 g)

pub first-here : (p : ℕ → Bool) (xs : List ℕ) (y : ℕ) (ys : List ℕ) → Fails p xs → p y ≡ true
    → position_or_len p (xs ++ y ∷ ys) ≡ length xs
first-here p [] y ys h e = rw e refl
first-here p (x ∷ xs) y ys h e = rw (h.0, one-add, first-here p xs y ys h.1 e) refl

pub first-none : (p : ℕ → Bool) (xs : List ℕ) → Fails p xs → position_or_len p xs ≡ length xs
first-none p [] h = refl
first-none p (x ∷ xs) h = rw (h.0, one-add, first-none p xs h.1) refl

mark-no-digit : (b : ℕ) → 48 ≤ b → b ≤ 57 → is_exponent_mark b ≡ false
mark-no-digit b low high = grind (arith, nat_tests)

point-no-digit : (b : ℕ) → 48 ≤ b → b ≤ 57 → is_decimal_point b ≡ false
point-no-digit b low high = grind (arith, nat_tests)

pub digits-fail-mark : (ds : List ℕ) → AllDigits 10 ds → Fails is_exponent_mark ds
digits-fail-mark [] h = tt
digits-fail-mark (d ∷ ds) h = let r = digit_from_value d h.0 in (mark-no-digit d r.0 r.1, digits-fail-mark ds h.1)

pub digits-fail-point : (ds : List ℕ) → AllDigits 10 ds → Fails is_decimal_point ds
digits-fail-point [] h = tt
digits-fail-point (d ∷ ds) h = let r = digit_from_value d h.0 in (point-no-digit d r.0 r.1, digits-fail-point ds h.1)

-- a sign is removed
pub sign-off : (s : Sign) (bs : List ℕ) → get_or bs 0 0 ≢ 43 → get_or bs 0 0 ≢ 45
    → (without_leading_sign (sign_bytes s ++ bs) ≡ bs) × (starts_with_minus (sign_bytes s ++ bs) ≡ is_minus s)
sign-off none bs h g =
    let a : eqb (get_or bs 0 0) 45 ≡ false = grind (arith, nat_tests) in
    let b : eqb (get_or bs 0 0) 43 ≡ false = grind (arith, nat_tests) in
    (rw (a, b) refl, a)
sign-off plus bs h g = (refl, refl)
sign-off minus bs h g = (refl, refl)

-- and is found
pub sign-of : (bs : List ℕ)
    → (s : Sign) × (bs ≡ sign_bytes s ++ without_leading_sign bs) × (starts_with_minus bs ≡ is_minus s)
sign-of [] = (none, refl, refl)
sign-of (c ∷ cs) =
    elim (cases_Bool (eqb c 45)) [
      | inl e ↦ let is = eqb-true c 45 e in (minus, rw e (λ i. is i ∷ cs), e)
      | inr e ↦ elim (cases_Bool (eqb c 43)) [
        | inl f ↦ let is = eqb-true c 43 f in (plus, rw (e, f) (λ i. is i ∷ cs), e)
        | inr f ↦ (none, rw (e, f) refl, e)
      ]
    ]

-- an exponent with 32768 added
pub bias : (b : Bool) (v : ℕ) → leb v (cond b 32768 32767) ≡ true
    → (cond b (32768 - v) (32768 + v) + cond b v 0 ≡ 32768 + cond b 0 v) × (cond b 0 v ≤ 32767) × (cond b v 0 ≤ 32768)
bias true v e = let low = leb-true v 32768 e in (omega arith, omega arith, omega arith)
bias false v e = let low = leb-true v 32767 e in (omega arith, omega arith, omega arith)

-- the written exponent that the steps find
pub record ReadsExponent (rest : List ℕ) (w : ℕ) : Type 0 where
  pub part : Exponent
  pub is : rest ≡ before_first is_exponent_mark rest ++ exponent_bytes part
  pub ok : IsExponent part
  pub value : w + written_down part ≡ 32768 + written_up part
  pub high : written_up part ≤ 32767
  pub low : written_down part ≤ 32768

mark-cases : (b : ℕ) → is_exponent_mark b ≡ true → (b ≡ 101) ⊎ (b ≡ 69)
mark-cases b e = elim (or_cases (eqb b 101) (eqb b 69) e) [
  | inl t ↦ inl (eqb-true b 101 t)
  | inr t ↦ inr (eqb-true b 69 t)
]

pub reads-exponent : (rest : List ℕ) → MatchResult (written_exponent_plus_32768 rest) (ReadsExponent rest) (λ _. ⊤)
unfolding written_exponent_plus_32768 exponent_value
reads-exponent rest =
    let tail = after_first is_exponent_mark rest in
    let place = position_or_len is_exponent_mark rest in
    if-cases (ReadsExponent rest) (λ _. ⊤) (not (has_byte is_exponent_mark rest)) _ _
    (λ e. let past = ltb-false place (length rest) (not-true _ e) in
    record {
      part = unwritten;
      is = sym (append-nil _ ∙ take_all place rest past);
      ok = tt;
      value = refl;
      high = omega arith;
      low = omega arith;
    })
    (λ e. let within = ltb-true place (length rest) (not-false _ e) in
    if-cases (ReadsExponent rest) (λ _. ⊤) (eqb (length tail) 0) _ _
    (λ _. tt)
    (λ _. elim (cases_Bool (is_exponent tail)) [
      | inr f ↦ rw f tt
      | inl f ↦
          let a = and_parts (ltb 0 (length (without_leading_sign tail))) _ f in
          let b = and_parts (all_ascii_digits (without_leading_sign tail)) _ a.1 in
          let s = sign-of tail in
          let v = digits_value 10 (without_leading_sign tail) in
          let fits = bias (starts_with_minus tail) v b.1 in
          rw f (record {
            part = written (get_or rest place 0) s.0 (without_leading_sign tail);
            is = split_at_first is_exponent_mark rest 0 within
                ∙ ap (λ t. before_first is_exponent_mark rest ++ get_or rest place 0 ∷ t) s.1;
            ok = (mark-cases _ (passes_at_first is_exponent_mark rest 0 within), ltb-true 0 _ a.0, AllDigits-from_test _ b.0);
            value = subst (λ (m : Bool). signed_value_plus_32768 tail + cond m v 0 ≡ 32768 + cond m 0 v) s.2 fits.0;
            high = subst (λ (m : Bool). cond m 0 v ≤ 32767) s.2 fits.1;
            low = subst (λ (m : Bool). cond m v 0 ≤ 32768) s.2 fits.2;
          })
    ]))

-- a point
pub record ReadsPoint (bs : List ℕ) : Type 0 where
  pub part : Option (List ℕ)
  pub is : bs ≡ before_first is_decimal_point bs ++ fraction_bytes part
  pub digits : fraction_digits part ≡ after_first is_decimal_point bs

pub reads-point : (bs : List ℕ) → ReadsPoint bs
reads-point bs =
    let place = position_or_len is_decimal_point bs in
    elim (cases_lt place (length bs)) [
      | inl within ↦
          let dot : get_or bs place 0 ≡ 46 = eqb-true _ 46 (passes_at_first is_decimal_point bs 0 within) in
          record {
            part = Some (after_first is_decimal_point bs);
            is = split_at_first is_decimal_point bs 0 within
                ∙ ap (λ d. before_first is_decimal_point bs ++ d ∷ after_first is_decimal_point bs) dot;
            digits = refl;
          }
      | inr past ↦ record {
        part = None;
        is = sym (append-nil _ ∙ take_all place bs past);
        digits = sym (drop_all (place + 1) bs (omega arith));
      }
    ]

no-mark-fraction : (f : Option (List ℕ)) → AllDigits 10 (fraction_digits f) → Fails is_exponent_mark (fraction_bytes f)
no-mark-fraction None h = tt
no-mark-fraction (Some ds) h = (refl, digits-fail-mark ds h)

before-point : (integer_digits : List ℕ) (f : Option (List ℕ)) → AllDigits 10 integer_digits
    → before_first is_decimal_point (integer_digits ++ fraction_bytes f) ≡ integer_digits
before-point integer_digits None h =
    rw (append-nil, first-none is_decimal_point integer_digits (digits-fail-point integer_digits h)) (take_all (length integer_digits) integer_digits (omega arith))
before-point integer_digits (Some ds) h =
    rw (first-here is_decimal_point integer_digits 46 ds (digits-fail-point integer_digits h) refl) (take_at integer_digits (46 ∷ ds) (length integer_digits) refl)

after-point : (integer_digits : List ℕ) (f : Option (List ℕ)) → AllDigits 10 integer_digits
    → after_first is_decimal_point (integer_digits ++ fraction_bytes f) ≡ fraction_digits f
after-point integer_digits None h =
    rw (append-nil, first-none is_decimal_point integer_digits (digits-fail-point integer_digits h))
    (drop_all (length integer_digits + 1) integer_digits (omega arith))
after-point integer_digits (Some ds) h =
    rw (first-here is_decimal_point integer_digits 46 ds (digits-fail-point integer_digits h) refl) (past integer_digits 46 ds)

before-mark : (cs : List ℕ) (ex : Exponent) → Fails is_exponent_mark cs → IsExponent ex
    → before_first is_exponent_mark (cs ++ exponent_bytes ex) ≡ cs
before-mark cs unwritten h ok = rw (append-nil, first-none is_exponent_mark cs h) (take_all (length cs) cs (omega arith))
before-mark cs (written m s ds) h ok =
    rw (first-here is_exponent_mark cs m (sign_bytes s ++ ds) h (is-mark m ok.0))
    (take_at cs (m ∷ (sign_bytes s ++ ds)) (length cs) refl)

digits-no-sign : (ds : List ℕ) → 0 < length ds → AllDigits 10 ds → (get_or ds 0 0 ≢ 43) × (get_or ds 0 0 ≢ 45)
digits-no-sign ds some h = let r = digit_at ds 0 h some in let low = r.0 in (λ e. omega arith, λ e. omega arith)

exponent-from-is : (b : Bool) (ds : List ℕ) (w : ℕ) → 0 < length ds → AllDigits 10 ds
    → cond b 0 (digits_value 10 ds) ≤ 32767 → cond b (digits_value 10 ds) 0 ≤ 32768
    → w + cond b (digits_value 10 ds) 0 ≡ 32768 + cond b 0 (digits_value 10 ds)
    → cond (ltb 0 (length ds) && (all_ascii_digits ds && leb (digits_value 10 ds) (cond b 32768 32767)))
    (Some (cond b (32768 - digits_value 10 ds) (32768 + digits_value 10 ds))) None ≡ Some w
exponent-from-is true ds w some digits high low at =
    let a : ltb 0 (length ds) ≡ true = search (rules, tests) in
    let b : leb (digits_value 10 ds) 32768 ≡ true = search (rules, tests) in
    rw (a, test-from_AllDigits ds digits, b) (ap Some (omega arith))
exponent-from-is false ds w some digits high low at =
    let a : ltb 0 (length ds) ≡ true = search (rules, tests) in
    let b : leb (digits_value 10 ds) 32767 ≡ true = search (rules, tests) in
    rw (a, test-from_AllDigits ds digits, b) (ap Some (omega arith))

-- the value of an exponent, from its sign and digits
exponent_from : Bool → List ℕ → Option ℕ
exponent_from negative us =
    cond (ltb 0 (length us) && (all_ascii_digits us && leb (digits_value 10 us) (cond negative 32768 32767)))
    (Some (cond negative (32768 - digits_value 10 us) (32768 + digits_value 10 us))) None

exponent-is : (s : Sign) (ds : List ℕ) (w : ℕ) → 0 < length ds → AllDigits 10 ds
    → cond (is_minus s) 0 (digits_value 10 ds) ≤ 32767 → cond (is_minus s) (digits_value 10 ds) 0 ≤ 32768
    → w + cond (is_minus s) (digits_value 10 ds) 0 ≡ 32768 + cond (is_minus s) 0 (digits_value 10 ds)
    → exponent_value (sign_bytes s ++ ds) ≡ Some w
unfolding exponent_value exponent_from
exponent-is s ds w some digits high low at =
    let no_sign = digits-no-sign ds some digits in
    let off = sign-off s ds no_sign.0 no_sign.1 in
    let first : exponent_value (sign_bytes s ++ ds) ≡ exponent_from (starts_with_minus (sign_bytes s ++ ds))
    (without_leading_sign (sign_bytes s ++ ds)) = refl in
    let second : exponent_from (starts_with_minus (sign_bytes s ++ ds)) (without_leading_sign (sign_bytes s ++ ds))
    ≡ exponent_from (is_minus s) ds =
    ap (λ b. exponent_from b (without_leading_sign (sign_bytes s ++ ds))) off.1
    ∙ ap (λ us. exponent_from (is_minus s) us) off.0 in
    first ∙ second ∙ exponent-from-is (is_minus s) ds w some digits high low at

-- the step on an exponent, from the bytes after its mark
written_from : List ℕ → Bool → Result ℕ ParseError
written_from tail marked =
    cond (not marked) (Ok 32768)
    (cond (eqb (length tail) 0) (Err EmptyExponent) (ok_or (exponent_value tail) InvalidExponent))

written-is : (cs : List ℕ) (ex : Exponent) (w : ℕ) → Fails is_exponent_mark cs → IsExponent ex → written_up ex ≤ 32767
    → written_down ex ≤ 32768 → w + written_down ex ≡ 32768 + written_up ex
    → written_exponent_plus_32768 (cs ++ exponent_bytes ex) ≡ Ok w
unfolding written_exponent_plus_32768 written_from
written-is cs unwritten w h ok high low at =
    let none : ltb (position_or_len is_exponent_mark cs) (length cs) ≡ false =
    rw (first-none is_exponent_mark cs h) (grind (arith, nat_tests)) in
    let w-is : w ≡ 32768 = omega arith in
    rw (append-nil, none, w-is) refl
written-is cs (written m s ds) w h ok high low at =
    let rest = cs ++ m ∷ (sign_bytes s ++ ds) in
    let place = first-here is_exponent_mark cs m (sign_bytes s ++ ds) h (is-mark m ok.0) in
    let tail : after_first is_exponent_mark rest ≡ sign_bytes s ++ ds = rw place (past cs m (sign_bytes s ++ ds)) in
    let marked : has_byte is_exponent_mark rest ≡ true =
    rw place (search (rules, tests, length-append cs (m ∷ (sign_bytes s ++ ds)))) in
    let some : eqb (length (sign_bytes s ++ ds)) 0 ≡ false =
    grind (arith, nat_tests, length-append (sign_bytes s) ds, ok.1) in
    let first : written_exponent_plus_32768 rest ≡ written_from (after_first is_exponent_mark rest) (has_byte is_exponent_mark rest) = refl in
    first ∙ ap (λ t. written_from t (has_byte is_exponent_mark rest)) tail ∙ ap (λ b. written_from (sign_bytes s ++ ds) b) marked
    ∙ rw (some, exponent-is s ds w ok.1 ok.2 high low at) refl

-- the steps, from the parts of a text
finite_from : Result ℕ ParseError → List ℕ → List ℕ → Result (ℕ × ℕ) ParseError
finite_from w fraction integer_digits = bind w (λ v. bind (scaled_exponent v fraction) (λ x. coefficient_and_exponent (integer_digits ++ fraction) x))

-- the steps on a text that is joined of its parts
module _ (integer_digits : List ℕ) (f : Option (List ℕ)) (ex : Exponent) (digits : AllDigits 10 (integer_digits ++ fraction_digits f))
    (ok : IsExponent ex) (high : written_up ex ≤ 32767) (low : written_down ex ≤ 32768) where
  coefficient_bytes : List ℕ
  coefficient_bytes = integer_digits ++ fraction_bytes f

  no-mark : Fails is_exponent_mark (integer_digits ++ fraction_bytes f)
  no-mark =
      let parts = AllDigits-parts integer_digits (fraction_digits f) digits in
      Fails-append is_exponent_mark integer_digits (fraction_bytes f) (digits-fail-mark integer_digits parts.0) (no-mark-fraction f parts.1)

  before-is : before_first is_exponent_mark ((integer_digits ++ fraction_bytes f) ++ exponent_bytes ex) ≡ integer_digits ++ fraction_bytes f
  before-is = before-mark (integer_digits ++ fraction_bytes f) ex no-mark ok

  pub finite-is : (w x : ℕ) → w + written_down ex ≡ 32768 + written_up ex → length (fraction_digits f) ≤ 32767
      → w ≡ x + length (fraction_digits f)
      → finite ((integer_digits ++ fraction_bytes f) ++ exponent_bytes ex) ≡ coefficient_and_exponent (integer_digits ++ fraction_digits f) x
  unfolding finite scaled_exponent finite_from
  finite-is w x at short sum =
      let rest = (integer_digits ++ fraction_bytes f) ++ exponent_bytes ex in
      let parts = AllDigits-parts integer_digits (fraction_digits f) digits in
      let point = ap (after_first is_decimal_point) before-is ∙ after-point integer_digits f parts.0 in
      let front = ap (before_first is_decimal_point) before-is ∙ before-point integer_digits f parts.0 in
      let first : finite rest ≡ finite_from (written_exponent_plus_32768 rest) (after_first is_decimal_point (before_first is_exponent_mark rest))
      (before_first is_decimal_point (before_first is_exponent_mark rest)) = refl in
      let a : ltb 32767 (length (fraction_digits f)) ≡ false = grind (arith, nat_tests) in
      let b : ltb w (length (fraction_digits f)) ≡ false = grind (arith, nat_tests) in
      let c : w - length (fraction_digits f) ≡ x = omega arith in
      first ∙ ap (λ t. finite_from t (after_first is_decimal_point (before_first is_exponent_mark rest))
      (before_first is_decimal_point (before_first is_exponent_mark rest)))
      (written-is (integer_digits ++ fraction_bytes f) ex w no-mark ok high low at)
      ∙ ap (λ t. finite_from (Ok w) t (before_first is_decimal_point (before_first is_exponent_mark rest))) point
      ∙ ap (λ t. finite_from (Ok w) (fraction_digits f) t) front
      ∙ rw (a, b, c) refl
