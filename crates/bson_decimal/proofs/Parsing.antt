-- What the steps read, in the words of the grammar.
use Rattle.std.proofs.Common.{◌≡◌, ◌≢◌, ℕ, ◌+◌, ◌-◌, ◌^◌, ◌<◌, ◌≤◌, ltb, List, [], ◌∷◌, ◌++◌, length, get_or, Option}
use Rattle.std.proofs.Common.{Some, None, refl, sym, ap, ◌∙◌, arith}
use Rattle.std.specs.Prelude.{Result, Ok, Err, MatchResult, ⊤}
use Rattle.std.proofs.lemmas.Bool.{ltb-false}
use Rattle.std.proofs.lemmas.Bool.Decides.{nat_tests}
use Rattle.std.proofs.lemmas.List.{append_assoc}
use Rattle.std.proofs.lemmas.Str.Parse.{digit_at}
use Rattle.std.specs.Char.{to_ascii_lowercase}
use Rattle.std.specs.Int.{w128, to_le_bytes}
use Rattle.std.specs.List.{before_first, after_first}
use Rattle.std.specs.Str.Parse.{AllDigits, without_leading_sign, starts_with_minus}
use Rattle.bson_decimal.specs.declared.ParseError.{ParseError}
use Rattle.bson_decimal.specs.DecimalBits.{encoded_finite, sign_bit}
use Rattle.bson_decimal.proofs.Shifted.{FitsShifted, IsNearestShifted}
use Rattle.bson_decimal.specs.NumeralGrammar.{Sign, sign_bytes, is_minus, Exponent, exponent_bytes, fraction_bytes}
use Rattle.bson_decimal.specs.NumeralGrammar.{fraction_digits, IsExponent, Numeral, digits_of, IsFiniteDecimalText, number}
use Rattle.bson_decimal.specs.DecimalStrings.{IsNanOrInfinityWord, nan, snan, infinity, inf, DenotesDecimal, special, finite as finite_text}
use Rattle.bson_decimal.specs.DecimalStrings.{lowercase}
use Rattle.bson_decimal.proofs.Shifted.{written_up, written_down, up, down, IsWithin16Shifted, within16}
use Rattle.bson_decimal.proofs.Shifted.{within16-shifted, nearest, nearest-shifted}
use Rattle.bson_decimal.specs.ParseSteps.{i16_max_plus_32768, is_exponent_mark, is_decimal_point, scaled_exponent, coefficient_and_exponent, finite}
use Rattle.bson_decimal.proofs.StepLaws.{if-cases}
use Rattle.bson_decimal.proofs.Fitted.{bind-by, IsFitted, FittedRefuses, stored_pair-cases}
use Rattle.bson_decimal.proofs.NearestLaws.{nearest-one}
use Rattle.bson_decimal.proofs.Grammar.{ReadsExponent, reads-exponent, reads-point, finite-is, sign-of, sign-off}

-- the parts of a finite text without its sign, and its pair
pub record ReadsFinite (rest : List ℕ) (r : ℕ × ℕ) : Type 0 where
  pub integer_digits : List ℕ
  pub fraction : Option (List ℕ)
  pub exponent : Exponent
  pub is : rest ≡ (integer_digits ++ fraction_bytes fraction) ++ exponent_bytes exponent
  pub ok : IsExponent exponent
  pub high : written_up exponent ≤ 32767
  pub low : written_down exponent ≤ 32768
  pub short : length (fraction_digits fraction) ≤ 32767
  pub scaled : ℕ
  pub scaled_is : scaled + length (fraction_digits fraction) + written_down exponent ≡ 32768 + written_up exponent
  pub fitted_is : IsFitted (integer_digits ++ fraction_digits fraction) scaled r

scaled-cases : (w : ℕ) (f : List ℕ)
    → MatchResult (scaled_exponent w f) (λ x. (x + length f ≡ w) × (length f ≤ 32767)) (λ _. ⊤)
unfolding scaled_exponent
scaled-cases w f =
    if-cases (λ x. (x + length f ≡ w) × (length f ≤ 32767)) (λ _. ⊤) (ltb 32767 (length f)) _ _
    (λ _. tt)
    (λ e. if-cases (λ x. (x + length f ≡ w) × (length f ≤ 32767)) (λ _. ⊤) (ltb w (length f)) _ _ (λ _. tt)
    (λ g. let a = ltb-false 32767 (length f) e in let b = ltb-false w (length f) g in (omega arith, a)))

coefficient_and_exponent-ok : (bs : List ℕ) (x : ℕ) → x ≤ i16_max_plus_32768 → MatchResult (coefficient_and_exponent bs x) (IsFitted bs x) (λ _. ⊤)
coefficient_and_exponent-ok bs x low = weaker (coefficient_and_exponent bs x) (stored_pair-cases bs x low)
  where
    weaker : (r : Result (ℕ × ℕ) ParseError) → MatchResult r (IsFitted bs x) (FittedRefuses bs x)
        → MatchResult r (IsFitted bs x) (λ _. ⊤)
    weaker (Ok a) h = h
    weaker (Err e) h = tt

pub reads-finite : (rest : List ℕ) → MatchResult (finite rest) (ReadsFinite rest) (λ _. ⊤)
unfolding finite
reads-finite rest =
    let cs = before_first is_exponent_mark rest in
    let p = reads-point cs in
    let integer_digits = before_first is_decimal_point cs in
    let fraction = after_first is_decimal_point cs in
    bind-by (ReadsFinite rest) (λ _. ⊤) (ReadsExponent rest) (λ _. ⊤) _ _ (reads-exponent rest)
    (λ w ex.
    bind-by (ReadsFinite rest) (λ _. ⊤) (λ x. (x + length fraction ≡ w) × (length fraction ≤ 32767))
    (λ _. ⊤) (scaled_exponent w fraction) _ (scaled-cases w fraction)
    (λ x sum. ok-finite rest integer_digits p.part ex.part fraction w x p.digits
    (ex.is ∙ ap (λ t. t ++ exponent_bytes ex.part) p.is) ex.ok ex.high ex.low ex.value sum.0 sum.1
    (coefficient_and_exponent (integer_digits ++ fraction) x)
    (coefficient_and_exponent-ok (integer_digits ++ fraction) x (let v = ex.value in let h = ex.high in let s = sum.0 in omega arith)))
    (λ e h. tt))
    (λ e h. tt)
  where
    ok-finite : (rest integer_digits : List ℕ) (f : Option (List ℕ)) (ex : Exponent) (fraction : List ℕ) (w x : ℕ)
        → fraction_digits f ≡ fraction → rest ≡ (integer_digits ++ fraction_bytes f) ++ exponent_bytes ex → IsExponent ex
        → written_up ex ≤ 32767 → written_down ex ≤ 32768
        → w + written_down ex ≡ 32768 + written_up ex → x + length fraction ≡ w → length fraction ≤ 32767
        → (r : Result (ℕ × ℕ) ParseError) → MatchResult r (IsFitted (integer_digits ++ fraction) x) (λ _. ⊤)
        → MatchResult r (ReadsFinite rest) (λ _. ⊤)
    ok-finite rest integer_digits f ex fraction w x same is ok high low value sum short (Ok r) h =
        record {
          integer_digits = integer_digits;
          fraction = f;
          exponent = ex;
          is = is;
          ok = ok;
          high = high;
          low = low;
          short = rw same short;
          scaled = x;
          scaled_is = rw same (omega arith);
          fitted_is = rw same h;
        }
    ok-finite rest integer_digits f ex fraction w x same is ok high low value sum short (Err e) h = tt

-- the first byte of a finite text without its sign
front-no-sign : (integer_digits : List ℕ) (f : Option (List ℕ)) (rest : List ℕ) → AllDigits 10 (integer_digits ++ fraction_digits f)
    → 0 < length (integer_digits ++ fraction_digits f)
    → (get_or (integer_digits ++ (fraction_bytes f ++ rest)) 0 0 ≢ 43) × (get_or (integer_digits ++ (fraction_bytes f ++ rest)) 0 0 ≢ 45)
front-no-sign [] None rest digits some = absurd (omega arith)
front-no-sign [] (Some ds) rest digits some = (λ e. omega arith, λ e. omega arith)
front-no-sign (d ∷ ds) f rest digits some = let r = digit_at (d ∷ (ds ++ fraction_digits f)) 0 digits some in let low =
    r.0 in (λ e. omega arith, λ e. omega arith)

front-low : (integer_digits : List ℕ) (f : Option (List ℕ)) (rest : List ℕ) → AllDigits 10 (integer_digits ++ fraction_digits f)
    → 0 < length (integer_digits ++ fraction_digits f)
    → get_or (integer_digits ++ (fraction_bytes f ++ rest)) 0 0 < 65
front-low [] None rest digits some = absurd (omega arith)
front-low [] (Some ds) rest digits some = omega arith
front-low (d ∷ ds) f rest digits some = let r = digit_at (d ∷ (ds ++ fraction_digits f)) 0 digits some in let high =
    r.1 in omega arith

-- the steps on a text of the grammar
pub record StepsOn (text : List ℕ) (n : Numeral) : Type 0 where
  pub x : ℕ
  pub at : x + down n ≡ up n + 32768
  pub within : x ≤ i16_max_plus_32768
  pub steps : finite (without_leading_sign text) ≡ coefficient_and_exponent (digits_of n) x
  pub sign : starts_with_minus text ≡ is_minus n.sign

pub steps-on : (text : List ℕ) (n : Numeral) → IsFiniteDecimalText text n → IsWithin16Shifted n → StepsOn text n
steps-on text n t l =
    let rest = n.integer_digits ++ (fraction_bytes n.fraction ++ exponent_bytes n.exponent) in
    let first = front-no-sign n.integer_digits n.fraction (exponent_bytes n.exponent) t.digits t.some in
    let off = sign-off n.sign rest first.0 first.1 in
    let high = l.high in
    let low = l.low in
    let least = l.least in
    let x = up n + 32768 - down n in
    let w = 32768 + written_up n.exponent - written_down n.exponent in
    record {
      x = x;
      at = omega arith;
      within = omega arith;
      steps = ap (λ bs. finite (without_leading_sign bs)) t.is
          ∙ ap finite (off.0 ∙ sym (append_assoc n.integer_digits (fraction_bytes n.fraction) (exponent_bytes n.exponent)))
          ∙ finite-is n.integer_digits n.fraction n.exponent t.digits t.exponent l.high l.low w x (omega arith) l.fraction
          (omega arith);
      sign = ap starts_with_minus t.is ∙ off.1;
    }

-- a text that the steps refuse denotes nothing
pub refused : (text : List ℕ) (k : ParseError) → finite (without_leading_sign text) ≡ Err k → (n : Numeral) (c e : ℕ)
    → IsFiniteDecimalText text n → IsWithin16Shifted n → FitsShifted (number n) (up n) (down n) c e → ⊥
refused text k is n c e t l fits =
    let s = steps-on text n t l in
    let at = s.at in
    let great = l.greatest in
    rw (sym s.steps ∙ is) at (stored_pair-cases (digits_of n) s.x s.within) t.digits t.some l.cut (omega arith) (up n)
    (down n) s.at c e fits

-- and what they give is the one pair
pub only : (text : List ℕ) (r : ℕ × ℕ) → finite (without_leading_sign text) ≡ Ok r → (n : Numeral) (c e : ℕ)
    → IsFiniteDecimalText text n → IsWithin16Shifted n → IsNearestShifted (number n) (up n) (down n) c e
    → (c ≡ r.0) × (e ≡ r.1)
only text r is n c e t l near =
    let s = steps-on text n t l in
    let given = (rw (sym s.steps ∙ is) at (stored_pair-cases (digits_of n) s.x s.within)).nearest (up n)
    (down n) s.at in
    nearest-one (number n) (up n) (down n) c r.0 e r.1 near given

-- a text that the steps read
pub read : (text : List ℕ) (r : ℕ × ℕ) → ReadsFinite (without_leading_sign text) r
    → DenotesDecimal text (to_le_bytes w128 (encoded_finite (starts_with_minus text) r.0 r.1))
read text r h =
    let s = sign-of text in
    let n : Numeral = record { sign = s.0; integer_digits = h.integer_digits; fraction = h.fraction; exponent = h.exponent } in
    let sum = h.scaled_is in
    let coefficient_and_exponent = h.fitted_is in
    let few = coefficient_and_exponent.few in
    let most = coefficient_and_exponent.high in
    finite_text n r.0 r.1
    (record {
      is = s.1 ∙ ap (λ t. sign_bytes s.0 ++ t)
          (h.is ∙ append_assoc h.integer_digits (fraction_bytes h.fraction) (exponent_bytes h.exponent));
      digits = coefficient_and_exponent.digits;
      some = coefficient_and_exponent.some;
      exponent = h.ok;
    })
    (within16 n (record {
      high = h.high;
      low = h.low;
      fraction = h.short;
      least = omega arith;
      cut = few;
      greatest = omega arith;
    }))
    (nearest n r.0 r.1 (coefficient_and_exponent.nearest (up n) (down n) (omega arith)))
    (ap (λ b. to_le_bytes w128 (encoded_finite b r.0 r.1)) s.2)

-- words
letter : (c x : ℕ) → to_ascii_lowercase c ≡ x → 97 ≤ x → 65 ≤ c
letter c x e h = grind (arith, nat_tests)

head-letter : (word : List ℕ) (x : ℕ) (xs : List ℕ) → lowercase word ≡ x ∷ xs → 97 ≤ x → 65 ≤ get_or word 0 0
head-letter [] x xs e h = cc
head-letter (c ∷ cs) x xs e h = let first : to_ascii_lowercase c ≡ x = cc in letter c x first h

special-letter : (word : List ℕ) (n : ℕ) → IsNanOrInfinityWord word n → 65 ≤ get_or word 0 0
special-letter word n (nan e) = head-letter word _ _ e (omega arith)
special-letter word n (snan e) = head-letter word _ _ e (omega arith)
special-letter word n (infinity e) = head-letter word _ _ e (omega arith)
special-letter word n (inf e) = head-letter word _ _ e (omega arith)

apart : (word a b : List ℕ) → lowercase word ≡ a → lowercase word ≡ b → a ≡ b
apart word a b e f = sym e ∙ f

heads : (word a b : List ℕ) → lowercase word ≡ a → lowercase word ≡ b → get_or a 0 0 ≡ get_or b 0 0
heads word a b e f = ap (λ (xs : List ℕ). get_or xs 0 0) (apart word a b e f)

special-one : (word : List ℕ) (m n : ℕ) → IsNanOrInfinityWord word m → IsNanOrInfinityWord word n → m ≡ n
special-one word m n (nan e) (nan f) = refl
special-one word m n (nan e) (snan f) = absurd (omega (arith, heads word _ _ e f))
special-one word m n (nan e) (infinity f) = absurd (omega (arith, heads word _ _ e f))
special-one word m n (nan e) (inf f) = absurd (omega (arith, heads word _ _ e f))
special-one word m n (snan e) (nan f) = absurd (omega (arith, heads word _ _ e f))
special-one word m n (snan e) (snan f) = refl
special-one word m n (snan e) (infinity f) = absurd (omega (arith, heads word _ _ e f))
special-one word m n (snan e) (inf f) = absurd (omega (arith, heads word _ _ e f))
special-one word m n (infinity e) (nan f) = absurd (omega (arith, heads word _ _ e f))
special-one word m n (infinity e) (snan f) = absurd (omega (arith, heads word _ _ e f))
special-one word m n (infinity e) (infinity f) = refl
special-one word m n (infinity e) (inf f) = refl
special-one word m n (inf e) (nan f) = absurd (omega (arith, heads word _ _ e f))
special-one word m n (inf e) (snan f) = absurd (omega (arith, heads word _ _ e f))
special-one word m n (inf e) (infinity f) = refl
special-one word m n (inf e) (inf f) = refl

-- a word after its sign
pub word-off : (s : Sign) (word : List ℕ) (n : ℕ) → IsNanOrInfinityWord word n
    → (without_leading_sign (sign_bytes s ++ word) ≡ word) × (starts_with_minus (sign_bytes s ++ word) ≡ is_minus s)
word-off s word n h = let first = special-letter word n h in sign-off s word (λ e. omega arith) (λ e. omega arith)

-- a finite text is no word
pub no-word : (text : List ℕ) (n : Numeral) (m : ℕ) → IsFiniteDecimalText text n → IsNanOrInfinityWord (without_leading_sign text) m
    → ⊥
no-word text n m t h =
    let first = front-no-sign n.integer_digits n.fraction (exponent_bytes n.exponent) t.digits t.some in
    let off = sign-off n.sign (n.integer_digits ++ (fraction_bytes n.fraction ++ exponent_bytes n.exponent)) first.0 first.1 in
    let rest = ap without_leading_sign t.is ∙ off.0 in
    let low = front-low n.integer_digits n.fraction (exponent_bytes n.exponent) t.digits t.some in
    let high = special-letter _ m (rw rest at h) in
    omega arith

pub special-parses : (text : List ℕ) (n : ℕ) → IsNanOrInfinityWord (without_leading_sign text) n
    → DenotesDecimal text (to_le_bytes w128 (sign_bit (starts_with_minus text) + n))
    × ((b : List ℕ) → DenotesDecimal text b → b ≡ to_le_bytes w128 (sign_bit (starts_with_minus text) + n))
special-parses text n h =
    let s = sign-of text in
    (special s.0 (without_leading_sign text) n s.1 h (ap (λ b. to_le_bytes w128 (sign_bit b + n)) s.2), only-word)
  where
    only-word : (b : List ℕ) → DenotesDecimal text b → b ≡ to_le_bytes w128 (sign_bit (starts_with_minus text) + n)
    only-word b (special s word m is w b-is) =
        let off = word-off s word m w in
        let rest : without_leading_sign text ≡ word = ap without_leading_sign is ∙ off.0 in
        let sign : starts_with_minus text ≡ is_minus s = ap starts_with_minus is ∙ off.1 in
        let same : m ≡ n = special-one word m n w (rw rest at h) in
        b-is ∙ rw (same, sign) refl
    only-word b (finite_text k c e t l near b-is) = absurd (no-word text k n t h)

pub finite-parses : (text : List ℕ) (r : ℕ × ℕ) → ((n : ℕ) → ¬ (IsNanOrInfinityWord (without_leading_sign text) n))
    → finite (without_leading_sign text) ≡ Ok r
    → DenotesDecimal text (to_le_bytes w128 (encoded_finite (starts_with_minus text) r.0 r.1))
    × ((b : List ℕ) → DenotesDecimal text b → b ≡ to_le_bytes w128 (encoded_finite (starts_with_minus text) r.0 r.1))
finite-parses text r plain is = (read text r (rw is at (reads-finite (without_leading_sign text))), only-pair)
  where
    only-pair : (b : List ℕ) → DenotesDecimal text b → b ≡ to_le_bytes w128 (encoded_finite (starts_with_minus text) r.0 r.1)
    only-pair b (special s word m w-is w b-is) =
        absurd (plain m (rw (ap without_leading_sign w-is ∙ (word-off s word m w).0) w))
    only-pair b (finite_text n c e t l near b-is) =
        let limits = within16-shifted n l in
        let same = only text r is n c e t limits (nearest-shifted n c e near) in
        let s = steps-on text n t limits in
        b-is ∙ rw (same.0, same.1, s.sign) refl

pub refused-parses : (text : List ℕ) (k : ParseError) → ((n : ℕ) → ¬ (IsNanOrInfinityWord (without_leading_sign text) n))
    → finite (without_leading_sign text) ≡ Err k → (b : List ℕ) → ¬ (DenotesDecimal text b)
refused-parses text k plain is b (special s word m w-is w b-is) =
    plain m (rw (ap without_leading_sign w-is ∙ (word-off s word m w).0) w)
refused-parses text k plain is b (finite_text n c e t l near b-is) =
    refused text k is n c e t (within16-shifted n l) (nearest-shifted n c e near).fits

pub finite-within : (text : List ℕ) (r : ℕ × ℕ) → finite text ≡ Ok r → (r.0 < 10 ^ 34) × (r.1 < 12288)
finite-within text r is =
    let h = rw is at (reads-finite text) in
    let fits = (h.fitted_is.nearest h.scaled 32768 refl).fits in
    (fits.coefficient, fits.exponent)
