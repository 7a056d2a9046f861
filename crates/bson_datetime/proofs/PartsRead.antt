-- The digits and letters that are read from the start of a string occur there.
use Rattle.std.proofs.Common.{◌≡◌, ℕ, ◌+◌, ◌-◌, ◌*◌, ◌/◌, ◌%◌, ◌<◌, ◌==◌, ◌&&◌, ◌||◌, nat_le, inl, inr, true, false}
use Rattle.std.proofs.Common.{Bool, List, [], ◌∷◌, ◌++◌, Option, Some, None, refl, ap, ◌∙◌, arith}
use Rattle.std.specs.Prelude.{if◌then◌else◌, unwrap_or}
use Rattle.std.proofs.lemmas.Bool.{and_parts}
use Rattle.std.proofs.lemmas.Bool.Decides.{nat_tests}
use Rattle.std.specs.Char.{IsAsciiDigit, is_ascii_digit}
use Rattle.bson_datetime.specs.Rfc3339Grammar.{IsLetterOfEitherCase}
use Rattle.bson_datetime.specs.Rfc3339Parser.{Parsed, ◌>>=◌, two_digits, four_digits, two_digits_below, after_byte, after_letter}
use Rattle.bson_datetime.specs.DateTimeText.{two_digit_text}

-- a value read from the front of a text, and the text after it
abbrev pub found : {A : Type 0} → A → List ℕ → Parsed A
found x rest = Some (x, rest)

pub un_some : {A : Type 0} (x y : A) → Some x ≡ Some y → x ≡ y
un_some x y h = ap (λ o. unwrap_or o x) h

pub some_none : {A : Type 0} (x : A) → ¬ (Some x ≡ None)
some_none x h = cc

-- the two steps of a reading that succeeds
pub un_then : {A B : Type 0} (o : Option A) (f : A → Option B) (y : B) → o >>= f ≡ Some y
    → (x : A) × (o ≡ Some x) × (f x ≡ Some y)
un_then None f y h = cc
un_then (Some x) f y h = (x, refl, h)

pub digit_of : (c : ℕ) → is_ascii_digit c ≡ true → IsAsciiDigit c
digit_of c e =
    let p = and_parts (nat_le 48 c) (nat_le c 57) e in
    (grind (arith, nat_tests, p.0), grind (arith, nat_tests, p.1))

pub digit_test : (c : ℕ) → IsAsciiDigit c → is_ascii_digit c ≡ true
digit_test c is = grind (arith, nat_tests, is.0, is.1)

-- ---- from what was read to the text

two_digits-test : (a b : ℕ) (s : List ℕ) (n : ℕ) (rest : List ℕ) (t : Bool) → (is_ascii_digit a && is_ascii_digit b) ≡ t
    → (if t then found ((a - 48) * 10 + (b - 48)) s else None) ≡ Some (n, rest)
    → (n < 100) × (a ∷ b ∷ s ≡ two_digit_text n ++ rest)
two_digits-test a b s n rest true e h =
    let p = and_parts (is_ascii_digit a) (is_ascii_digit b) e in
    let high = digit_of a p.0 in
    let low = digit_of b p.1 in
    let same = un_some _ _ h in
    let value : (a - 48) * 10 + (b - 48) ≡ n = ap (λ r. r.0) same in
    let first : 48 + n / 10 ≡ a = omega (arith, value, high.0, high.1, low.0, low.1) in
    let second : 48 + n % 10 ≡ b = omega (arith, value, high.0, high.1, low.0, low.1) in
    (omega (arith, value, high.0, high.1, low.0, low.1), rw (first, second) (ap (λ r. a ∷ b ∷ r.1) same))
two_digits-test a b s n rest false e h = cc

pub two_digits-read : (s : List ℕ) (r : ℕ × List ℕ) → two_digits s ≡ Some r
    → (r.0 < 100) × (s ≡ two_digit_text r.0 ++ r.1)
unfolding two_digits
two_digits-read [] r h = cc
two_digits-read (a ∷ []) r h = cc
two_digits-read (a ∷ b ∷ s) r h = two_digits-test a b s r.0 r.1 (is_ascii_digit a && is_ascii_digit b) refl h

-- two digits and then two more are four
four_digits-text : (a b n : ℕ) (s t u rest : List ℕ) → a < 100 → b < 100 → s ≡ two_digit_text a ++ t
    → t ≡ two_digit_text b ++ u → a * 100 + b ≡ n → u ≡ rest
    → (n < 10_000) × (s ≡ two_digit_text (n / 100) ++ two_digit_text (n % 100) ++ rest)
four_digits-text a b n s t u rest ha hb first second value same =
    let high : n / 100 ≡ a = omega arith in
    let low : n % 100 ≡ b = omega arith in (
      omega arith,
      rw (high, low)
          (first ∙ ap (λ q. two_digit_text a ++ q) (second ∙ ap (λ q. two_digit_text b ++ q) same)),
    )

pub four_digits-read : (s : List ℕ) (r : ℕ × List ℕ) → four_digits s ≡ Some r
    → (r.0 < 10_000) × (s ≡ two_digit_text (r.0 / 100) ++ two_digit_text (r.0 % 100) ++ r.1)
unfolding four_digits
four_digits-read s r h =
    let century = un_then (two_digits s) _ r h in
    let year = un_then (two_digits century.0.1) _ r century.2 in
    let same = un_some _ _ year.2 in
    let c = two_digits-read s century.0 century.1 in
    let y = two_digits-read century.0.1 year.0 year.1 in
    four_digits-text century.0.0 year.0.0 r.0 s century.0.1 year.0.1 r.1 c.0 y.0 c.1 y.1 (ap (λ q. q.0) same)
    (ap (λ q. q.1) same)

two_digits_below-test : (bound : ℕ) (x r : ℕ × List ℕ) (t : Bool) → nat_le bound x.0 ≡ t
    → (if t then None else Some x) ≡ Some r → (r.0 < bound) × (x ≡ r)
two_digits_below-test bound x r true e h = cc
two_digits_below-test bound x r false e h =
    let same = un_some x r h in
    let below : x.0 < bound = grind (arith, nat_tests, e) in
    (rw (← same) below, same)

pub digits_below-read : (bound : ℕ) (s : List ℕ) (r : ℕ × List ℕ) → two_digits_below bound s ≡ Some r
    → (r.0 < bound) × (s ≡ two_digit_text r.0 ++ r.1)
unfolding two_digits_below
digits_below-read bound s r h =
    let n = un_then (two_digits s) _ r h in
    let below = two_digits_below-test bound n.0 r (nat_le bound n.0.0) refl n.2 in
    (below.0, rw (← below.1) (two_digits-read s n.0 n.1).1)

after-test : (byte c : ℕ) (s rest : List ℕ) (t : Bool) → (c == byte) ≡ t → (if t then Some s else None) ≡ Some rest
    → c ∷ s ≡ byte ∷ rest
after-test byte c s rest true e h =
    let same : c ≡ byte = grind (arith, nat_tests, e) in
    rw same (ap (λ q. byte ∷ q) (un_some s rest h))
after-test byte c s rest false e h = cc

pub after-read : (byte : ℕ) (s rest : List ℕ) → after_byte byte s ≡ Some rest → s ≡ byte ∷ rest
unfolding after_byte
after-read byte [] rest h = cc
after-read byte (c ∷ s) rest h = after-test byte c s rest (c == byte) refl h

letter-test : (upper c : ℕ) (t : Bool) → (c == upper) ≡ t → (t || (c == upper + 32)) ≡ true → IsLetterOfEitherCase upper c
letter-test upper c true e h = inl (grind (arith, nat_tests, e))
letter-test upper c false e h = inr (grind (arith, nat_tests, h))

pub letter_of : (upper c : ℕ) → ((c == upper) || (c == upper + 32)) ≡ true → IsLetterOfEitherCase upper c
letter_of upper c e = letter-test upper c (c == upper) refl e

after_letter-test : (upper c : ℕ) (s rest : List ℕ) (t : Bool) → ((c == upper) || (c == upper + 32)) ≡ t
    → (if t then Some s else None) ≡ Some rest
    → IsLetterOfEitherCase upper c × (s ≡ rest)
after_letter-test upper c s rest true e h = (letter_of upper c e, un_some s rest h)
after_letter-test upper c s rest false e h = cc

pub after_letter-read : (upper : ℕ) (s rest : List ℕ) → after_letter upper s ≡ Some rest
    → (c : ℕ) × IsLetterOfEitherCase upper c × (s ≡ c ∷ rest)
unfolding after_letter
after_letter-read upper [] rest h = cc
after_letter-read upper (c ∷ s) rest h =
    let read = after_letter-test upper c s rest ((c == upper) || (c == upper + 32)) refl h in
    (c, read.0, ap (λ q. c ∷ q) read.1)
