-- Strings: what is read and passed over of each character, and the character that was read.
use Rattle.std.proofs.Common.{◌≡◌, ℕ, ◌+◌, ◌*◌, ◌<◌, Bool, true, false, cond, ◌&&◌, ◌==◌, nat_lt, List, [], ◌∷◌, ◌++◌, Option, Some, None, option_and_then, refl, ap, ap₂, ◌∙◌, append_assoc, arith, ◌≢◌}
use Rattle.std.proofs.lemmas.Bool.{cond_both, eqb-true, ne_eqb, le-ltb, and_from, lt-ltb, le-leb, false_from_ne_true, and_parts, ltb-true, leb-true}
use Rattle.std.specs.Char.{is_digit, digit_value, encode_utf8}
use Rattle.json.specs.Text.{content, plain, after_u, after_high, prepend, code_unit, short_escape, is_high_surrogate, is_low_surrogate, surrogate_pair}
use Rattle.json.specs.Word.{is_operator, is_space}
use Rattle.json.specs.Lex.{Class, quote, backslash, operator, space, other, lex, lex_byte, between, in_string, token, string_token}
use Rattle.json.specs.Token.{Token}
use Rattle.bson_json.specs.Grammar.{IsHex, hex_digit, hex_upper, hex_lower, IsCode, code, IsHighSurrogate, IsLowSurrogate}
use Rattle.bson_json.specs.Grammar.{IsChar, unescaped, quotation_mark, reverse_solidus, solidus, escaped_b, escaped_f, escaped_n, escaped_r, escaped_t, escaped_u, surrogates}
use Rattle.bson_json.specs.Grammar.{AreChars, no_chars, char, IsString, string}

-- ---- digits

pub hex_value : {x n : ℕ} → IsHex x n → digit_value x ≡ n
hex_value (hex_digit h) = grind arith
hex_value (hex_upper h) = grind arith
hex_value (hex_lower h) = grind arith

hex_bound : {x n : ℕ} → IsHex x n → n < 16
hex_bound (hex_digit h) = omega arith
hex_bound (hex_upper h) = omega arith
hex_bound (hex_lower h) = omega arith

hex_is_digit : {x n : ℕ} → IsHex x n → is_digit x 16 ≡ true
hex_is_digit {x = x} {n = n} h = ap (λ v. nat_lt v 16) (hex_value h) ∙ lt-ltb n 16 (hex_bound h)

abbrev code_from : (a b c d : Bool) (w x y z : ℕ) → Option ℕ
code_from a b c d w x y z = cond (a && b && c && d) (Some (w * 4096 + x * 256 + y * 16 + z)) None

code_unit-code : {a b c d w x y z : ℕ} → IsHex a w → IsHex b x → IsHex c y → IsHex d z → code_unit a b c d ≡ Some (w * 4096 + x * 256 + y * 16 + z)
unfolding code_unit
code_unit-code {a = a} {b = b} {c = c} {d = d} {w = w} {x = x} {y = y} {z = z} h i j k =
    (λ t. code_from (hex_is_digit h t) (hex_is_digit i t) (hex_is_digit j t) (hex_is_digit k t) (hex_value h t) (hex_value i t) (hex_value j t) (hex_value k t))

-- ---- a character

-- a byte of this class leaves the lexer in the string
abbrev Stays : ℕ → List ℕ → Class → Type 0
Stays x r k = lex_byte in_string k x r (λ m. lex m r) ≡ lex in_string r

pub unescaped_stays : (x : ℕ) (r : List ℕ) → x ≢ 0x22 → x ≢ 0x5C → lex in_string (x ∷ r) ≡ lex in_string r
unfolding lex
unescaped_stays x r q b =
    cond_both (x == 34) quote _ (Stays x r) (λ e. absurd (q (eqb-true x 34 e))) (λ e.
    cond_both (x == 92) backslash _ (Stays x r) (λ f. absurd (b (eqb-true x 92 f))) (λ f.
    cond_both (is_operator x) operator _ (Stays x r) (λ g. refl) (λ g. cond_both (is_space x) space other (Stays x r) (λ h. refl) (λ h. refl))))

hex_stays : {x n : ℕ} (r : List ℕ) → IsHex x n → lex in_string (x ∷ r) ≡ lex in_string r
hex_stays r (hex_digit {digit_value = n} h) = unescaped_stays (48 + n) r (λ e. omega arith) (λ e. omega arith)
hex_stays r (hex_upper {digit_value = n} h) = unescaped_stays (65 + n) r (λ e. omega arith) (λ e. omega arith)
hex_stays r (hex_lower {digit_value = n} h) = unescaped_stays (97 + n) r (λ e. omega arith) (λ e. omega arith)

code_stays : {t : List ℕ} {u : ℕ} (r : List ℕ) → IsCode t u → lex in_string (t ++ r) ≡ lex in_string r
code_stays r (code h i j k) = hex_stays _ h ∙ hex_stays _ i ∙ hex_stays _ j ∙ hex_stays r k

lex-escape_u : (r : List ℕ) → lex in_string (0x5C ∷ 0x75 ∷ r) ≡ lex in_string r
unfolding lex
lex-escape_u r = refl

high_is : {u : ℕ} → IsHighSurrogate u → is_high_surrogate u ≡ true
high_is {u = u} h = and_from _ _ (le-leb 0xd800 u h.0) (lt-ltb u 0xdc00 h.1)

low_is : {u : ℕ} → IsLowSurrogate u → is_low_surrogate u ≡ true
low_is {u = u} h = and_from _ _ (le-leb 0xdc00 u h.0) (lt-ltb u 0xe000 h.1)

pub not_high : (u : ℕ) → ¬ (IsHighSurrogate u) → is_high_surrogate u ≡ false
not_high u h = false_from_ne_true _ (λ e. let p = and_parts _ _ e in h (leb-true 0xd800 u p.0, ltb-true u 0xdc00 p.1))

pub not_low : (u : ℕ) → ¬ (IsLowSurrogate u) → is_low_surrogate u ≡ false
not_low u h = false_from_ne_true _ (λ e. let p = and_parts _ _ e in h (leb-true 0xdc00 u p.0, ltb-true u 0xe000 p.1))

-- the reader has the bytes that the character spells, and the lexer passes over it
record Passes (t s : List ℕ) : Type 0 where
  read : (r : List ℕ) → content plain (t ++ r) ≡ prepend s (content plain r)
  lexed : (r : List ℕ) → lex in_string (t ++ r) ≡ lex in_string r

content-escape_u : (t r : List ℕ) → content plain (0x5C ∷ 0x75 ∷ (t ++ r)) ≡ content after_u (t ++ r)
unfolding content
content-escape_u t r = refl

content-code : {t : List ℕ} {u : ℕ} (r : List ℕ) → IsCode t u
    → content after_u (t ++ r) ≡ cond (is_high_surrogate u) (content (after_high u) r) (cond (is_low_surrogate u) None (prepend (encode_utf8 u) (content plain r)))
unfolding content
content-code r (code h i j k) =
    ap (option_and_then (λ u. cond (is_high_surrogate u) (content (after_high u) r) (cond (is_low_surrogate u) None (prepend (encode_utf8 u) (content plain r))))) (code_unit-code h i j k)

content-low : {t : List ℕ} {v : ℕ} (u : ℕ) (r : List ℕ) → IsCode t v
    → content (after_high u) (0x5C ∷ 0x75 ∷ (t ++ r)) ≡ cond (is_low_surrogate v) (prepend (encode_utf8 (surrogate_pair u v)) (content plain r)) None
unfolding content
content-low u r (code h i j k) =
    ap (option_and_then (λ l. cond (is_low_surrogate l) (prepend (encode_utf8 (surrogate_pair u l)) (content plain r)) None)) (code_unit-code h i j k)

passes : {t s : List ℕ} → IsChar t s → Passes t s
unfolding content lex short_escape
passes (unescaped {byte = x} (l, q, b)) = record { read = λ r. rw (ne_eqb x 34 q, ne_eqb x 92 b, le-ltb x 32 l) refl; lexed = λ r. unescaped_stays x r q b }
passes quotation_mark = record { read = λ r. refl; lexed = λ r. refl }
passes reverse_solidus = record { read = λ r. refl; lexed = λ r. refl }
passes solidus = record { read = λ r. refl; lexed = λ r. refl }
passes escaped_b = record { read = λ r. refl; lexed = λ r. refl }
passes escaped_f = record { read = λ r. refl; lexed = λ r. refl }
passes escaped_n = record { read = λ r. refl; lexed = λ r. refl }
passes escaped_r = record { read = λ r. refl; lexed = λ r. refl }
passes escaped_t = record { read = λ r. refl; lexed = λ r. refl }
passes (escaped_u {hex_digits = t} {code_unit = u} h high low) = record {
  read = λ r. content-escape_u t r ∙ content-code r h
      ∙ (λ i. cond (not_high u high i) (content (after_high u) r) (cond (not_low u low i) None (prepend (encode_utf8 u) (content plain r))));
  lexed = λ r. lex-escape_u (t ++ r) ∙ code_stays r h;
}
passes (surrogates {high_hex = t} {low_hex = l} {high_unit = u} {low_unit = v} h high k low) = record {
  read = λ r.
      let next = 0x5C ∷ 0x75 ∷ (l ++ r) in
      ap (λ z. content plain (0x5C ∷ 0x75 ∷ z)) (append_assoc t (0x5C ∷ 0x75 ∷ l) r) ∙ content-escape_u t next ∙ content-code next h
      ∙ ap (λ b. cond b (content (after_high u) next) (cond (is_low_surrogate u) None (prepend (encode_utf8 u) (content plain next)))) (high_is high)
      ∙ content-low u r k ∙ ap (λ b. cond b (prepend (encode_utf8 (surrogate_pair u v)) (content plain r)) None) (low_is low);
  lexed = λ r.
      let next = 0x5C ∷ 0x75 ∷ (l ++ r) in
      ap (λ z. lex in_string (0x5C ∷ 0x75 ∷ z)) (append_assoc t (0x5C ∷ 0x75 ∷ l) r) ∙ lex-escape_u (t ++ next) ∙ code_stays next h
      ∙ lex-escape_u (l ++ r) ∙ code_stays r k;
}

pub content-chars : {t s : List ℕ} (r : List ℕ) → AreChars t s → content plain (t ++ 0x22 ∷ r) ≡ Some s
unfolding content
content-chars r no_chars = refl
content-chars r (char {char_text = c} {later_text = t} {char_bytes = s} h k) =
    ap (content plain) (append_assoc c t (0x22 ∷ r)) ∙ (passes h).read (t ++ 0x22 ∷ r) ∙ ap (prepend s) (content-chars r k)

lex-chars : {t s : List ℕ} (r : List ℕ) → AreChars t s → lex in_string (t ++ 0x22 ∷ r) ≡ lex between r
unfolding lex
lex-chars r no_chars = refl
lex-chars r (char {char_text = c} {later_text = t} h k) = ap (lex in_string) (append_assoc c t (0x22 ∷ r)) ∙ (passes h).lexed (t ++ 0x22 ∷ r) ∙ lex-chars r k

pub lex-string : {t s : List ℕ} (r : List ℕ) → IsString t s → lex between (t ++ r) ≡ token (Token.string s) ∷ lex between r
unfolding lex
lex-string r (string {chars_text = t} h) =
    ap (λ l. lex between (0x22 ∷ l)) (append_assoc t (0x22 ∷ []) r) ∙ ap₂ (λ o l. token (string_token o) ∷ l) (content-chars r h) (lex-chars r h)
