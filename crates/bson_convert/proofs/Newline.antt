-- A newline after a text adds no token.
use Rattle.std.proofs.Common.{◌≡◌, ◌+◌, ◌-◌, ℕ, Bool, true, false, cond, ◌&&◌, ◌||◌, ◌==◌, nat_eq, List, [], ◌∷◌, ◌++◌, length, drop, Option, Some, None, option_map, option_and_then, refl, ap, ◌∙◌, arith}
use Rattle.std.proofs.lemmas.List.{drop-append-le, take-append-le, length-append}
use Rattle.std.proofs.lemmas.List.Sums.{prefix_len-le-length}
use Rattle.std.specs.Char.{is_ascii_digit, is_digit}
use Rattle.std.specs.List.{prefix_len, starts_with}
use Rattle.json.specs.Lex.{Lexeme, token, string_token, lex, lex_byte, Class, quote, backslash, operator, space, other, class, operator_lexeme, Mode, between, in_word, in_string, in_escape, fresh, punctuate, tokens}
use Rattle.json.specs.Text.{Within, plain, after_backslash, after_u, after_high, content, code_unit, short_escape}
use Rattle.json.specs.Token.{bad}
use Rattle.json.specs.Word.{ends_word, after_digits, after_minus, after_sign, after_whole, after_fraction, after_exponent, after_number, number_before, word}
use Rattle.json.specs.Ascii as ascii
use Rattle.bson_convert.specs.Convert.{newline}
use Rattle.serde_json.specs.Read.{of_json, max_depth, read}
use Rattle.json.specs.Json.{if_last, value}

-- ---- words

abbrev longer : Option (List ℕ) → Option (List ℕ)
longer o = option_map (λ s. s ++ newline) o

bound : (f : List ℕ → Option (List ℕ)) → ((s : List ℕ) → f (s ++ newline) ≡ longer (f s)) → (o : Option (List ℕ))
    → option_and_then f (longer o) ≡ longer (option_and_then f o)
bound f is None = refl
bound f is (Some s) = is s

chosen : {A B : Type 0} (f : A → B) (b : Bool) (x y : A) → cond b (f x) (f y) ≡ f (cond b x y)
chosen f true x y = refl
chosen f false x y = refl

digits_then : (t : List ℕ) → prefix_len is_ascii_digit (t ++ newline) ≡ prefix_len is_ascii_digit t
digits_then [] = refl
digits_then (x ∷ t) = ap (λ n. cond (is_ascii_digit x) (1 + n) 0) (digits_then t)

past_digits : (t : List ℕ) → after_digits (t ++ newline) ≡ longer (after_digits t)
past_digits t =
    let n = prefix_len is_ascii_digit t in
    rw (digits_then t, drop-append-le n t newline (prefix_len-le-length is_ascii_digit t))
    (chosen longer (n == 0) None (Some (drop n t)))

past_minus : (t : List ℕ) → after_minus (t ++ newline) ≡ after_minus t ++ newline
past_minus [] = refl
past_minus (x ∷ t) = chosen (λ s. s ++ newline) (x == 45) t (x ∷ t)

past_sign : (t : List ℕ) → after_sign (t ++ newline) ≡ after_sign t ++ newline
past_sign [] = refl
past_sign (x ∷ t) = chosen (λ s. s ++ newline) _ t (x ∷ t)

past_whole : (t : List ℕ) → after_whole (t ++ newline) ≡ longer (after_whole t)
past_whole [] = refl
past_whole (x ∷ t) =
    ap (cond (x == 48) (Some (t ++ newline))) (past_digits (x ∷ t))
    ∙ chosen longer (x == 48) (Some t) (after_digits (x ∷ t))

past_fraction : (t : List ℕ) → after_fraction (t ++ newline) ≡ longer (after_fraction t)
past_fraction [] = refl
past_fraction (x ∷ t) =
    ap (λ o. cond (x == 46) o (Some (x ∷ t ++ newline))) (past_digits t)
    ∙ chosen longer (x == 46) (after_digits t) (Some (x ∷ t))

past_exponent : (t : List ℕ) → after_exponent (t ++ newline) ≡ longer (after_exponent t)
past_exponent [] = refl
past_exponent (x ∷ t) =
    let either = (x == 101) || (x == 69) in
    ap (λ o. cond either o (Some (x ∷ t ++ newline))) (ap after_digits (past_sign t) ∙ past_digits (after_sign t))
    ∙ chosen longer either (after_digits (after_sign t)) (Some (x ∷ t))

past_number : (t : List ℕ) → after_number (t ++ newline) ≡ longer (after_number t)
unfolding after_number
past_number t =
    let whole = after_whole (after_minus t) in
    ap (λ o. option_and_then after_exponent (option_and_then after_fraction o))
    (ap after_whole (past_minus t) ∙ past_whole (after_minus t))
    ∙ ap (option_and_then after_exponent) (bound after_fraction past_fraction whole)
    ∙ bound after_exponent past_exponent (option_and_then after_fraction whole)

word_ends : (r : List ℕ) → ends_word (r ++ newline) ≡ ends_word r
word_ends [] = refl
word_ends (x ∷ r) = refl

number_then : (t : List ℕ) (o : Option (List ℕ)) → number_before (t ++ newline) (longer o) ≡ number_before t o
number_then t None = refl
number_then t (Some rest) =
    let n = length t - length rest in
    let same : length (t ++ newline) - length (rest ++ newline) ≡ n = omega (arith, length-append t newline, length-append rest newline) in
    rw (word_ends rest, same, take-append-le n t newline (omega arith)) refl

abbrev HasNone : List ℕ → Type 0
HasNone [] = Unit {0}
HasNone (n ∷ name) = (nat_eq n 10 ≡ false) × HasNone name

abbrev spells : List ℕ → List ℕ → Bool
spells name t = starts_with nat_eq t name && ends_word (drop (length name) t)

one_more : (b p e q f : Bool) → p && e ≡ q && f → (b && p) && e ≡ (b && q) && f
one_more true p e q f h = h
one_more false p e q f h = refl

spells_then : (name t : List ℕ) → HasNone name → spells name (t ++ newline) ≡ spells name t
spells_then [] t h = word_ends t
spells_then (n ∷ name) [] h = rw h.0 refl
spells_then (n ∷ name) (x ∷ t) h = one_more (nat_eq n x) _ _ _ _ (spells_then name t h.1)

word_then : (x : ℕ) (t : List ℕ) → word (x ∷ t ++ newline) ≡ word (x ∷ t)
unfolding word
word_then x t =
    rw (
      spells_then ascii.true_text (x ∷ t) (refl, (refl, (refl, (refl, tt)))),
      spells_then ascii.false_text (x ∷ t) (refl, (refl, (refl, (refl, (refl, tt))))),
      spells_then ascii.null_text (x ∷ t) (refl, (refl, (refl, (refl, tt)))),
      past_number (x ∷ t),
      number_then (x ∷ t) (after_number (x ∷ t)),
    ) refl

-- ---- strings

no_unit : (p q r : Bool) (unit : ℕ) → cond (p && q && r && false) (Some unit) None ≡ None
no_unit true true true unit = refl
no_unit true true false unit = refl
no_unit true false r unit = refl
no_unit false q r unit = refl

-- a newline is no digit
short_unit : (a b c : ℕ) → code_unit a b c 10 ≡ None
unfolding code_unit
short_unit a b c = no_unit (is_digit a 16) (is_digit b 16) (is_digit c 16) _

no_pair : (b : Bool) (r : Option (List ℕ)) → r ≡ None → cond b r None ≡ None
no_pair true r none = none
no_pair false r none = refl

each_unit : {A : Type 0} (f g : ℕ → Option A) → ((u : ℕ) → f u ≡ g u) → (o : Option ℕ)
    → option_and_then f o ≡ option_and_then g o
each_unit f g is None = refl
each_unit f g is (Some u) = is u

content_then : (w : Within) (xs : List ℕ) → content w (xs ++ newline) ≡ content w xs
unfolding content short_escape
content_then plain [] = refl
content_then plain (x ∷ xs) = rw (content_then after_backslash xs, content_then plain xs) refl
content_then after_backslash [] = refl
content_then after_backslash (x ∷ xs) = rw (content_then after_u xs, content_then plain xs) refl
content_then after_u [] = refl
content_then after_u (a ∷ []) = refl
content_then after_u (a ∷ b ∷ []) = refl
content_then after_u (a ∷ b ∷ c ∷ []) = rw (short_unit a b c) refl
content_then after_u (a ∷ b ∷ c ∷ d ∷ xs) =
    each_unit _ _ (λ u. rw (content_then (after_high u) xs, content_then plain xs) refl) (code_unit a b c d)
content_then (after_high h) [] = refl
content_then (after_high h) (s ∷ []) = refl
content_then (after_high h) (s ∷ u ∷ []) = refl
content_then (after_high h) (s ∷ u ∷ a ∷ []) = refl
content_then (after_high h) (s ∷ u ∷ a ∷ b ∷ []) = refl
content_then (after_high h) (s ∷ u ∷ a ∷ b ∷ c ∷ []) = rw (short_unit a b c) (no_pair _ _ refl)
content_then (after_high h) (s ∷ u ∷ a ∷ b ∷ c ∷ d ∷ xs) = rw (content_then plain xs) refl

-- ---- texts

byte_then : (m : Mode) (c : Class) (x : ℕ) (xs : List ℕ) (k l : Mode → List Lexeme) → ((n : Mode) → k n ≡ l n)
    → lex_byte m c x (xs ++ newline) k ≡ lex_byte m c x xs l
byte_then between quote x xs k l is = rw (content_then plain xs) (ap (λ ls. token (string_token (content plain xs)) ∷ ls) (is in_string))
byte_then between backslash x xs k l is = ap (λ ls. token bad ∷ ls) (is in_word)
byte_then between operator x xs k l is = ap (λ ls. operator_lexeme x ∷ ls) (is between)
byte_then between space x xs k l is = is between
byte_then between other x xs k l is = rw (word_then x xs) (ap (λ ls. token (word (x ∷ xs)) ∷ ls) (is in_word))
byte_then in_word quote x xs k l is = is in_word
byte_then in_word backslash x xs k l is = is in_word
byte_then in_word operator x xs k l is = ap (λ ls. operator_lexeme x ∷ ls) (is between)
byte_then in_word space x xs k l is = is between
byte_then in_word other x xs k l is = is in_word
byte_then in_string quote x xs k l is = is between
byte_then in_string backslash x xs k l is = is in_escape
byte_then in_string operator x xs k l is = is in_string
byte_then in_string space x xs k l is = is in_string
byte_then in_string other x xs k l is = is in_string
byte_then in_escape c x xs k l is = is in_string

lexemes_then : (m : Mode) (xs : List ℕ) → lex m (xs ++ newline) ≡ lex m xs
unfolding lex
lexemes_then between [] = refl
lexemes_then in_word [] = refl
lexemes_then in_string [] = refl
lexemes_then in_escape [] = refl
lexemes_then m (x ∷ xs) =
    byte_then m (class x) x xs (λ n. lex n (xs ++ newline)) (λ n. lex n xs) (λ n. lexemes_then n xs)

pub tokens_then : (text : List ℕ) → tokens (text ++ newline) ≡ tokens text
tokens_then text = ap (punctuate fresh) (lexemes_then between text)

pub read_then : (text : List ℕ) → read (text ++ newline) ≡ read text
read_then text = ap (λ ts. option_and_then of_json (option_and_then (λ p. if_last p.0 p.1) (value max_depth ts))) (tokens_then text)
