-- From the reader to the grammar: what is at the front of a text that is lexed.
use Rattle.std.proofs.Common.{◌≡◌, ℕ, suc, ◌+◌, ◌-◌, true, false, ◌&&◌, ◌==◌, nat_eq, List, [], ◌∷◌, ◌++◌, length, take, drop, Option, Some, None, refl, sym, ap, ◌∙◌, subst, append_assoc, arith, inl, inr, ◌⊎◌, ⊎_elim, length-append}
use Rattle.std.proofs.lemmas.Bool.{cond_both, cases_eq, ne_eqb, and_parts}
use Rattle.std.proofs.lemmas.List.{take-append-drop}
use Rattle.std.specs.Cmp.Lexicographic.{same_text}
use Rattle.std.specs.List.{starts_with}
use Rattle.json.specs.Lex.{Lexeme, token, comma, colon, operator, other, class, lex_byte, lex, between, in_word, in_string, string_token, operator_lexeme}
use Rattle.json.specs.Text.{content, plain}
use Rattle.json.specs.Token.{Token}
use Rattle.json.specs.Word.{head, ends_word, word, literal, number_before, after_number}
use Rattle.json.proofs.Printed.Numbers.{lex-number}
use Rattle.bson_json.specs.Grammar.{IsWs, no_ws, IsNumber, IsString, string, AreChars}
use Rattle.bson_json.specs.Grammar as grammar
use Rattle.bson_json.proofs.Forward.{lex-true, lex-false, lex-null}
use Rattle.bson_json.proofs.Lexing.{lex-operator}
use Rattle.bson_json.proofs.Numbers.{Passed, is_read, number_passed}
use Rattle.bson_json.proofs.Strings.{lex-string}
use Rattle.bson_json.proofs.Unescaped.{Found, string_found}

-- ---- the first byte

data Kind : ℕ → Type 0 where
  at_quote : Kind 34
  at_backslash : Kind 92
  at_open_brace : Kind 123
  at_close_brace : Kind 125
  at_open_bracket : Kind 91
  at_close_bracket : Kind 93
  at_colon : Kind 58
  at_comma : Kind 44
  at_space : Kind 32
  at_tab : Kind 9
  at_line_feed : Kind 10
  at_return : Kind 13
  at_other : (x : ℕ) → class x ≡ other → Kind x

one : (x y : ℕ) → Kind y → ((x ≡ y → ⊥) → Kind x) → Kind x
one x y k f = ⊎_elim (λ e. subst Kind (sym e) k) f (cases_eq x y)

kind : (x : ℕ) → Kind x
kind x =
    one x 34 at_quote (λ a. one x 92 at_backslash (λ b. one x 123 at_open_brace (λ c. one x 125 at_close_brace (λ d. one x 91 at_open_bracket (λ e. one x 93 at_close_bracket (λ f.
    one x 58 at_colon (λ g. one x 44 at_comma (λ h. one x 32 at_space (λ i. one x 9 at_tab (λ j. one x 10 at_line_feed (λ k. one x 13 at_return (λ l.
    at_other x (rw (ne_eqb x 34 a, ne_eqb x 92 b, ne_eqb x 123 c, ne_eqb x 125 d, ne_eqb x 91 e, ne_eqb x 93 f, ne_eqb x 58 g, ne_eqb x 44 h, ne_eqb x 32 i, ne_eqb x 9 j, ne_eqb x 10 k, ne_eqb x 13 l) refl)))))))))))))

-- ---- the first lexeme

-- the bytes that are the lexeme
abbrev pub IsLexeme : Lexeme → List ℕ → Type 0
IsLexeme comma t = t ≡ 0x2C ∷ []
IsLexeme colon t = t ≡ 0x3A ∷ []
IsLexeme (token Token.begin_object) t = t ≡ 0x7B ∷ []
IsLexeme (token Token.end_object) t = t ≡ 0x7D ∷ []
IsLexeme (token Token.begin_array) t = t ≡ 0x5B ∷ []
IsLexeme (token Token.end_array) t = t ≡ 0x5D ∷ []
IsLexeme (token (Token.key s)) t = ⊥
IsLexeme (token (Token.string s)) t = IsString t s
IsLexeme (token (Token.number s)) t = (t ≡ s) × IsNumber s
IsLexeme (token (Token.boolean true)) t = t ≡ 116 ∷ 114 ∷ 117 ∷ 101 ∷ []
IsLexeme (token (Token.boolean false)) t = t ≡ 102 ∷ 97 ∷ 108 ∷ 115 ∷ 101 ∷ []
IsLexeme (token Token.null) t = t ≡ 110 ∷ 117 ∷ 108 ∷ 108 ∷ []
IsLexeme (token Token.bad) t = ⊥

-- what is lexed of a text: nothing, a lexeme and then what follows it, or a fault
pub data Front : List ℕ → Type 0 where
  blank : {t : List ℕ} → IsWs t → lex between t ≡ [] → Front t
  lexeme : {t : List ℕ} (w b r : List ℕ) (l : Lexeme) → t ≡ w ++ (b ++ r) → IsWs w → IsLexeme l b → lex between t ≡ l ∷ lex between r → Front t
  fault : {t : List ℕ} (ls : List Lexeme) → lex between t ≡ token Token.bad ∷ ls → Front t

-- a byte of white space before it
later : (x : ℕ) (xs : List ℕ) → ((w : List ℕ) → IsWs w → IsWs (x ∷ w)) → lex between (x ∷ xs) ≡ lex between xs → Front xs → Front (x ∷ xs)
later x xs f e (blank h k) = blank (f xs h) (e ∙ k)
later x xs f e (lexeme w b r l s h k m) = lexeme (x ∷ w) b r l (ap (λ z. x ∷ z) s) (f w h) k (e ∙ m)
later x xs f e (fault ls k) = fault ls (e ∙ k)

at_string : (xs : List ℕ) (o : Option (List ℕ)) → content plain xs ≡ o → Found AreChars xs o → Front (0x22 ∷ xs)
unfolding lex
at_string xs None e h = fault (lex in_string xs) (ap (λ o. token (string_token o) ∷ lex in_string xs) e)
at_string xs (Some s) e (t, r, split, h) =
    let quoted = 0x22 ∷ (t ++ 0x22 ∷ []) in
    let whole : 0x22 ∷ xs ≡ quoted ++ r = ap (λ l. 0x22 ∷ l) (split ∙ sym (append_assoc t (0x22 ∷ []) r)) in
    lexeme [] quoted r (token (Token.string s)) whole no_ws (string h) (ap (lex between) whole ∙ lex-string r (string h))

-- ---- words

-- a word is bad, or it is one of the grammar
abbrev Word : List ℕ → Token → Type 0
Word t k = (k ≡ Token.bad) ⊎ ((b : List ℕ) × (r : List ℕ) × (t ≡ b ++ r) × IsLexeme (token k) b × (lex between t ≡ token k ∷ lex between r))

split_name : (name t : List ℕ) → starts_with nat_eq t name ≡ true → t ≡ name ++ drop (length name) t
split_name name t e = sym (take-append-drop (length name) t) ∙ ap (λ l. l ++ drop (length name) t) (sym (same_text name (take (length name) t) (sym e)))

a_literal : (name t : List ℕ) (k : Token) → IsLexeme (token k) name → ((r : List ℕ) → ends_word r ≡ true → lex between (name ++ r) ≡ token k ∷ lex between r) → Word t (literal name k t)
a_literal name t k is f =
    let r = drop (length name) t in
    cond_both (starts_with nat_eq t name && ends_word r) k Token.bad (Word t)
    (λ e. let p = and_parts _ _ e in inr (name, r, split_name name t p.0, is, ap (lex between) (split_name name t p.0) ∙ f r p.1)) (λ e. inl refl)

take-front : (s r : List ℕ) → take (length (s ++ r) - length r) (s ++ r) ≡ s
take-front s r =
    let n : length (s ++ r) - length r ≡ length s + 0 = omega (arith, length-append s r) in
    ap (λ k. take k (s ++ r)) n ∙ front s
  where
    front : (s : List ℕ) → take (length s + 0) (s ++ r) ≡ s
    front [] = refl
    front (x ∷ s) = let n : suc (length s) + 0 ≡ suc (length s + 0) = omega arith in ap (λ k. take k (x ∷ (s ++ r))) n ∙ ap (λ l. x ∷ l) (front s)

a_number : (t : List ℕ) (o : Option (List ℕ)) → Passed IsNumber t o → Word t (number_before t o)
a_number t None h = inl refl
a_number t (Some r) (s, e, h) =
    cond_both (ends_word r) (Token.number (take (length t - length r) t)) Token.bad (Word t)
    (λ ended.
    let same : take (length t - length r) t ≡ s = ap (λ l. take (length l - length r) l) e ∙ take-front s r in
    subst (λ n. Word t (Token.number n)) (sym same) (inr (s, r, e, (refl, h), ap (lex between) e ∙ lex-number s r (is_read h) ended)))
    (λ e. inl refl)

a_word : (t : List ℕ) → Word t (word t)
unfolding word
a_word t =
    cond_both (head t == 116) _ _ (Word t) (λ e. a_literal (116 ∷ 114 ∷ 117 ∷ 101 ∷ []) t (Token.boolean true) refl lex-true) (λ e1.
    cond_both (head t == 102) _ _ (Word t) (λ e. a_literal (102 ∷ 97 ∷ 108 ∷ 115 ∷ 101 ∷ []) t (Token.boolean false) refl lex-false) (λ e2.
    cond_both (head t == 110) _ _ (Word t) (λ e. a_literal (110 ∷ 117 ∷ 108 ∷ 108 ∷ []) t Token.null refl lex-null) (λ e3. a_number t (after_number t) (number_passed t))))

at_word : (x : ℕ) (xs : List ℕ) → class x ≡ other → (k : Token) → k ≡ word (x ∷ xs) → Word (x ∷ xs) k → Front (x ∷ xs)
unfolding lex
at_word x xs e k is (inl bad) = fault (lex in_word xs) (ap (λ c. lex_byte between c x xs (λ m. lex m xs)) e ∙ ap (λ z. token z ∷ lex in_word xs) (sym is ∙ bad))
at_word x xs e k is (inr (b, r, split, h, m)) = lexeme [] b r (token k) split no_ws h m

-- ---- a text

at_mark : (x : ℕ) (xs : List ℕ) → class x ≡ operator → IsLexeme (operator_lexeme x) (x ∷ []) → Front (x ∷ xs)
at_mark x xs e is = lexeme [] (x ∷ []) xs (operator_lexeme x) refl no_ws is (lex-operator x xs e)

at_byte : (x : ℕ) (xs : List ℕ) → Kind x → Front xs → Front (x ∷ xs)
unfolding lex
at_byte x xs at_quote f = at_string xs (content plain xs) refl (string_found xs)
at_byte x xs at_backslash f = fault (lex in_word xs) refl
at_byte x xs at_open_brace f = at_mark 123 xs refl refl
at_byte x xs at_close_brace f = at_mark 125 xs refl refl
at_byte x xs at_open_bracket f = at_mark 91 xs refl refl
at_byte x xs at_close_bracket f = at_mark 93 xs refl refl
at_byte x xs at_colon f = at_mark 58 xs refl refl
at_byte x xs at_comma f = at_mark 44 xs refl refl
at_byte x xs at_space f = later 32 xs (λ w. grammar.space) refl f
at_byte x xs at_tab f = later 9 xs (λ w. grammar.tab) refl f
at_byte x xs at_line_feed f = later 10 xs (λ w. grammar.line_feed) refl f
at_byte x xs at_return f = later 13 xs (λ w. grammar.carriage_return) refl f
at_byte x xs (at_other y e) f = at_word y xs e (word (y ∷ xs)) refl (a_word (y ∷ xs))

pub front : (t : List ℕ) → Front t
unfolding lex
front [] = blank no_ws refl
front (x ∷ xs) = at_byte x xs (kind x) (front xs)
