-- From the reader to the grammar: the first token of a text, and what its bytes are.
use Rattle.std.proofs.Common.{◌≡◌, ℕ, Bool, true, false, List, [], ◌∷◌, ◌++◌, refl, sym, ap, ◌∙◌, subst, append_assoc}
use Rattle.std.proofs.lemmas.Bool.{false≢true}
use Rattle.json.specs.Json.{Json}
use Rattle.json.specs.Json as json
use Rattle.json.specs.Lex.{Lexeme, token, comma, colon, lex, between, begins_colon, Place, fresh, after_value, after_comma, after_key, may_begin, place_token, punctuate}
use Rattle.json.specs.Token.{Token}
use Rattle.json.specs.Tree.{json_tokens}
use Rattle.bson_json.specs.Grammar.{IsWs, IsString}
use Rattle.bson_json.proofs.Lexemes.{IsLexeme, Front, blank, lexeme, fault, front}

-- white space and then bytes that are P come before a rest, of which the tokens are read from a place on
pub record Read (P : List ℕ → Type 0) (t : List ℕ) (ts : List Token) (next : Place) : Type 0 where
  pub white : List ℕ
  pub body : List ℕ
  pub rest : List ℕ
  pub split : t ≡ white ++ (body ++ rest)
  pub is_white : IsWs white
  pub is : P body
  pub left : ts ≡ punctuate next (lex between rest)

pub seen_as : (P Q : List ℕ → Type 0) (t : List ℕ) (ts : List Token) (n : Place) → ((b : List ℕ) → P b → Q b) → Read P t ts n → Read Q t ts n
seen_as P Q t ts n f r = record { white = r.white; body = r.body; rest = r.rest; split = r.split; is_white = r.is_white; is = f r.body r.is; left = r.left }

-- a string and a colon, with the white space between
pub record IsKey (s b : List ℕ) : Type 0 where
  pub name : List ℕ
  pub gap : List ℕ
  pub parts : b ≡ name ++ (gap ++ 0x3A ∷ [])
  pub is_name : IsString name s
  pub is_gap : IsWs gap

-- ---- where a value or a key may begin

abbrev pub First : List ℕ → List Token → Type 0
First t [] = Unit {0}
First t (Token.begin_object ∷ ts) = Read (IsLexeme (token Token.begin_object)) t ts fresh
First t (Token.end_object ∷ ts) = Read (IsLexeme (token Token.end_object)) t ts after_value
First t (Token.begin_array ∷ ts) = Read (IsLexeme (token Token.begin_array)) t ts fresh
First t (Token.end_array ∷ ts) = Read (IsLexeme (token Token.end_array)) t ts after_value
First t (Token.key s ∷ ts) = Read (IsKey s) t ts fresh
First t (Token.string s ∷ ts) = Read (IsLexeme (token (Token.string s))) t ts after_value
First t (Token.number s ∷ ts) = Read (IsLexeme (token (Token.number s))) t ts after_value
First t (Token.boolean b ∷ ts) = Read (IsLexeme (token (Token.boolean b))) t ts after_value
First t (Token.null ∷ ts) = Read (IsLexeme (token Token.null)) t ts after_value
First t (Token.bad ∷ ts) = Unit {0}

-- a colon comes next
record Colon (t : List ℕ) : Type 0 where
  gap : List ℕ
  rest : List ℕ
  split : t ≡ gap ++ (0x3A ∷ rest)
  is_gap : IsWs gap
  lexed : lex between t ≡ colon ∷ lex between rest

colon_next : (t : List ℕ) → Front t → begins_colon (lex between t) ≡ true → Colon t
colon_next t (blank h e) k = absurd (false≢true (sym (ap begins_colon e) ∙ k))
colon_next t (fault ls e) k = absurd (false≢true (sym (ap begins_colon e) ∙ k))
colon_next t (lexeme w b r (token x) s h is e) k = absurd (false≢true (sym (ap begins_colon e) ∙ k))
colon_next t (lexeme w b r comma s h is e) k = absurd (false≢true (sym (ap begins_colon e) ∙ k))
colon_next t (lexeme w b r colon s h is e) k = record { gap = w; rest = r; split = s ∙ ap (λ z. w ++ (z ++ r)) is; is_gap = h; lexed = e }

module _ (t w b r : List ℕ) (s : t ≡ w ++ (b ++ r)) (h : IsWs w) where
  here : (P : List ℕ → Type 0) (n : Place) → P b → Read P t (punctuate n (lex between r)) n
  here P n is = record { white = w; body = b; rest = r; split = s; is_white = h; is = is; left = refl }

  named : (k : List ℕ) → IsString b k → Colon r → First t (Token.key k ∷ punctuate after_key (lex between r))
  unfolding punctuate
  named k is c = record {
    white = w;
    body = b ++ (c.gap ++ 0x3A ∷ []);
    rest = c.rest;
    split = s ∙ ap (λ l. w ++ (b ++ l)) (c.split ∙ sym (append_assoc c.gap (0x3A ∷ []) c.rest)) ∙ ap (λ l. w ++ l) (sym (append_assoc b (c.gap ++ 0x3A ∷ []) c.rest));
    is_white = h;
    is = record { name = b; gap = c.gap; parts = refl; is_name = is; is_gap = c.is_gap };
    left = ap (punctuate after_key) c.lexed;
  }

  with_colon : (k : List ℕ) (q : Bool) → IsString b k → begins_colon (lex between r) ≡ q → First t (place_token fresh (Token.string k) q (λ n. punctuate n (lex between r)))
  with_colon k true is e = named k is (colon_next r (front r) e)
  with_colon k false is e = here (IsLexeme (token (Token.string k))) after_value is

  after_a_comma : (k : List ℕ) (q : Bool) → IsString b k → begins_colon (lex between r) ≡ q → First t (place_token after_comma (Token.string k) q (λ n. punctuate n (lex between r)))
  after_a_comma k true is e = named k is (colon_next r (front r) e)
  after_a_comma k false is e = here (IsLexeme (token (Token.string k))) after_value is

  at_fresh : (k : List ℕ) → IsString b k → First t (punctuate fresh (token (Token.string k) ∷ lex between r))
  unfolding punctuate
  at_fresh k is = with_colon k (begins_colon (lex between r)) is refl

  at_after_comma : (k : List ℕ) → IsString b k → First t (punctuate after_comma (token (Token.string k) ∷ lex between r))
  unfolding punctuate
  at_after_comma k is = after_a_comma k (begins_colon (lex between r)) is refl

  placed : (p : Place) → may_begin p ≡ true → (l : Lexeme) → IsLexeme l b → First t (punctuate p (l ∷ lex between r))
  unfolding punctuate
  placed fresh may (token Token.begin_object) is = here (IsLexeme (token Token.begin_object)) fresh is
  placed fresh may (token Token.begin_array) is = here (IsLexeme (token Token.begin_array)) fresh is
  placed fresh may (token Token.null) is = here (IsLexeme (token Token.null)) after_value is
  placed fresh may (token Token.end_object) is = here (IsLexeme (token Token.end_object)) after_value is
  placed fresh may (token Token.end_array) is = here (IsLexeme (token Token.end_array)) after_value is
  placed fresh may (token (Token.boolean v)) is = here (IsLexeme (token (Token.boolean v))) after_value is
  placed fresh may (token (Token.number k)) is = here (IsLexeme (token (Token.number k))) after_value is
  placed fresh may (token (Token.key k)) is = absurd is
  placed fresh may (token Token.bad) is = absurd is
  placed fresh may (token (Token.string k)) is = at_fresh k is
  placed fresh may comma is = tt
  placed fresh may colon is = tt
  placed after_comma may (token Token.begin_object) is = here (IsLexeme (token Token.begin_object)) fresh is
  placed after_comma may (token Token.begin_array) is = here (IsLexeme (token Token.begin_array)) fresh is
  placed after_comma may (token Token.null) is = here (IsLexeme (token Token.null)) after_value is
  placed after_comma may (token Token.end_object) is = tt
  placed after_comma may (token Token.end_array) is = tt
  placed after_comma may (token (Token.boolean v)) is = here (IsLexeme (token (Token.boolean v))) after_value is
  placed after_comma may (token (Token.number k)) is = here (IsLexeme (token (Token.number k))) after_value is
  placed after_comma may (token (Token.key k)) is = absurd is
  placed after_comma may (token Token.bad) is = absurd is
  placed after_comma may (token (Token.string k)) is = at_after_comma k is
  placed after_comma may comma is = tt
  placed after_comma may colon is = tt
  placed after_value may l is = absurd (false≢true may)
  placed after_key may l is = absurd (false≢true may)

ended : (t : List ℕ) (p : Place) → may_begin p ≡ true → First t (punctuate p [])
unfolding punctuate
ended t fresh may = tt
ended t after_comma may = tt
ended t after_value may = absurd (false≢true may)
ended t after_key may = absurd (false≢true may)

faulty : (t : List ℕ) (p : Place) (ls : List Lexeme) → may_begin p ≡ true → First t (punctuate p (token Token.bad ∷ ls))
unfolding punctuate
faulty t fresh ls may = tt
faulty t after_comma ls may = tt
faulty t after_value ls may = absurd (false≢true may)
faulty t after_key ls may = absurd (false≢true may)

first_of_front : (p : Place) → may_begin p ≡ true → (t : List ℕ) → Front t → First t (punctuate p (lex between t))
first_of_front p may t (blank h e) = subst (λ ls. First t (punctuate p ls)) (sym e) (ended t p may)
first_of_front p may t (fault ls e) = subst (λ ls. First t (punctuate p ls)) (sym e) (faulty t p ls may)
first_of_front p may t (lexeme w b r l s h is e) = subst (λ ls. First t (punctuate p ls)) (sym e) (placed t w b r s h p may l is)

pub first : (p : Place) → may_begin p ≡ true → (t : List ℕ) → First t (punctuate p (lex between t))
first p may t = first_of_front p may t (front t)

-- ---- after a value

-- a comma comes next, and then the tokens
pub record Comma (t : List ℕ) (ts : List Token) : Type 0 where
  pub gap : List ℕ
  pub rest : List ℕ
  pub split : t ≡ gap ++ 0x2C ∷ rest
  pub is_gap : IsWs gap
  pub left : punctuate after_comma (lex between rest) ≡ ts

abbrev pub After : List ℕ → List Token → Type 0
After t [] = IsWs t
After t (Token.begin_object ∷ ts) = Comma t (Token.begin_object ∷ ts)
After t (Token.end_object ∷ ts) = Read (IsLexeme (token Token.end_object)) t ts after_value
After t (Token.begin_array ∷ ts) = Comma t (Token.begin_array ∷ ts)
After t (Token.end_array ∷ ts) = Read (IsLexeme (token Token.end_array)) t ts after_value
After t (Token.key s ∷ ts) = Comma t (Token.key s ∷ ts)
After t (Token.string s ∷ ts) = Comma t (Token.string s ∷ ts)
After t (Token.number s ∷ ts) = Comma t (Token.number s ∷ ts)
After t (Token.boolean b ∷ ts) = Comma t (Token.boolean b ∷ ts)
After t (Token.null ∷ ts) = Comma t (Token.null ∷ ts)
After t (Token.bad ∷ ts) = Unit {0}

-- the tokens begin with no closing bracket, and there is one
abbrev Opens : List Token → Type 0
Opens [] = ⊥
Opens (Token.begin_object ∷ ts) = Unit {0}
Opens (Token.end_object ∷ ts) = ⊥
Opens (Token.begin_array ∷ ts) = Unit {0}
Opens (Token.end_array ∷ ts) = ⊥
Opens (Token.key s ∷ ts) = Unit {0}
Opens (Token.string s ∷ ts) = Unit {0}
Opens (Token.number s ∷ ts) = Unit {0}
Opens (Token.boolean b ∷ ts) = Unit {0}
Opens (Token.null ∷ ts) = Unit {0}
Opens (Token.bad ∷ ts) = Unit {0}

opens_string : (k : List ℕ) (q : Bool) (f : Place → List Token) → Opens (place_token after_comma (Token.string k) q f)
opens_string k true f = tt
opens_string k false f = tt

opens : (ls : List Lexeme) → Opens (punctuate after_comma ls)
unfolding punctuate
opens [] = tt
opens (token Token.begin_object ∷ ls) = tt
opens (token Token.end_object ∷ ls) = tt
opens (token Token.begin_array ∷ ls) = tt
opens (token Token.end_array ∷ ls) = tt
opens (token (Token.key k) ∷ ls) = tt
opens (token (Token.string k) ∷ ls) = opens_string k (begins_colon ls) _
opens (token (Token.number k) ∷ ls) = tt
opens (token (Token.boolean b) ∷ ls) = tt
opens (token Token.null ∷ ls) = tt
opens (token Token.bad ∷ ls) = tt
opens (comma ∷ ls) = tt
opens (colon ∷ ls) = tt

with_comma : (t : List ℕ) (ts : List Token) → Opens ts → Comma t ts → After t ts
with_comma t [] o c = absurd o
with_comma t (Token.begin_object ∷ ts) o c = c
with_comma t (Token.end_object ∷ ts) o c = absurd o
with_comma t (Token.begin_array ∷ ts) o c = c
with_comma t (Token.end_array ∷ ts) o c = absurd o
with_comma t (Token.key s ∷ ts) o c = c
with_comma t (Token.string s ∷ ts) o c = c
with_comma t (Token.number s ∷ ts) o c = c
with_comma t (Token.boolean b ∷ ts) o c = c
with_comma t (Token.null ∷ ts) o c = c
with_comma t (Token.bad ∷ ts) o c = tt

no_string : (t k : List ℕ) (q : Bool) (f : Place → List Token) → After t (place_token after_value (Token.string k) q f)
no_string t k true f = tt
no_string t k false f = tt

module _ (t w b r : List ℕ) (s : t ≡ w ++ (b ++ r)) (h : IsWs w) where
  next : (l : Lexeme) → IsLexeme l b → After t (punctuate after_value (l ∷ lex between r))
  unfolding punctuate
  next (token Token.begin_object) is = tt
  next (token Token.end_object) is = here t w b r s h (IsLexeme (token Token.end_object)) after_value is
  next (token Token.begin_array) is = tt
  next (token Token.end_array) is = here t w b r s h (IsLexeme (token Token.end_array)) after_value is
  next (token (Token.key k)) is = tt
  next (token (Token.string k)) is = no_string t k (begins_colon (lex between r)) _
  next (token (Token.number k)) is = tt
  next (token (Token.boolean v)) is = tt
  next (token Token.null) is = tt
  next (token Token.bad) is = tt
  next comma is =
      with_comma t _ (opens (lex between r)) (record { gap = w; rest = r; split = s ∙ ap (λ z. w ++ (z ++ r)) is; is_gap = h; left = refl })
  next colon is = tt

blank_after : (t : List ℕ) → IsWs t → After t (punctuate after_value [])
unfolding punctuate
blank_after t h = h

faulty_after : (t : List ℕ) (ls : List Lexeme) → After t (punctuate after_value (token Token.bad ∷ ls))
unfolding punctuate
faulty_after t ls = tt

after_front : (t : List ℕ) → Front t → After t (punctuate after_value (lex between t))
after_front t (blank h e) = subst (λ ls. After t (punctuate after_value ls)) (sym e) (blank_after t h)
after_front t (fault ls e) = subst (λ ls. After t (punctuate after_value ls)) (sym e) (faulty_after t ls)
after_front t (lexeme w b r l s h is e) = subst (λ ls. After t (punctuate after_value ls)) (sym e) (next t w b r s h l is)

pub after : (t : List ℕ) → After t (punctuate after_value (lex between t))
after t = after_front t (front t)

-- no value begins with a closing bracket
pub comma_before : (j : Json) (t : List ℕ) (ts : List Token) → After t (json_tokens j ++ ts) → Comma t (json_tokens j ++ ts)
comma_before json.null t ts c = c
comma_before (json.boolean b) t ts c = c
comma_before (json.number s) t ts c = c
comma_before (json.string s) t ts c = c
comma_before (json.array js) t ts c = c
comma_before (json.object ms) t ts c = c
