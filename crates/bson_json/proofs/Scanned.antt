-- No separator of a JSON value is outside of its brackets and its strings.
use Rattle.std.proofs.Common.{◌≡◌, ◌≢◌, ℕ, zero, suc, ◌<◌, true, false, ◌==◌, ◌||◌, List, [], ◌∷◌, ◌++◌, refl, sym, ap, ◌∙◌, subst, append_assoc, codes, arith}
use Rattle.std.proofs.lemmas.Bool.{ne_eqb}
use Rattle.json.specs.Json.{Json}
use Rattle.json.specs.Word.{is_space}
use Rattle.bson_json.specs.Grammar.{IsWs, no_ws, space, tab, line_feed, carriage_return, IsStructural, mark}
use Rattle.bson_json.specs.Grammar.{IsDigit, AreDigits, no_digits, digit, IsDigits, digits, IsMinus, no_minus, minus, IsInt, zero_alone, from_one}
use Rattle.bson_json.specs.Grammar.{IsFrac, no_frac, frac, IsSign, no_sign, minus_sign, plus_sign, IsExp, no_exp, lower_exp, upper_exp, IsNumber, number}
use Rattle.bson_json.specs.Grammar.{IsHex, hex_digit, hex_upper, hex_lower, IsCode, code}
use Rattle.bson_json.specs.Grammar.{IsChar, unescaped, quotation_mark, reverse_solidus, solidus, escaped_b, escaped_f, escaped_n, escaped_r, escaped_t, escaped_u, surrogates}
use Rattle.bson_json.specs.Grammar.{AreChars, no_chars, char, IsString, string}
use Rattle.bson_json.specs.Grammar.{IsJsonValue, false_name, null_name, true_name, an_object, an_array, a_number, a_string, AreValues, no_values, values, MoreValues, no_more_values, next_value}
use Rattle.bson_json.specs.Grammar.{AreMembers, no_pairs, pairs, MoreMembers, no_more_pairs, next_pair, IsMember, pair}
use Rattle.bson_json.specs.declared.sequence.Separator.{Separator}
use Rattle.bson_json.specs.declared.sequence.Separator.TheVariants.{Comma, WhiteSpace}
use Rattle.bson_json.specs.Sequence.{ScanState, outside, in_string, in_escape, is_opener, is_closer, is_separator, scan, separates, prepend_to_part, split_or_prepend_byte, parts}

-- ---- bytes that are within a part

pub put_before : List ℕ → List (List ℕ) → List (List ℕ)
put_before [] ps = ps
put_before (x ∷ t) ps = prepend_to_part x (put_before t ps)

pub put_twice : (s t : List ℕ) (ps : List (List ℕ)) → put_before (s ++ t) ps ≡ put_before s (put_before t ps)
unfolding put_before
put_twice [] t ps = refl
put_twice (x ∷ s) t ps = ap (prepend_to_part x) (put_twice s t ps)

pub put_one : (x : ℕ) (ps : List (List ℕ)) → put_before (x ∷ []) ps ≡ prepend_to_part x ps
unfolding put_before
put_one x ps = refl

pub put_first : (t p : List ℕ) (ps : List (List ℕ)) → put_before t (p ∷ ps) ≡ (t ++ p) ∷ ps
unfolding put_before
put_first [] p ps = refl
put_first (x ∷ t) p ps = ap (prepend_to_part x) (put_first t p ps)

pub put_none : (ps : List (List ℕ)) → put_before [] ps ≡ ps
unfolding put_before
put_none ps = refl

-- from one state the bytes lead to another, and no separator is among them
pub record Passes (k : Separator) (m : ScanState) (t : List ℕ) (n : ScanState) : Type 0 where
  pub passed : (u : List ℕ) → parts k m (t ++ u) ≡ put_before t (parts k n u)

pub none : {k : Separator} (m : ScanState) → Passes k m [] m
unfolding put_before
none m = record { passed = λ u. refl }

pub then : {k : Separator} {m n l : ScanState} {s t : List ℕ} → Passes k m s n → Passes k n t l → Passes k m (s ++ t) l
then {k = k} {m = m} {l = l} {s = s} {t = t} p q = record {
  passed = λ u. ap (parts k m) (append_assoc s t u) ∙ p.passed (t ++ u) ∙ ap (put_before s) (q.passed u)
      ∙ sym (put_twice s t (parts k l u));
}

pub one : {k : Separator} (m : ScanState) (x : ℕ) → separates k m x ≡ false → Passes k m (x ∷ []) (scan m x)
unfolding parts put_before
one {k = k} m x e = record {
  passed = λ u. ap (λ b. split_or_prepend_byte b x (parts k (outside zero) u) (parts k (scan m x) u)) e;
}

-- the next state is this one
pub byte : {k : Separator} {m : ScanState} {x : ℕ} (n : ScanState) → separates k m x ≡ false → scan m x ≡ n → Passes k m (x ∷ []) n
byte {k = k} {m = m} {x = x} n e s = subst (Passes k m (x ∷ [])) s (one m x e)

-- ---- bytes that are neither white space nor commas nor brackets nor quotation marks

pub record Plain (x : ℕ) : Type 0 where
  pub space : is_space x ≡ false
  pub not_comma : (x == 0x2C) ≡ false
  pub quote : (x == 0x22) ≡ false
  pub opening : is_opener x ≡ false
  pub closing : is_closer x ≡ false

pub no_separator : (k : Separator) (x : ℕ) → is_space x ≡ false → (x == 0x2C) ≡ false → is_separator k x ≡ false
no_separator WhiteSpace x e f = e
no_separator Comma x e f = f

pub separates-plain : (k : Separator) (n x : ℕ) → is_space x ≡ false → (x == 0x2C) ≡ false → separates k (outside n) x ≡ false
separates-plain k zero x e f = no_separator k x e f
separates-plain k (suc n) x e f = refl

pub stays : (n x : ℕ) → (x == 0x22) ≡ false → is_opener x ≡ false → is_closer x ≡ false → scan (outside n) x ≡ outside n
stays n x q o c = rw q (rw o (rw c refl))

pub plain : {k : Separator} {n x : ℕ} → Plain x → Passes k (outside n) (x ∷ []) (outside n)
plain {k = k} {n = n} {x = x} p =
    byte (outside n) (separates-plain k n x p.space p.not_comma) (stays n x p.quote p.opening p.closing)

pub neither : (x a b : ℕ) → x ≢ a → x ≢ b → ((x == a) || (x == b)) ≡ false
neither x a b p q = rw (ne_eqb x a p) (ne_eqb x b q)

pub not_space : (x : ℕ) → 0x20 < x → is_space x ≡ false
not_space x h = rw (ne_eqb x 0x20 (λ e. omega arith)) (rw (ne_eqb x 0x09 (λ e. omega arith))
    (rw (ne_eqb x 0x0A (λ e. omega arith)) (ne_eqb x 0x0D (λ e. omega arith))))

pub is_plain : {x : ℕ} → 0x20 < x → x ≢ 0x2C → x ≢ 0x22 → x ≢ 0x5B → x ≢ 0x7B → x ≢ 0x5D → x ≢ 0x7D → Plain x
is_plain {x = x} h m q a b c d = record {
  space = not_space x h;
  not_comma = ne_eqb x 0x2C m;
  quote = ne_eqb x 0x22 q;
  opening = neither x 0x5B 0x7B a b;
  closing = neither x 0x5D 0x7D c d;
}

pub plain_digit : {d : ℕ} → IsDigit d → Plain d
plain_digit h = is_plain (omega (arith, h.0)) (λ e. omega (arith, h.0)) (λ e. omega (arith, h.0)) (λ e. omega (arith, h.1)) (λ e. omega (arith, h.1))
    (λ e. omega (arith, h.1)) (λ e. omega (arith, h.1))

-- ---- numbers and names

pub pass_digits : {k : Separator} {n : ℕ} {t : List ℕ} → AreDigits t → Passes k (outside n) t (outside n)
pass_digits no_digits = none _
pass_digits (digit h k) = then (plain (plain_digit h)) (pass_digits k)

pub pass_all_digits : {k : Separator} {n : ℕ} {t : List ℕ} → IsDigits t → Passes k (outside n) t (outside n)
pass_all_digits (digits h k) = then (plain (plain_digit h)) (pass_digits k)

pub plain_byte : {k : Separator} {n : ℕ} (x : ℕ) → is_space x ≡ false → (x == 0x2C) ≡ false → (x == 0x22) ≡ false → is_opener x ≡ false → is_closer x ≡ false
    → Passes k (outside n) (x ∷ []) (outside n)
plain_byte x s m q o c = plain (record { space = s; not_comma = m; quote = q; opening = o; closing = c })

pub pass_minus : {k : Separator} {n : ℕ} {t : List ℕ} → IsMinus t → Passes k (outside n) t (outside n)
pass_minus no_minus = none _
pass_minus minus = plain_byte 0x2D refl refl refl refl refl

pub pass_int : {k : Separator} {n : ℕ} {t : List ℕ} → IsInt t → Passes k (outside n) t (outside n)
pass_int zero_alone = plain_byte 0x30 refl refl refl refl refl
pass_int (from_one h o k) = then (plain (plain_digit h)) (pass_digits k)

pub pass_frac : {k : Separator} {n : ℕ} {t : List ℕ} → IsFrac t → Passes k (outside n) t (outside n)
pass_frac no_frac = none _
pass_frac (frac h) = then (plain_byte 0x2E refl refl refl refl refl) (pass_all_digits h)

pub pass_sign : {k : Separator} {n : ℕ} {t : List ℕ} → IsSign t → Passes k (outside n) t (outside n)
pass_sign no_sign = none _
pass_sign minus_sign = plain_byte 0x2D refl refl refl refl refl
pass_sign plus_sign = plain_byte 0x2B refl refl refl refl refl

pub pass_exp : {k : Separator} {n : ℕ} {t : List ℕ} → IsExp t → Passes k (outside n) t (outside n)
pass_exp no_exp = none _
pass_exp (lower_exp h k) = then (plain_byte 0x65 refl refl refl refl refl) (then (pass_sign h) (pass_all_digits k))
pass_exp (upper_exp h k) = then (plain_byte 0x45 refl refl refl refl refl) (then (pass_sign h) (pass_all_digits k))

pub pass_number : {k : Separator} {n : ℕ} {t : List ℕ} → IsNumber t → Passes k (outside n) t (outside n)
pass_number (number m i f e) = then (pass_minus m) (then (pass_int i) (then (pass_frac f) (pass_exp e)))

pub letter : {k : Separator} {n : ℕ} (x : ℕ) → is_space x ≡ false → (x == 0x2C) ≡ false → (x == 0x22) ≡ false → is_opener x ≡ false → is_closer x ≡ false → {t : List ℕ}
    → Passes k (outside n) t (outside n) → Passes k (outside n) (x ∷ t) (outside n)
letter x s m q o c p = then (plain_byte x s m q o c) p

pub pass_false : {k : Separator} {n : ℕ} → Passes k (outside n) (codes "false") (outside n)
pass_false = letter 102 refl refl refl refl refl (letter 97 refl refl refl refl refl (letter 108 refl refl refl refl refl
    (letter 115 refl refl refl refl refl (plain_byte 101 refl refl refl refl refl))))

pub pass_true : {k : Separator} {n : ℕ} → Passes k (outside n) (codes "true") (outside n)
pass_true = letter 116 refl refl refl refl refl (letter 114 refl refl refl refl refl (letter 117 refl refl refl refl refl
    (plain_byte 101 refl refl refl refl refl)))

pub pass_null : {k : Separator} {n : ℕ} → Passes k (outside n) (codes "null") (outside n)
pass_null = letter 110 refl refl refl refl refl (letter 117 refl refl refl refl refl (letter 108 refl refl refl refl refl
    (plain_byte 108 refl refl refl refl refl)))

-- ---- strings

pub within : {k : Separator} {n x : ℕ} → x ≢ 0x22 → x ≢ 0x5C → Passes k (in_string n) (x ∷ []) (in_string n)
within {n = n} {x = x} q b = byte (in_string n) refl (rw (ne_eqb x 0x22 q) (rw (ne_eqb x 0x5C b) refl))

-- a backslash and the byte after it
pub escape : {k : Separator} {n : ℕ} (x : ℕ) → Passes k (in_string n) (0x5C ∷ x ∷ []) (in_string n)
escape {n = n} x = then (byte (in_escape n) refl refl) (byte (in_string n) refl refl)

pub pass_hex : {k : Separator} {n x w : ℕ} → IsHex x w → Passes k (in_string n) (x ∷ []) (in_string n)
pass_hex (hex_digit h) = within (λ e. omega arith) (λ e. omega arith)
pass_hex (hex_upper h) = within (λ e. omega arith) (λ e. omega arith)
pass_hex (hex_lower h) = within (λ e. omega arith) (λ e. omega arith)

pub pass_code : {k : Separator} {n u : ℕ} {t : List ℕ} → IsCode t u → Passes k (in_string n) t (in_string n)
pass_code (code h i j k) = then (pass_hex h) (then (pass_hex i) (then (pass_hex j) (pass_hex k)))

pub pass_char : {k : Separator} {n : ℕ} {t s : List ℕ} → IsChar t s → Passes k (in_string n) t (in_string n)
pass_char (unescaped h) = within h.1 h.2
pass_char quotation_mark = escape 0x22
pass_char reverse_solidus = escape 0x5C
pass_char solidus = escape 0x2F
pass_char escaped_b = escape 0x62
pass_char escaped_f = escape 0x66
pass_char escaped_n = escape 0x6E
pass_char escaped_r = escape 0x72
pass_char escaped_t = escape 0x74
pass_char (escaped_u h p q) = then (escape 0x75) (pass_code h)
pass_char (surrogates h p l q) = then (escape 0x75) (then (pass_code h) (then (escape 0x75) (pass_code l)))

pub pass_chars : {k : Separator} {n : ℕ} {t s : List ℕ} → AreChars t s → Passes k (in_string n) t (in_string n)
pass_chars no_chars = none _
pass_chars (char h k) = then (pass_char h) (pass_chars k)

pub not_space_quote : (k : Separator) (n : ℕ) → separates k (outside n) 0x22 ≡ false
not_space_quote k n = separates-plain k n 0x22 refl refl

pub pass_string : {k : Separator} {n : ℕ} {t s : List ℕ} → IsString t s → Passes k (outside n) t (outside n)
pass_string {k = k} {n = n} (string h) = then (byte (in_string n) (not_space_quote k n) refl)
    (then (pass_chars h) (byte (outside n) refl refl))

-- ---- brackets, and what is inside

pub pass_ws : {k : Separator} {n : ℕ} {t : List ℕ} → IsWs t → Passes k (outside (suc n)) t (outside (suc n))
pass_ws no_ws = none _
pass_ws (space h) = then (byte _ refl refl) (pass_ws h)
pass_ws (tab h) = then (byte _ refl refl) (pass_ws h)
pass_ws (line_feed h) = then (byte _ refl refl) (pass_ws h)
pass_ws (carriage_return h) = then (byte _ refl refl) (pass_ws h)

pub open_byte : {k : Separator} {n x : ℕ} → is_space x ≡ false → (x == 0x2C) ≡ false → (x == 0x22) ≡ false → is_opener x ≡ true → Passes k (outside n) (x ∷ []) (outside (suc n))
open_byte {k = k} {n = n} {x = x} s m q o = byte (outside (suc n)) (separates-plain k n x s m) (rw q (rw o refl))

pub close_byte : {k : Separator} {n x : ℕ} → (x == 0x22) ≡ false → is_opener x ≡ false → is_closer x ≡ true → Passes k (outside (suc n)) (x ∷ []) (outside n)
close_byte {n = n} {x = x} q o c = byte (outside n) refl (rw q (rw o (rw c refl)))

pub pass_open : {k : Separator} {n x : ℕ} {t : List ℕ} → is_space x ≡ false → (x == 0x2C) ≡ false → (x == 0x22) ≡ false → is_opener x ≡ true → IsStructural x t
    → Passes k (outside (suc n)) t (outside (suc (suc n)))
pass_open s m q o (mark a b) = then (pass_ws a) (then (open_byte s m q o) (pass_ws b))

pub pass_close : {k : Separator} {n x : ℕ} {t : List ℕ} → (x == 0x22) ≡ false → is_opener x ≡ false → is_closer x ≡ true → IsStructural x t
    → Passes k (outside (suc (suc n))) t (outside (suc n))
pass_close q o c (mark a b) = then (pass_ws a) (then (close_byte q o c) (pass_ws b))

-- within brackets, a comma or a colon
pub pass_mark : {k : Separator} {n x : ℕ} {t : List ℕ} → (x == 0x22) ≡ false → is_opener x ≡ false → is_closer x ≡ false
    → IsStructural x t → Passes k (outside (suc n)) t (outside (suc n))
pass_mark {n = n} {x = x} q o c (mark a b) =
    then (pass_ws a) (then (byte (outside (suc n)) refl (stays (suc n) x q o c)) (pass_ws b))

mutual
  pub pass_value : {k : Separator} {n : ℕ} {t : List ℕ} {j : Json} → IsJsonValue t j → Passes k (outside (suc n)) t (outside (suc n))
  pass_value false_name = pass_false
  pass_value null_name = pass_null
  pass_value true_name = pass_true
  pass_value (an_object a h b) = then (pass_open refl refl refl refl a) (then (pass_members h) (pass_close refl refl refl b))
  pass_value (an_array a h b) = then (pass_open refl refl refl refl a) (then (pass_values h) (pass_close refl refl refl b))
  pass_value (a_number h) = pass_number h
  pass_value (a_string h) = pass_string h

  pub pass_values : {k : Separator} {n : ℕ} {t : List ℕ} {js : _} → AreValues t js → Passes k (outside (suc n)) t (outside (suc n))
  pass_values no_values = none _
  pass_values (values h k) = then (pass_value h) (pass_more_values k)

  pub pass_more_values : {k : Separator} {n : ℕ} {t : List ℕ} {js : _} → MoreValues t js → Passes k (outside (suc n)) t (outside (suc n))
  pass_more_values no_more_values = none _
  pass_more_values (next_value c h k) = then (pass_mark refl refl refl c) (then (pass_value h) (pass_more_values k))

  pub pass_members : {k : Separator} {n : ℕ} {t : List ℕ} {ms : _} → AreMembers t ms → Passes k (outside (suc n)) t (outside (suc n))
  pass_members no_pairs = none _
  pass_members (pairs h k) = then (pass_member h) (pass_more_members k)

  pub pass_more_members : {k : Separator} {n : ℕ} {t : List ℕ} {ms : _} → MoreMembers t ms → Passes k (outside (suc n)) t (outside (suc n))
  pass_more_members no_more_pairs = none _
  pass_more_members (next_pair c h k) = then (pass_mark refl refl refl c) (then (pass_member h) (pass_more_members k))

  pub pass_member : {k : Separator} {n : ℕ} {t s : List ℕ} {j : Json} → IsMember t s j → Passes k (outside (suc n)) t (outside (suc n))
  pass_member (pair s c h) = then (pass_string s) (then (pass_mark refl refl refl c) (pass_value h))

-- white space separates nothing in an array
pub pass_ws_of_array : {t : List ℕ} → IsWs t → Passes Comma (outside zero) t (outside zero)
pass_ws_of_array no_ws = none _
pass_ws_of_array (space h) = then (byte _ refl refl) (pass_ws_of_array h)
pass_ws_of_array (tab h) = then (byte _ refl refl) (pass_ws_of_array h)
pass_ws_of_array (line_feed h) = then (byte _ refl refl) (pass_ws_of_array h)
pass_ws_of_array (carriage_return h) = then (byte _ refl refl) (pass_ws_of_array h)
