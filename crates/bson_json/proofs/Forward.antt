-- From the grammar to the reader: the tokens of a text of the grammar are those of its value.
use Rattle.std.proofs.Common.{◌≡◌, ℕ, Bool, true, false, cond, List, [], ◌∷◌, ◌++◌, refl, sym, ap, ap₂, ◌∙◌, subst, append_assoc, append-nil}
use Rattle.std.proofs.lemmas.Bool.{false≢true}
use Rattle.json.specs.Json.{Json, Items, Members}
use Rattle.json.specs.Lex.{Lexeme, token, colon, lex, between, begins_colon, Place, fresh, after_value, after_comma, after_key, may_begin, punctuate, tokens}
use Rattle.json.specs.Token.{Token}
use Rattle.json.specs.Tree.{json_tokens, items_tokens, members_tokens}
use Rattle.json.specs.Word.{ends_word, word}
use Rattle.json.proofs.Printed.Numbers.{lex-number, in_word-ended}
use Rattle.bson_json.specs.Grammar.{IsJsonValue, false_name, null_name, true_name, an_object, an_array, a_number, a_string, AreValues, no_values, values, MoreValues, no_more_values, next_value}
use Rattle.bson_json.specs.Grammar.{AreMembers, no_pairs, pairs, MoreMembers, no_more_pairs, next_pair, IsMember, pair, IsJson, text, IsWs}
use Rattle.bson_json.proofs.Lexing.{lex-ws, lex-mark, Follows, follows-ws, follows-mark}
use Rattle.bson_json.proofs.Numbers.{is_read}
use Rattle.bson_json.proofs.Strings.{lex-string}

pub lex-true : (r : List ℕ) → ends_word r ≡ true → lex between (116 ∷ 114 ∷ 117 ∷ 101 ∷ r) ≡ token (Token.boolean true) ∷ lex between r
unfolding lex word
lex-true r e = ap₂ (λ b l. token (cond b (Token.boolean true) Token.bad) ∷ l) e (in_word-ended r e)

pub lex-false : (r : List ℕ) → ends_word r ≡ true → lex between (102 ∷ 97 ∷ 108 ∷ 115 ∷ 101 ∷ r) ≡ token (Token.boolean false) ∷ lex between r
unfolding lex word
lex-false r e = ap₂ (λ b l. token (cond b (Token.boolean false) Token.bad) ∷ l) e (in_word-ended r e)

pub lex-null : (r : List ℕ) → ends_word r ≡ true → lex between (110 ∷ 117 ∷ 108 ∷ 108 ∷ r) ≡ token Token.null ∷ lex between r
unfolding lex word
lex-null r e = ap₂ (λ b l. token (cond b Token.null Token.bad) ∷ l) e (in_word-ended r e)

pub at_null : (p : Place) (ls : List Lexeme) → may_begin p ≡ true → punctuate p (token Token.null ∷ ls) ≡ Token.null ∷ punctuate after_value ls
unfolding punctuate
at_null fresh ls may = refl
at_null after_value ls may = absurd (false≢true may)
at_null after_comma ls may = refl
at_null after_key ls may = absurd (false≢true may)

pub at_boolean : (p : Place) (ls : List Lexeme) (b : Bool) → may_begin p ≡ true → punctuate p (token (Token.boolean b) ∷ ls) ≡ Token.boolean b ∷ punctuate after_value ls
unfolding punctuate
at_boolean fresh ls b may = refl
at_boolean after_value ls b may = absurd (false≢true may)
at_boolean after_comma ls b may = refl
at_boolean after_key ls b may = absurd (false≢true may)

pub at_number : (p : Place) (ls : List Lexeme) (s : List ℕ) → may_begin p ≡ true → punctuate p (token (Token.number s) ∷ ls) ≡ Token.number s ∷ punctuate after_value ls
unfolding punctuate
at_number fresh ls s may = refl
at_number after_value ls s may = absurd (false≢true may)
at_number after_comma ls s may = refl
at_number after_key ls s may = absurd (false≢true may)

at_string : (p : Place) (ls : List Lexeme) (s : List ℕ) → may_begin p ≡ true → begins_colon ls ≡ false → punctuate p (token (Token.string s) ∷ ls) ≡ Token.string s ∷ punctuate after_value ls
unfolding punctuate
at_string fresh ls s may e = rw e refl
at_string after_value ls s may e = absurd (false≢true may)
at_string after_comma ls s may e = rw e refl
at_string after_key ls s may e = absurd (false≢true may)

at_key : (p : Place) (ls : List Lexeme) (s : List ℕ) → may_begin p ≡ true → punctuate p (token (Token.string s) ∷ colon ∷ ls) ≡ Token.key s ∷ punctuate fresh ls
unfolding punctuate
at_key fresh ls s may = refl
at_key after_value ls s may = absurd (false≢true may)
at_key after_comma ls s may = refl
at_key after_key ls s may = absurd (false≢true may)

pub at_array : (p : Place) (ls : List Lexeme) → may_begin p ≡ true → punctuate p (token Token.begin_array ∷ ls) ≡ Token.begin_array ∷ punctuate fresh ls
unfolding punctuate
at_array fresh ls may = refl
at_array after_value ls may = absurd (false≢true may)
at_array after_comma ls may = refl
at_array after_key ls may = absurd (false≢true may)

pub at_object : (p : Place) (ls : List Lexeme) → may_begin p ≡ true → punctuate p (token Token.begin_object ∷ ls) ≡ Token.begin_object ∷ punctuate fresh ls
unfolding punctuate
at_object fresh ls may = refl
at_object after_value ls may = absurd (false≢true may)
at_object after_comma ls may = refl
at_object after_key ls may = absurd (false≢true may)

pub three : (a t b r : List ℕ) → (a ++ (t ++ b)) ++ r ≡ a ++ (t ++ (b ++ r))
three a t b r = append_assoc a (t ++ b) r ∙ ap (λ l. a ++ l) (append_assoc t b r)

-- the text r follows s, which closes an array or an object
record Closes (k : Token) (s r : List ℕ) : Type 0 where
  lexed : lex between s ≡ token k ∷ lex between r
  follows : Follows s

follows_values : {u : List ℕ} {js : Items} (s : List ℕ) → MoreValues u js → Follows s → Follows (u ++ s)
follows_values s no_more_values f = f
follows_values s (next_value {comma_text = c} {value_text = t} {later_text = u} m h k) f = subst Follows (sym (three c t u s)) (follows-mark (t ++ (u ++ s)) refl refl refl m)

follows_members : {u : List ℕ} {ms : Members} (s : List ℕ) → MoreMembers u ms → Follows s → Follows (u ++ s)
follows_members s no_more_pairs f = f
follows_members s (next_pair {comma_text = c} {member_text = t} {later_text = u} m h k) f = subst Follows (sym (three c t u s)) (follows-mark (t ++ (u ++ s)) refl refl refl m)

mutual
  unfolding punctuate

  value_tokens : {t : List ℕ} {j : Json} → IsJsonValue t j → (p : Place) → may_begin p ≡ true → (r : List ℕ) → Follows r → punctuate p (lex between (t ++ r)) ≡ json_tokens j ++ punctuate after_value (lex between r)
  value_tokens false_name p may r f = ap (punctuate p) (lex-false r f.ended) ∙ at_boolean p _ false may
  value_tokens null_name p may r f = ap (punctuate p) (lex-null r f.ended) ∙ at_null p _ may
  value_tokens true_name p may r f = ap (punctuate p) (lex-true r f.ended) ∙ at_boolean p _ true may
  value_tokens (a_number {number_text = t} h) p may r f = ap (punctuate p) (lex-number t r (is_read h) f.ended) ∙ at_number p _ t may
  value_tokens (a_string {string_bytes = s} h) p may r f = ap (punctuate p) (lex-string r h) ∙ at_string p _ s may f.no_colon
  value_tokens (an_array {begin_text = a} {values_text = t} {end_text = b} m h n) p may r f =
      ap (λ l. punctuate p (lex between l)) (three a t b r) ∙ ap (punctuate p) (lex-mark (t ++ (b ++ r)) refl m) ∙ at_array p _ may
      ∙ ap (λ l. Token.begin_array ∷ l) (values_tokens h (b ++ r) r (record { lexed = lex-mark r refl n; follows = follows-mark r refl refl refl n }))
  value_tokens (an_object {begin_text = a} {members_text = t} {end_text = b} m h n) p may r f =
      ap (λ l. punctuate p (lex between l)) (three a t b r) ∙ ap (punctuate p) (lex-mark (t ++ (b ++ r)) refl m) ∙ at_object p _ may
      ∙ ap (λ l. Token.begin_object ∷ l) (pairs_tokens h (b ++ r) r (record { lexed = lex-mark r refl n; follows = follows-mark r refl refl refl n }))

  values_tokens : {t : List ℕ} {js : Items} → AreValues t js → (s r : List ℕ) → Closes Token.end_array s r → punctuate fresh (lex between (t ++ s)) ≡ items_tokens js ++ punctuate after_value (lex between r)
  values_tokens no_values s r c = ap (punctuate fresh) c.lexed
  values_tokens (values {value_text = t} {later_text = u} {json_value = j} {json_items = js} h k) s r c =
      ap (λ l. punctuate fresh (lex between l)) (append_assoc t u s) ∙ value_tokens h fresh refl (u ++ s) (follows_values s k c.follows)
      ∙ ap (λ l. json_tokens j ++ l) (more_values k s r c) ∙ sym (append_assoc (json_tokens j) (items_tokens js) _)

  more_values : {u : List ℕ} {js : Items} → MoreValues u js → (s r : List ℕ) → Closes Token.end_array s r → punctuate after_value (lex between (u ++ s)) ≡ items_tokens js ++ punctuate after_value (lex between r)
  more_values no_more_values s r c = ap (punctuate after_value) c.lexed
  more_values (next_value {comma_text = m} {value_text = t} {later_text = u} {json_value = j} {json_items = js} n h k) s r c =
      ap (λ l. punctuate after_value (lex between l)) (three m t u s) ∙ ap (punctuate after_value) (lex-mark (t ++ (u ++ s)) refl n)
      ∙ value_tokens h after_comma refl (u ++ s) (follows_values s k c.follows)
      ∙ ap (λ l. json_tokens j ++ l) (more_values k s r c) ∙ sym (append_assoc (json_tokens j) (items_tokens js) _)

  member_tokens : {t k : List ℕ} {j : Json} → IsMember t k j → (p : Place) → may_begin p ≡ true → (r : List ℕ) → Follows r → punctuate p (lex between (t ++ r)) ≡ Token.key k ∷ (json_tokens j ++ punctuate after_value (lex between r))
  member_tokens (pair {name_text = n} {colon_text = c} {value_text = t} {member_key = k} h m v) p may r f =
      ap (λ l. punctuate p (lex between l)) (three n c t r)
      ∙ ap (punctuate p) (lex-string (c ++ (t ++ r)) h ∙ ap (λ l. token (Token.string k) ∷ l) (lex-mark (t ++ r) refl m)) ∙ at_key p _ k may
      ∙ ap (λ l. Token.key k ∷ l) (value_tokens v fresh refl r f)

  pairs_tokens : {t : List ℕ} {ms : Members} → AreMembers t ms → (s r : List ℕ) → Closes Token.end_object s r → punctuate fresh (lex between (t ++ s)) ≡ members_tokens ms ++ punctuate after_value (lex between r)
  pairs_tokens no_pairs s r c = ap (punctuate fresh) c.lexed
  pairs_tokens (pairs {member_text = t} {later_text = u} {member_key = k} {json_value = j} {json_members = ms} h m) s r c =
      ap (λ l. punctuate fresh (lex between l)) (append_assoc t u s) ∙ member_tokens h fresh refl (u ++ s) (follows_members s m c.follows)
      ∙ ap (λ l. Token.key k ∷ l) (ap (λ l. json_tokens j ++ l) (more_pairs m s r c) ∙ sym (append_assoc (json_tokens j) (members_tokens ms) _))

  more_pairs : {u : List ℕ} {ms : Members} → MoreMembers u ms → (s r : List ℕ) → Closes Token.end_object s r → punctuate after_value (lex between (u ++ s)) ≡ members_tokens ms ++ punctuate after_value (lex between r)
  more_pairs no_more_pairs s r c = ap (punctuate after_value) c.lexed
  more_pairs (next_pair {comma_text = c} {member_text = t} {later_text = u} {member_key = k} {json_value = j} {json_members = ms} n h m) s r q =
      ap (λ l. punctuate after_value (lex between l)) (three c t u s) ∙ ap (punctuate after_value) (lex-mark (t ++ (u ++ s)) refl n)
      ∙ member_tokens h after_comma refl (u ++ s) (follows_members s m q.follows)
      ∙ ap (λ l. Token.key k ∷ l) (ap (λ l. json_tokens j ++ l) (more_pairs m s r q) ∙ sym (append_assoc (json_tokens j) (members_tokens ms) _))

ws_ends : {w : List ℕ} → IsWs w → punctuate after_value (lex between w) ≡ []
unfolding punctuate lex
ws_ends {w = w} h = ap (λ l. punctuate after_value (lex between l)) (sym (append-nil w)) ∙ ap (punctuate after_value) (lex-ws [] h)

pub text_tokens : {t : List ℕ} {j : Json} → IsJson t j → tokens t ≡ json_tokens j
text_tokens (text {ws_before = a} {value_text = t} {ws_after = b} {json_value = j} h v k) =
    ap (punctuate fresh) (lex-ws (t ++ b) h) ∙ value_tokens v fresh refl b (follows-ws k)
    ∙ ap (λ l. json_tokens j ++ l) (ws_ends k) ∙ append-nil (json_tokens j)
