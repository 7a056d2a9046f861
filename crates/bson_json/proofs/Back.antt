-- From the reader to the grammar: a text with the tokens of a value is a text of that value.
use Rattle.std.proofs.Common.{◌≡◌, ℕ, Bool, true, false, List, [], ◌∷◌, ◌++◌, refl, sym, ap, ◌∙◌, subst, append_assoc, append-nil}
use Rattle.json.specs.Json.{Json, Items, no_items, item, Members, no_members, member}
use Rattle.json.specs.Json as json
use Rattle.json.specs.Lex.{token, lex, between, Place, fresh, after_value, after_comma, may_begin, punctuate, tokens}
use Rattle.json.specs.Token.{Token}
use Rattle.json.specs.Tree.{json_tokens, items_tokens, members_tokens}
use Rattle.bson_json.specs.Grammar.{IsWs, no_ws, IsStructural, mark}
use Rattle.bson_json.specs.Grammar.{IsJsonValue, false_name, null_name, true_name, an_object, an_array, a_number, a_string, AreValues, no_values, values, MoreValues, no_more_values, next_value}
use Rattle.bson_json.specs.Grammar.{AreMembers, no_pairs, pairs, MoreMembers, no_more_pairs, next_pair, IsMember, pair, IsJson, text}
use Rattle.bson_json.proofs.Firsts.{Read, seen_as, IsKey, First, first, Comma, After, after, comma_before}
use Rattle.bson_json.proofs.Forward.{three}
use Rattle.bson_json.proofs.Lexemes.{IsLexeme}

-- after white space and a part, a closing character and a rest
record Closed (P : List ℕ → Type 0) (c : ℕ) (t : List ℕ) (ts : List Token) : Type 0 where
  white : List ℕ
  part : List ℕ
  close : List ℕ
  rest : List ℕ
  split : t ≡ white ++ (part ++ (close ++ rest))
  is_white : IsWs white
  is : P part
  is_close : IsStructural c close
  left : ts ≡ punctuate after_value (lex between rest)

-- a part, a closing character and a rest
record Ends (P : List ℕ → Type 0) (c : ℕ) (t : List ℕ) (ts : List Token) : Type 0 where
  part : List ℕ
  close : List ℕ
  rest : List ℕ
  split : t ≡ part ++ (close ++ rest)
  is : P part
  is_close : IsStructural c close
  left : ts ≡ punctuate after_value (lex between rest)

closing : (P : List ℕ → Type 0) (c : ℕ) (t : List ℕ) (ts : List Token) → P [] → Read (λ b. b ≡ c ∷ []) t ts after_value → Ends P c t ts
closing P c t ts p r = record {
  part = [];
  close = r.white ++ c ∷ [];
  rest = r.rest;
  split = r.split ∙ ap (λ b. r.white ++ (b ++ r.rest)) r.is ∙ sym (append_assoc r.white (c ∷ []) r.rest);
  is = p;
  is_close = mark r.is_white no_ws;
  left = r.left;
}

at_once : (P : List ℕ → Type 0) (c : ℕ) (t : List ℕ) (ts : List Token) → Ends P c t ts → Closed P c t ts
at_once P c t ts e = record { white = []; part = e.part; close = e.close; rest = e.rest; split = e.split; is_white = no_ws; is = e.is; is_close = e.is_close; left = e.left }

-- a part v after white space, and what ends u
beside : (P Q R : List ℕ → Type 0) (c : ℕ) (t : List ℕ) (us ts : List Token) → ((v u : List ℕ) → P v → Q u → R (v ++ u)) → (r : Read P t us after_value) → Ends Q c r.rest ts → Closed R c t ts
beside P Q R c t us ts f r e = record {
  white = r.white;
  part = r.body ++ e.part;
  close = e.close;
  rest = e.rest;
  split = r.split ∙ ap (λ l. r.white ++ (r.body ++ l)) e.split ∙ ap (λ l. r.white ++ l) (sym (append_assoc r.body e.part (e.close ++ e.rest)));
  is_white = r.is_white;
  is = f r.body e.part r.is e.is;
  is_close = e.is_close;
  left = e.left;
}

-- a comma, and then what follows it
after_one : (P R : List ℕ → Type 0) (c : ℕ) (t : List ℕ) (us ts : List Token) → ((m u : List ℕ) → IsStructural 0x2C m → P u → R (m ++ u)) → (q : Comma t us) → Closed P c q.rest ts → Ends R c t ts
after_one P R c t us ts f q e = record {
  part = (q.gap ++ 0x2C ∷ e.white) ++ e.part;
  close = e.close;
  rest = e.rest;
  split = q.split ∙ ap (λ l. q.gap ++ 0x2C ∷ l) e.split ∙ sym (append_assoc q.gap (0x2C ∷ e.white) (e.part ++ (e.close ++ e.rest)))
      ∙ sym (append_assoc (q.gap ++ 0x2C ∷ e.white) e.part (e.close ++ e.rest));
  is = f (q.gap ++ 0x2C ∷ e.white) e.part (mark q.is_gap e.is_white) e.is;
  is_close = e.is_close;
  left = e.left;
}

-- an opening character, what is inside, and the closing one
around : (P R : List ℕ → Type 0) (o c : ℕ) (t : List ℕ) (us ts : List Token) → ((a b d : List ℕ) → IsStructural o a → P b → IsStructural c d → R (a ++ (b ++ d))) → (r : Read (λ b. b ≡ o ∷ []) t us fresh) → Closed P c r.rest ts
    → Read R t ts after_value
around P R o c t us ts f r e = record {
  white = r.white;
  body = (o ∷ e.white) ++ (e.part ++ e.close);
  rest = e.rest;
  split = r.split ∙ ap (λ b. r.white ++ (b ++ r.rest)) r.is ∙ ap (λ l. r.white ++ o ∷ l) e.split ∙ ap (λ l. r.white ++ l) (sym (three (o ∷ e.white) e.part e.close e.rest));
  is_white = r.is_white;
  is = f (o ∷ e.white) e.part e.close (mark no_ws e.is_white) e.is e.is_close;
  left = e.left;
}

-- a name, its colon and its value
named : (k : List ℕ) (j : Json) (t : List ℕ) (us ts : List Token) → (q : Read (IsKey k) t us fresh) → Read (λ b. IsJsonValue b j) q.rest ts after_value → Read (λ b. IsMember b k j) t ts after_value
named k j t us ts q r =
    let name = q.is.name in
    let gap = q.is.gap in
    let separator = gap ++ 0x3A ∷ r.white in
    let tail = 0x3A ∷ (r.white ++ (r.body ++ r.rest)) in
    record {
      white = q.white;
      body = name ++ (separator ++ r.body);
      rest = r.rest;
      split = q.split ∙ ap (λ b. q.white ++ (b ++ q.rest)) q.is.parts ∙ ap (λ l. q.white ++ l) (
          three name gap (0x3A ∷ []) q.rest ∙ ap (λ l. name ++ (gap ++ 0x3A ∷ l)) r.split ∙ ap (λ l. name ++ l) (sym (append_assoc gap (0x3A ∷ r.white) (r.body ++ r.rest)))
          ∙ sym (three name separator r.body r.rest));
      is_white = q.is_white;
      is = pair q.is.is_name (mark q.is.is_gap r.is_white) r.is;
      left = r.left;
    }

number_is : (s b : List ℕ) → IsLexeme (token (Token.number s)) b → IsJsonValue b (json.number s)
number_is s b h = subst (λ z. IsJsonValue z (json.number s)) (sym h.0) (a_number h.1)

boolean_is : (v : Bool) (b : List ℕ) → IsLexeme (token (Token.boolean v)) b → IsJsonValue b (json.boolean v)
boolean_is true b h = subst (λ z. IsJsonValue z (json.boolean true)) (sym h) true_name
boolean_is false b h = subst (λ z. IsJsonValue z (json.boolean false)) (sym h) false_name

null_is : (b : List ℕ) → IsLexeme (token Token.null) b → IsJsonValue b json.null
null_is b h = subst (λ z. IsJsonValue z json.null) (sym h) null_name

abbrev ReadsValue : Json → List ℕ → List Token → Type 0
ReadsValue j t ts = Read (λ b. IsJsonValue b j) t ts after_value

next_values : {j : Json} {js : Items} (m u : List ℕ) → IsStructural 0x2C m → AreValues u (item j js) → MoreValues (m ++ u) (item j js)
next_values m u h (values v k) = next_value h v k

next_members : {k : List ℕ} {j : Json} {ms : Members} (m u : List ℕ) → IsStructural 0x2C m → AreMembers u (member k j ms) → MoreMembers (m ++ u) (member k j ms)
next_members m u h (pairs v k) = next_pair h v k

mutual
  value_back : (j : Json) (p : Place) → may_begin p ≡ true → (t : List ℕ) (ts : List Token) → punctuate p (lex between t) ≡ json_tokens j ++ ts → ReadsValue j t ts
  value_back json.null p may t ts e = seen_as _ (λ b. IsJsonValue b json.null) t ts after_value null_is (subst (First t) e (first p may t))
  value_back (json.boolean v) p may t ts e = seen_as _ (λ b. IsJsonValue b (json.boolean v)) t ts after_value (boolean_is v) (subst (First t) e (first p may t))
  value_back (json.number s) p may t ts e = seen_as _ (λ b. IsJsonValue b (json.number s)) t ts after_value (number_is s) (subst (First t) e (first p may t))
  value_back (json.string s) p may t ts e = seen_as _ (λ b. IsJsonValue b (json.string s)) t ts after_value (λ b. a_string) (subst (First t) e (first p may t))
  value_back (json.array js) p may t ts e =
      let r : Read (IsLexeme (token Token.begin_array)) t (items_tokens js ++ ts) fresh = subst (First t) e (first p may t) in
      around (λ b. AreValues b js) (λ b. IsJsonValue b (json.array js)) 0x5B 0x5D t (items_tokens js ++ ts) ts (λ a b d. an_array) r (items_back js r.rest ts (sym r.left))
  value_back (json.object ms) p may t ts e =
      let r : Read (IsLexeme (token Token.begin_object)) t (members_tokens ms ++ ts) fresh = subst (First t) e (first p may t) in
      around (λ b. AreMembers b ms) (λ b. IsJsonValue b (json.object ms)) 0x7B 0x7D t (members_tokens ms ++ ts) ts (λ a b d. an_object) r (members_back ms r.rest ts (sym r.left))

  items_back : (js : Items) (t : List ℕ) (ts : List Token) → punctuate fresh (lex between t) ≡ items_tokens js ++ ts → Closed (λ b. AreValues b js) 0x5D t ts
  items_back no_items t ts e = at_once _ 0x5D t ts (closing (λ b. AreValues b no_items) 0x5D t ts no_values (subst (First t) e (first fresh refl t)))
  items_back (item j js) t ts e =
      let r = value_back j fresh refl t (items_tokens js ++ ts) (e ∙ append_assoc (json_tokens j) (items_tokens js) ts) in
      beside (λ b. IsJsonValue b j) (λ b. MoreValues b js) (λ b. AreValues b (item j js)) 0x5D t _ ts (λ v u. values) r (more_items_back js r.rest ts (sym r.left))

  more_items_back : (js : Items) (t : List ℕ) (ts : List Token) → punctuate after_value (lex between t) ≡ items_tokens js ++ ts → Ends (λ b. MoreValues b js) 0x5D t ts
  more_items_back no_items t ts e = closing (λ b. MoreValues b no_items) 0x5D t ts no_more_values (subst (After t) e (after t))
  more_items_back (item j js) t ts e =
      let us = items_tokens js ++ ts in
      let q : Comma t (json_tokens j ++ us) = comma_before j t us (subst (After t) (e ∙ append_assoc (json_tokens j) (items_tokens js) ts) (after t)) in
      let r = value_back j after_comma refl q.rest us q.left in
      after_one (λ b. AreValues b (item j js)) (λ b. MoreValues b (item j js)) 0x5D t (json_tokens j ++ us) ts (λ m u. next_values m u) q
      (beside (λ b. IsJsonValue b j) (λ b. MoreValues b js) (λ b. AreValues b (item j js)) 0x5D q.rest us ts (λ v u. values) r (more_items_back js r.rest ts (sym r.left)))

  members_back : (ms : Members) (t : List ℕ) (ts : List Token) → punctuate fresh (lex between t) ≡ members_tokens ms ++ ts → Closed (λ b. AreMembers b ms) 0x7D t ts
  members_back no_members t ts e = at_once _ 0x7D t ts (closing (λ b. AreMembers b no_members) 0x7D t ts no_pairs (subst (First t) e (first fresh refl t)))
  members_back (member k j ms) t ts e =
      let us = members_tokens ms ++ ts in
      let q : Read (IsKey k) t (json_tokens j ++ us) fresh = subst (First t) (e ∙ ap (λ l. Token.key k ∷ l) (append_assoc (json_tokens j) (members_tokens ms) ts)) (first fresh refl t) in
      let r = named k j t (json_tokens j ++ us) us q (value_back j fresh refl q.rest us (sym q.left)) in
      beside (λ b. IsMember b k j) (λ b. MoreMembers b ms) (λ b. AreMembers b (member k j ms)) 0x7D t us ts (λ v u. pairs) r (more_members_back ms r.rest ts (sym r.left))

  more_members_back : (ms : Members) (t : List ℕ) (ts : List Token) → punctuate after_value (lex between t) ≡ members_tokens ms ++ ts → Ends (λ b. MoreMembers b ms) 0x7D t ts
  more_members_back no_members t ts e = closing (λ b. MoreMembers b no_members) 0x7D t ts no_more_pairs (subst (After t) e (after t))
  more_members_back (member k j ms) t ts e =
      let us = members_tokens ms ++ ts in
      let f = e ∙ ap (λ l. Token.key k ∷ l) (append_assoc (json_tokens j) (members_tokens ms) ts) in
      let c : Comma t (Token.key k ∷ (json_tokens j ++ us)) = subst (After t) f (after t) in
      let q : Read (IsKey k) c.rest (json_tokens j ++ us) fresh = subst (First c.rest) c.left (first after_comma refl c.rest) in
      let r = named k j c.rest (json_tokens j ++ us) us q (value_back j fresh refl q.rest us (sym q.left)) in
      after_one (λ b. AreMembers b (member k j ms)) (λ b. MoreMembers b (member k j ms)) 0x7D t _ ts (λ m u. next_members m u) c
      (beside (λ b. IsMember b k j) (λ b. MoreMembers b ms) (λ b. AreMembers b (member k j ms)) 0x7D c.rest us ts (λ v u. pairs) r (more_members_back ms r.rest ts (sym r.left)))

ends : (t : List ℕ) → [] ≡ punctuate after_value (lex between t) → IsWs t
ends t e = subst (After t) (sym e) (after t)

pub text_back : (t : List ℕ) (j : Json) → tokens t ≡ json_tokens j → IsJson t j
text_back t j e =
    let r = value_back j fresh refl t [] (e ∙ sym (append-nil (json_tokens j))) in
    subst (λ z. IsJson z j) (sym r.split) (text r.is_white r.is (ends r.rest r.left))
