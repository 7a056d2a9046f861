-- The text of an array or an object from the texts of its parts.
use Rattle.std.proofs.Common.{◌≡◌, ℕ, Bool, true, false, List, [], ◌∷◌, ◌++◌, refl, sym, ap, ◌∙◌, append_assoc, append-nil}
use Rattle.std.proofs.lemmas.List.Sums.{fold-append}
use Rattle.std.specs.Prelude.{fold}
use Rattle.json.specs.Json.{Json, null, boolean, number, string, array, object, Items, no_items, item}
use Rattle.json.specs.Json.{Members, no_members, member}
use Rattle.json.specs.Print.{quoted, print, print_from, ends}
use Rattle.json.specs.Token.{Token, key}
use Rattle.json.specs.Tree.{json_tokens, items_tokens, members_tokens}
use Rattle.json.proofs.Printed.Tokens.{print_from-append}
use Rattle.serde_json.specs.Written.{comma_if}
use Rattle.bson_tokens.specs.NormalizerStates.{JsonMember, entry_members, member_text, comma_if_then_member_texts}

-- what follows a tree is printed as after a value
mutual
  ends_json : (j : Json) (c : Bool) → fold (λ _ u. ends u) c (json_tokens j) ≡ true
  ends_json null c = refl
  ends_json (boolean b) c = refl
  ends_json (number s) c = refl
  ends_json (string s) c = refl
  ends_json (array js) c = ends_items js false
  ends_json (object ms) c = ends_members ms false

  ends_items : (js : Items) (c : Bool) → fold (λ _ u. ends u) c (items_tokens js) ≡ true
  ends_items no_items c = refl
  ends_items (item j js) c = fold-append (λ _ u. ends u) c (json_tokens j) (items_tokens js) ∙ ends_items js _

  ends_members : (ms : Members) (c : Bool) → fold (λ _ u. ends u) c (members_tokens ms) ≡ true
  ends_members no_members c = refl
  ends_members (member k j ms) c =
      fold-append (λ _ u. ends u) false (json_tokens j) (members_tokens ms) ∙ ends_members ms _

pub printed_then : (j : Json) (ts : List Token)
    → print_from false (json_tokens j ++ ts) ≡ print (json_tokens j) ++ print_from true ts
printed_then j ts =
    print_from-append false (json_tokens j) ts
    ∙ ap (λ b. print (json_tokens j) ++ print_from b ts) (ends_json j false)

-- ---- elements

-- the text of elements, after another or at first, with the closing bracket
abbrev pub printed_items : Bool → Items → List ℕ
printed_items needs_comma js = print_from needs_comma (items_tokens js)

pub no_more_items : (needs_comma : Bool) → printed_items needs_comma no_items ≡ 93 ∷ []
unfolding print_from
no_more_items true = refl
no_more_items false = refl

first_printed : (needs_comma : Bool) (j : Json) (ts : List Token)
    → print_from needs_comma (json_tokens j ++ ts) ≡ comma_if needs_comma ++ print_from false (json_tokens j ++ ts)
unfolding print_from
first_printed false j ts = refl
first_printed true null ts = refl
first_printed true (boolean b) ts = refl
first_printed true (number s) ts = refl
first_printed true (string s) ts = refl
first_printed true (array js) ts = refl
first_printed true (object ms) ts = refl

pub one_more_item : (needs_comma : Bool) (j : Json) (js : Items)
    → comma_if needs_comma ++ (print (json_tokens j) ++ printed_items true js) ≡ printed_items needs_comma (item j js)
one_more_item needs_comma j js =
    ap (λ l. comma_if needs_comma ++ l) (sym (printed_then j (items_tokens js)))
    ∙ sym (first_printed needs_comma j (items_tokens js))

pub array_printed : (js : Items) → 91 ∷ printed_items false js ≡ print (json_tokens (array js))
unfolding print_from
array_printed js = refl

-- ---- members

pub key_alone : (k : List ℕ) → print (key k ∷ []) ≡ quoted k ++ 58 ∷ []
unfolding print_from
key_alone k = append-nil (quoted k ++ 58 ∷ [])

-- the text of members, after another or at first, with the closing brace
abbrev pub printed_members : Bool → Members → List ℕ
printed_members needs_comma ms = print_from needs_comma (members_tokens ms)

pub no_more_members : (needs_comma : Bool) → 125 ∷ [] ≡ printed_members needs_comma no_members
unfolding print_from
no_more_members true = refl
no_more_members false = refl

key_printed : (needs_comma : Bool) (k : List ℕ) (ts : List Token)
    → comma_if needs_comma ++ ((quoted k ++ 58 ∷ []) ++ print_from false ts) ≡ print_from needs_comma (key k ∷ ts)
unfolding print_from
key_printed true k ts = refl
key_printed false k ts = refl

pub one_more_member : (needs_comma : Bool) (k : List ℕ) (j : Json) (ms : Members)
    → comma_if needs_comma ++ ((quoted k ++ 58 ∷ print (json_tokens j)) ++ printed_members true ms)
    ≡ printed_members needs_comma (member k j ms)
one_more_member needs_comma k j ms =
    let rest = members_tokens ms in
    let s = print (json_tokens j) in
    ap (λ l. comma_if needs_comma ++ l)
    (append_assoc (quoted k) (58 ∷ s) (print_from true rest)
    ∙ sym (append_assoc (quoted k) (58 ∷ []) (s ++ print_from true rest))
    ∙ ap (λ l. (quoted k ++ 58 ∷ []) ++ l) (sym (printed_then j rest)))
    ∙ key_printed needs_comma k (json_tokens j ++ rest)

entries_printed : (needs_comma : Bool) (es : List JsonMember)
    → comma_if_then_member_texts needs_comma es ++ 125 ∷ [] ≡ printed_members needs_comma (entry_members es)
entries_printed needs_comma [] = no_more_members needs_comma
entries_printed needs_comma (e ∷ es) =
    append_assoc (comma_if needs_comma) (member_text e ++ comma_if_then_member_texts true es) (125 ∷ [])
    ∙ ap (λ l. comma_if needs_comma ++ l) (append_assoc (member_text e) (comma_if_then_member_texts true es) (125 ∷ [])
    ∙ ap (λ l. member_text e ++ l) (entries_printed true es))
    ∙ one_more_member needs_comma e.0 e.1 (entry_members es)

pub brace_printed : (ms : Members) → 123 ∷ printed_members false ms ≡ print (json_tokens (object ms))
unfolding print_from
brace_printed ms = refl

pub object_printed : (es : List JsonMember)
    → 123 ∷ (comma_if_then_member_texts false es ++ 125 ∷ []) ≡ print (json_tokens (object (entry_members es)))
object_printed es = ap (λ l. 123 ∷ l) (entries_printed false es) ∙ brace_printed (entry_members es)
