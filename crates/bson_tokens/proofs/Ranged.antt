-- Trees whose numbers are in range, and what was read where they are.
use Rattle.std.proofs.Common.{◌≡◌, ℕ, List, [], ◌∷◌, Bool, true, false, ◌&&◌, Option, Some, None, option_map, option_and_then}
use Rattle.std.proofs.Common.{refl, sym, ap, ◌∙◌}
use Rattle.std.proofs.lemmas.Bool.{and_parts}
use Rattle.std.proofs.lemmas.Option.{same_Some}
use Rattle.std.specs.Prelude.{is_some}
use Rattle.json.specs.Json.{Json, null, boolean, number, string, array, object, Items, no_items, item}
use Rattle.json.specs.Json.{Members, no_members, member, parse_map, if_last, value}
use Rattle.json.specs.Lex.{tokens}
use Rattle.json.specs.Token.{Token}
use Rattle.serde_json.specs.Data as tree
use Rattle.serde_json.specs.Data.{Num}
use Rattle.serde_json.specs.Read.{read, number_of, of_json, of_items, of_members}
use Rattle.bson_tokens.specs.Normalized.{HasNumbersInRange, ItemsHaveNumbersInRange, MembersHaveNumbersInRange}
use Rattle.bson_tokens.specs.NormalizerStates.{all_numbers_in_range, item_numbers_in_range, member_numbers_in_range, if_valid}

a_number : (o : Option Num) → is_some o ≡ true → (n : Num) × (o ≡ Some n)
a_number None h = cc
a_number (Some n) h = (n, refl)

no_number : (o : Option Num) → is_some o ≡ false → o ≡ None
no_number None h = refl
no_number (Some n) h = cc

mutual
  pub has_numbers : (j : Json) → all_numbers_in_range j ≡ true → HasNumbersInRange j
  has_numbers null h = tt
  has_numbers (boolean b) h = tt
  has_numbers (number s) h = a_number (number_of s) h
  has_numbers (string s) h = tt
  has_numbers (array js) h = items_have_numbers js h
  has_numbers (object ms) h = members_have_numbers ms h

  items_have_numbers : (js : Items) → item_numbers_in_range js ≡ true → ItemsHaveNumbersInRange js
  items_have_numbers no_items h = tt
  items_have_numbers (item j js) h =
      let p = and_parts (all_numbers_in_range j) (item_numbers_in_range js) h in (has_numbers j p.0, items_have_numbers js p.1)

  members_have_numbers : (ms : Members) → member_numbers_in_range ms ≡ true → MembersHaveNumbersInRange ms
  members_have_numbers no_members h = tt
  members_have_numbers (member k j ms) h =
      let p = and_parts (all_numbers_in_range j) (member_numbers_in_range ms) h in (has_numbers j p.0, members_have_numbers ms p.1)

-- ---- a number out of range

none_item : (b : Bool) (x : Option tree.Data) (y : Option tree.Items) → (b ≡ false → x ≡ None)
    → (b ≡ true → y ≡ None) → option_and_then (λ d. option_map (tree.item d) y) x ≡ None
none_item false x y first rest = rw (first refl) refl
none_item true None y first rest = refl
none_item true (Some d) y first rest = rw (rest refl) refl

none_member : (b : Bool) (x : Option tree.Data) (f : tree.Data → Option tree.Members) → (b ≡ false → x ≡ None)
    → (b ≡ true → (d : tree.Data) → f d ≡ None) → option_and_then f x ≡ None
none_member false x f first rest = rw (first refl) refl
none_member true None f first rest = refl
none_member true (Some d) f first rest = rest refl d

behind_true : (a b : Bool) → (a && b) ≡ false → a ≡ true → b ≡ false
behind_true true b h is = h
behind_true false b h is = cc

mutual
  pub out_of_range : (j : Json) → all_numbers_in_range j ≡ false → of_json j ≡ None
  out_of_range null h = cc
  out_of_range (boolean b) h = cc
  out_of_range (number s) h = rw (no_number (number_of s) h) refl
  out_of_range (string s) h = cc
  out_of_range (array js) h = rw (items_out_of_range js h) refl
  out_of_range (object ms) h = rw (members_out_of_range ms tree.no_members h) refl

  items_out_of_range : (js : Items) → item_numbers_in_range js ≡ false → of_items js ≡ None
  items_out_of_range no_items h = cc
  items_out_of_range (item j js) h =
      none_item (all_numbers_in_range j) (of_json j) (of_items js) (λ f. out_of_range j f)
      (λ t. items_out_of_range js (behind_true (all_numbers_in_range j) (item_numbers_in_range js) h t))

  members_out_of_range : (ms : Members) (found : tree.Members) → member_numbers_in_range ms ≡ false
      → of_members ms found ≡ None
  members_out_of_range no_members found h = cc
  members_out_of_range (member k j ms) found h =
      none_member (all_numbers_in_range j) (of_json j) (λ d. of_members ms (tree.put k d found)) (λ f. out_of_range j f)
      (λ t d. members_out_of_range ms (tree.put k d found) (behind_true (all_numbers_in_range j) (member_numbers_in_range ms) h t))

-- ---- what was read

module _ {A : Type 0} (f : A → Bool) where
  passes_at : (b : Bool) (p : A × List Token) (a : A) (r : List Token) → f p.0 ≡ b → if_valid f (Some p) ≡ Some (a, r)
      → (Some p ≡ Some (a, r)) × (f a ≡ true)
  passes_at true p a r h e =
      let same : Some p ≡ Some (a, r) = sym (rw h refl) ∙ e in
      (same, ap (λ q. f q.0) (sym (same_Some {A = A × List Token} p (a, r) same)) ∙ h)
  passes_at false p a r h e = let never : None ≡ Some (a, r) = sym (rw h refl) ∙ e in cc

  pub was_sound : (o : Option (A × List Token)) (a : A) (r : List Token) → if_valid f o ≡ Some (a, r)
      → (o ≡ Some (a, r)) × (f a ≡ true)
  was_sound None a r e = cc
  was_sound (Some p) a r e = passes_at _ p a r refl e

  pub is_sound : (o : Option (A × List Token)) (a : A) (r : List Token) → o ≡ Some (a, r) → f a ≡ true
      → if_valid f o ≡ Some (a, r)
  is_sound o a r e h = rw (e, h) refl

  pub none_sound : (o : Option (A × List Token)) → o ≡ None → if_valid f o ≡ None
  none_sound o e = rw e refl

-- a part under a function that asks no more
pub sound_under : {A B : Type 0} (f : A → Bool) (g : B → Bool) (wrap : A → B) (o : Option (A × List Token))
    → ((a : A) → g (wrap a) ≡ f a) → if_valid g (parse_map wrap o) ≡ parse_map wrap (if_valid f o)
sound_under f g wrap None same = refl
sound_under f g wrap (Some (a, r)) same = under_at (f a) refl
  where
    under_at : (b : Bool) → f a ≡ b → if_valid g (Some (wrap a, r)) ≡ parse_map wrap (if_valid f (Some (a, r)))
    under_at true h = rw (same a, h) refl
    under_at false h = rw (same a, h) refl

-- a first part out of range
pub sound_none : {A B : Type 0} (g : B → Bool) (wrap : A → B) (o : Option (A × List Token))
    → ((a : A) → g (wrap a) ≡ false) → if_valid g (parse_map wrap o) ≡ None
sound_none g wrap None never = refl
sound_none g wrap (Some (a, r)) never = rw (never a) refl

-- ---- a whole text

abbrev whole : Option (Json × List Token) → Option tree.Data
whole o = option_and_then of_json (option_and_then (λ p. if_last p.0 p.1) o)

pub none_read : (o : Option (Json × List Token)) → if_valid all_numbers_in_range o ≡ None → whole o ≡ None
none_read None e = refl
none_read (Some (j, [])) e = none_at (all_numbers_in_range j) refl
  where
    none_at : (b : Bool) → all_numbers_in_range j ≡ b → of_json j ≡ None
    none_at true h = let never : Some (j, []) ≡ None = sym (is_sound all_numbers_in_range (Some (j, [])) j [] refl h) ∙ e in cc
    none_at false h = out_of_range j h
none_read (Some (j, t ∷ ts)) e = refl

pub more_left : (o : Option (Json × List Token)) (j : Json) (t : Token) (ts : List Token)
    → if_valid all_numbers_in_range o ≡ Some (j, t ∷ ts) → whole o ≡ None
more_left o j t ts e = ap whole (was_sound all_numbers_in_range o j (t ∷ ts) e).0

pub text_none : (text : List ℕ) (ts : List Token) → ts ≡ tokens text → if_valid all_numbers_in_range (value 127 ts) ≡ None
    → read text ≡ None
text_none text ts start none =
    none_read (value 127 (tokens text)) (ap (λ us. if_valid all_numbers_in_range (value 127 us)) (sym start) ∙ none)
