-- What is left to read of a value, and what the whole is once it is read.
use Rattle.std.proofs.Common.{◌≡◌, ℕ, ◌-◌, ◌<◌, ◌≤◌, ◌⊎◌, List, [], ◌∷◌, length, Option, Some, None, option_and_then}
use Rattle.std.proofs.Common.{refl, sym, ap, ◌∙◌, arith, Bor, inl, inr}
use Rattle.std.specs.Prelude as prelude
use Rattle.json.specs.Token.{Token}
use Rattle.json.specs.Reads.{token_of}
use Rattle.json.specs.Json.{Json, Items, no_items, item, Members, no_members, member, array, object}
use Rattle.json.specs.Json.{string, number, boolean, null, if_last}
use Rattle.json.specs.Json.{Parse, parse_map, after_end_array, read_key, items, members, value}
use Rattle.json.specs.declared.token.Token as found
use Rattle.json.specs.declared.token.Token.TheVariants.{EndObject, EndArray, Key, Bad, String, Number, Bool, Null}
use Rattle.json.proofs.Grammar.{items_end, items_more, items_fail, value_is, value-begin_array, value-begin_object}
use Rattle.json.proofs.Grammar.{members_end, members_more, members_fail, members_no_key, read_key-shorter}
use Rattle.bson_tokens.specs.DuplicateKeyPath.{first_duplicate}

same_map : {A : Type 0} (o : Option (A × List Token)) → o ≡ parse_map (λ a. a) o
same_map None = refl
same_map (Some p) = refl

twice : {A B C : Type 0} (f : B → C) (g : A → B) (o : Option (A × List Token))
    → parse_map f (parse_map g o) ≡ parse_map (λ a. f (g a)) o
twice f g None = refl
twice f g (Some p) = refl

-- the whole, from its start on, is what is left after what was read
pub record ToGo {A : Type 0} (rest : ℕ → Parse A) (start : List Token) (front : A → A) (ts : List Token) : Type 0 where
  pub turns : ℕ
  pub enough : length ts ≤ turns
  pub is : rest (length start) start ≡ parse_map front (rest turns ts)
  pub shorter : length ts ≤ length start

pub begun : {A : Type 0} (rest : ℕ → Parse A) (ts : List Token) → ToGo rest ts (λ a. a) ts
begun rest ts = record {
  turns = length ts;
  enough = omega arith;
  is = same_map (rest (length ts) ts);
  shorter = omega arith;
}

module _ (p : Parse Json) (start : List Token) (front : Items → Items) (ts : List Token)
    (go : ToGo (items p) start front ts) where
  pub item_passed : (s r : List Token) (j : Json) → after_end_array ts ≡ None → s ≡ ts → p s ≡ Some (j, r)
      → length r < length s → ToGo (items p) start (λ js. front (item j js)) r
  item_passed s r j going same read less =
      let fewer : length r < length ts = rw (← same) less in
      record {
        turns = go.turns - 1;
        enough = omega (arith, go.enough, fewer);
        is = go.is ∙ ap (parse_map front)
            (items_more p go.turns ts r j (omega (arith, go.enough, fewer)) going (ap p (sym same) ∙ read))
            ∙ twice front (item j) (items p (go.turns - 1) r);
        shorter = omega (arith, go.shorter, fewer);
      }

  pub items_ended : (r : List Token) → after_end_array ts ≡ Some r
      → items p (length start) start ≡ Some (front no_items, r)
  items_ended r ended = go.is ∙ ap (parse_map front) (items_end p go.turns ts r go.enough ended)

  pub items_broken : (s : List Token) → after_end_array ts ≡ None → s ≡ ts → p s ≡ None
      → items p (length start) start ≡ None
  items_broken s going same broken =
      go.is ∙ ap (parse_map front) (items_fail p go.turns ts going (ap p (sym same) ∙ broken))

module _ (p : Parse Json) (start : List Token) (front : Members → Members) (ts : List Token)
    (go : ToGo (members p) start front ts) where
  pub member_passed : (k : List ℕ) (s r : List Token) (j : Json) → read_key ts ≡ Some (Some k, s)
      → p s ≡ Some (j, r) → length r < length s → ToGo (members p) start (λ ms. front (member k j ms)) r
  member_passed k s r j named read less =
      let fewer = read_key-shorter ts (Some k) s named in
      record {
        turns = go.turns - 1;
        enough = omega (arith, go.enough, less, fewer);
        is = go.is
            ∙ ap (parse_map front) (members_more p go.turns k ts s r j (omega (arith, go.enough, fewer)) named read)
            ∙ twice front (member k j) (members p (go.turns - 1) r);
        shorter = omega (arith, go.shorter, less, fewer);
      }

  pub members_ended : (r : List Token) → read_key ts ≡ Some (None, r)
      → members p (length start) start ≡ Some (front no_members, r)
  members_ended r ended = go.is ∙ ap (parse_map front) (members_end p go.turns ts r go.enough ended)

  pub no_key : read_key ts ≡ None → members p (length start) start ≡ None
  no_key none = go.is ∙ ap (parse_map front) (members_no_key p go.turns ts none)

  pub member_broken : (k : List ℕ) (s : List Token) → read_key ts ≡ Some (Some k, s) → p s ≡ None
      → members p (length start) start ≡ None
  member_broken k s named broken = go.is ∙ ap (parse_map front) (members_fail p go.turns k ts s named broken)

-- ---- one value

pub array_opened : (depth : ℕ) (ts r : List Token) → ts ≡ Token.begin_array ∷ r → 0 < depth
    → value depth ts ≡ parse_map array (items (value (depth - 1)) (length r) r)
array_opened depth ts r is left = ap (value depth) is ∙ value-begin_array depth r left

pub object_opened : (depth : ℕ) (ts r : List Token) → ts ≡ Token.begin_object ∷ r → 0 < depth
    → value depth ts ≡ parse_map object (members (value (depth - 1)) (length r) r)
object_opened depth ts r is left = ap (value depth) is ∙ value-begin_object depth r left

pub too_deep_array : (depth : ℕ) (ts r : List Token) → ts ≡ Token.begin_array ∷ r → depth ≡ 0 → value depth ts ≡ None
unfolding value
too_deep_array depth ts r is deep = rw (is, deep) refl

pub too_deep_object : (depth : ℕ) (ts r : List Token) → ts ≡ Token.begin_object ∷ r → depth ≡ 0
    → value depth ts ≡ None
unfolding value
too_deep_object depth ts r is deep = rw (is, deep) refl

-- a token of its own is a value that has no key
pub plain_begins : (depth : ℕ) (k : found.Token) (ts r : List Token) → ts ≡ token_of k ∷ r
    → ((s : Bor (List ℕ)) × (k ≡ String s)) ⊎ ((s : Bor (List ℕ)) × (k ≡ Number s)) ⊎ ((b : prelude.Bool) × (k ≡ Bool b))
    ⊎ (k ≡ Null)
    → (j : Json) × (value depth ts ≡ Some (j, r)) × (None ≡ first_duplicate j)
plain_begins depth k ts r is (inl (s, e)) =
    (string s.now, ap (value depth) (is ∙ ap (λ t. token_of t ∷ r) e) ∙ value_is depth (Token.string s.now ∷ r), refl)
plain_begins depth k ts r is (inr (inl (s, e))) =
    (number s.now, ap (value depth) (is ∙ ap (λ t. token_of t ∷ r) e) ∙ value_is depth (Token.number s.now ∷ r), refl)
plain_begins depth k ts r is (inr (inr (inl (b, e)))) =
    (boolean b, ap (value depth) (is ∙ ap (λ t. token_of t ∷ r) e) ∙ value_is depth (Token.boolean b ∷ r), refl)
plain_begins depth k ts r is (inr (inr (inr e))) =
    (null, ap (value depth) (is ∙ ap (λ t. token_of t ∷ r) e) ∙ value_is depth (Token.null ∷ r), refl)

-- no value begins with a closing bracket, a key, or what is no token
pub none_begins : (depth : ℕ) (k : found.Token) (ts r : List Token) → ts ≡ token_of k ∷ r
    → (k ≡ EndObject) ⊎ (k ≡ EndArray) ⊎ ((s : Bor (List ℕ)) × (k ≡ Key s)) ⊎ (k ≡ Bad) → value depth ts ≡ None
none_begins depth k ts r is (inl e) =
    ap (value depth) (is ∙ ap (λ t. token_of t ∷ r) e) ∙ value_is depth (Token.end_object ∷ r)
none_begins depth k ts r is (inr (inl e)) =
    ap (value depth) (is ∙ ap (λ t. token_of t ∷ r) e) ∙ value_is depth (Token.end_array ∷ r)
none_begins depth k ts r is (inr (inr (inl (s, e)))) =
    ap (value depth) (is ∙ ap (λ t. token_of t ∷ r) e) ∙ value_is depth (Token.key s.now ∷ r)
none_begins depth k ts r is (inr (inr (inr e))) =
    ap (value depth) (is ∙ ap (λ t. token_of t ∷ r) e) ∙ value_is depth (Token.bad ∷ r)

-- what was read to the end of the text
pub whole : (o : Option (Json × List Token)) (j : Json) → o ≡ Some (j, [])
    → option_and_then (λ p. if_last p.0 p.1) o ≡ Some j
whole o j e = ap (option_and_then (λ p. if_last p.0 p.1)) e

pub not_whole : (o : Option (Json × List Token)) (j : Json) (t : Token) (ts : List Token) → o ≡ Some (j, t ∷ ts)
    → option_and_then (λ p. if_last p.0 p.1) o ≡ None
not_whole o j t ts e = ap (option_and_then (λ p. if_last p.0 p.1)) e
