-- What was parsed of an object, of a wrapper and of a value.
use Rattle.std.proofs.Common.{◌≡◌, ℕ, zero, suc, List, ◌∷◌, length, Option, Some, None}
use Rattle.std.proofs.Common.{Result, Ok, Err, option_and_then, refl, sym, ap, ◌∙◌, subst}
use Rattle.std.proofs.Common.{Bor, inl, inr, ◌⊎◌}
use Rattle.std.specs.Result.{MatchResult, IsErrAnd}
use Rattle.std.proofs.lemmas.Option.{same_Some}
use Rattle.json.specs.Json as json
use Rattle.json.specs.Json.{Parse, read_key, members, members_step, value}
use Rattle.json.specs.Token as token
use Rattle.json.specs.Token.{Token}
use Rattle.json.specs.Reads.{token_of}
use Rattle.json.specs.declared.token.Token as found
use Rattle.json.specs.declared.token.Token.TheVariants.{EndObject, EndArray, Key, Bad}
use Rattle.json.proofs.Grammar.{value_is}
use Rattle.serde_json.specs.Data.{Data}
use Rattle.serde_json.specs.Data as tree
use Rattle.serde_json.specs.Find.{as_str}
use Rattle.serde_json.specs.Read.{of_json, converted}
use Rattle.bson_scalar.specs.Reading.{optional_wrapper_read_in}
use Rattle.bson_scalar.specs.declared.form.Doubles.{Doubles}
use Rattle.bson_scalar.specs.declared.wrapper.Wrapper.{Wrapper}
use Rattle.bson_model.specs.OrderedTrees.{tree_of_json, tree_sorted_by_key}
use Rattle.bson_tokens.specs.WrapperContent.{IsWrapperContent}
use Rattle.bson_tokens.proofs.Offered.{was_read as from_tree}
use Rattle.bson_text.specs.TraversalResults.{members_after_key}
use Rattle.bson_text.proofs.Objects.{kept_from}
use Rattle.bson_text.proofs.Denials.{then_parsed}
use Rattle.bson_text.proofs.ObjectDenials.{FirstKey}

pub same_parse : {A : Type 0} (o : Option (A × List Token)) (a b : A) (r s : List Token) → o ≡ Some (a, r) → o ≡ Some (b, s)
    → (a ≡ b) × (r ≡ s)
same_parse {A} o a b r s h g =
    let same : (a, r) ≡ (b, s) = same_Some {A = A × List Token} (a, r) (b, s) (sym h ∙ g) in
    (ap (λ p. p.0) same, ap (λ p. p.1) same)

pub first_parsed : (depth : ℕ) (first : Option (List ℕ)) (s r : List Token) (ms : json.Members)
    → members_after_key depth first s ≡ Some (ms, r) → FirstKey first ms
first_parsed depth None s r ms is =
    let same : (json.no_members, s) ≡ (ms, r) = same_Some {A = json.Members × List Token} (json.no_members, s) (ms, r) is in
    sym (ap (λ p. p.0) same)
first_parsed depth (Some k) s r ms is =
    let g = then_parsed (json.member k) (members (value depth) (length s)) (value depth s) ms r is in (g.0, g.2, g.5)

-- after the first member
pub after_first : (p : Parse json.Json) (n : ℕ) (k : List ℕ) (ts r rest : List Token) (j : json.Json) (ms : json.Members)
    → members_step p (members p n) (Some k) ts ≡ Some (ms, rest) → p ts ≡ Some (j, r)
    → (ns : json.Members) × (members p n r ≡ Some (ns, rest)) × (ms ≡ json.member k j ns)
after_first p n k ts r rest j ms is read =
    let g = then_parsed (json.member k) (members p n) (p ts) ms rest is in
    let same = same_parse (p ts) g.0 j g.1 r g.3 read in
    (g.2, ap (members p n) (sym same.1) ∙ g.4, g.5 ∙ ap (λ x. json.member k x g.2) same.0)

pub none_behind : (p : Parse json.Json) (n : ℕ) (r s rest : List Token) (ns : json.Members) → read_key r ≡ Some (None, s)
    → members p n r ≡ Some (ns, rest) → ns ≡ json.no_members
unfolding members
none_behind p zero r s rest ns ended is = cc
none_behind p (suc n) r s rest ns ended is =
    let here : Some (json.no_members, s) ≡ Some (ns, rest) =
    sym (ap (option_and_then (λ q. members_step p (members p n) q.0 q.1)) ended) ∙ is in
    let same : (json.no_members, s) ≡ (ns, rest) = same_Some {A = json.Members × List Token} (json.no_members, s) (ns, rest) here in
    sym (ap (λ q. q.0) same)

-- a further member after
pub one_behind : (p : Parse json.Json) (n : ℕ) (r q rest : List Token) (l : List ℕ) (ns : json.Members)
    → read_key r ≡ Some (Some l, q) → members p n r ≡ Some (ns, rest)
    → (m : ℕ) × (i : json.Json) × (end : List Token) × (os : json.Members) × (p q ≡ Some (i, end))
    × (members p m end ≡ Some (os, rest)) × (ns ≡ json.member l i os)
unfolding members
one_behind p zero r q rest l ns named is = cc
one_behind p (suc n) r q rest l ns named is =
    let here : members_step p (members p n) (Some l) q ≡ Some (ns, rest) =
    sym (ap (option_and_then (λ x. members_step p (members p n) x.0 x.1)) named) ∙ is in
    let g = then_parsed (json.member l) (members p n) (p q) ns rest here in
    (n, g.0, g.1, g.2, g.3, g.4, g.5)

pub ends_at : (p : Parse json.Json) (n : ℕ) (end rest : List Token) (k : Option (Option (List ℕ) × List Token))
    → read_key end ≡ k → option_and_then (λ q. members_step p (members p n) q.0 q.1) k ≡ Some (json.no_members, rest)
    → read_key end ≡ Some (None, rest)
ends_at p n end rest None key is = cc
ends_at p n end rest (Some (None, s)) key is =
    let same : (json.no_members, s) ≡ (json.no_members, rest) =
    same_Some {A = json.Members × List Token} (json.no_members, s) (json.no_members, rest) is in
    key ∙ ap (λ q. Some (None, q.1)) same
ends_at p n end rest (Some (Some k, s)) key is =
    let g = then_parsed (json.member k) (members p n) (p s) json.no_members rest is in let never = g.5 in cc

-- no member follows, so the object ends
pub ended : (p : Parse json.Json) (n : ℕ) (end rest : List Token) → members p n end ≡ Some (json.no_members, rest)
    → read_key end ≡ Some (None, rest)
unfolding members
ended p zero end rest is = cc
ended p (suc n) end rest is = ends_at p n end rest (read_key end) refl is

-- what a wrapper's tree represents
pub held_is : (depth : ℕ) (ts r : List Token) (held : Data) → IsWrapperContent (converted of_json (value depth ts)) held r
    → (j : json.Json) × (value depth ts ≡ Some (j, r)) × (d : Data) × (tree_of_json j ≡ Some d)
    × ((D : Doubles) (w : Option Wrapper) → optional_wrapper_read_in D w held ≡ optional_wrapper_read_in D w (tree_sorted_by_key d))
    × (as_str held ≡ as_str (tree_sorted_by_key d))
held_is depth ts r held read =
    let j = from_tree of_json (value depth ts) read.0 r read.1 in
    let d = kept_from j.0 read.0 j.2 in (
      j.0,
      j.1,
      d.0,
      d.1,
      λ D w. subst (λ t. optional_wrapper_read_in D w held ≡ optional_wrapper_read_in D w t) (sym d.2) (read.2.0 D w),
      subst (λ t. as_str held ≡ as_str t) (sym d.2) read.2.1,
    )

-- no value begins with a closing bracket, a key, or what is no token
pub nothing_begins : (depth : ℕ) (k : found.Token) (ts r : List Token) → ts ≡ token_of k ∷ r
    → (k ≡ EndObject) ⊎ (k ≡ EndArray) ⊎ ((s : Bor (List ℕ)) × (k ≡ Key s)) ⊎ (k ≡ Bad) → value depth ts ≡ None
nothing_begins depth k ts r is (inl e) =
    ap (value depth) (is ∙ ap (λ t. token_of t ∷ r) e) ∙ value_is depth (token.end_object ∷ r)
nothing_begins depth k ts r is (inr (inl e)) =
    ap (value depth) (is ∙ ap (λ t. token_of t ∷ r) e) ∙ value_is depth (token.end_array ∷ r)
nothing_begins depth k ts r is (inr (inr (inl (s, e)))) =
    ap (value depth) (is ∙ ap (λ t. token_of t ∷ r) e) ∙ value_is depth (token.key s.now ∷ r)
nothing_begins depth k ts r is (inr (inr (inr e))) =
    ap (value depth) (is ∙ ap (λ t. token_of t ∷ r) e) ∙ value_is depth (token.bad ∷ r)

-- where an error was turned into another
pub was_err : {X F G : Type 0} (Q : F → G → Type 0) (r : Result X F) (q : Result X G) (e : G)
    → MatchResult r (λ y. q ≡ Ok y) (λ f. IsErrAnd q (Q f)) → q ≡ Err e → (f : F) × (r ≡ Err f) × Q f e
was_err Q (Ok y) q e is now = cc
was_err Q (Err f) q e is now = (f, refl, subst (λ s. IsErrAnd s (Q f)) now is)

pub a_text : (t : Data) (s : List ℕ) → as_str t ≡ Some s → t ≡ tree.string s
a_text tree.null s is = cc
a_text (tree.boolean b) s is = cc
a_text (tree.number n) s is = cc
a_text (tree.string r) s is = ap tree.string (same_Some r s is)
a_text (tree.array ds) s is = cc
a_text (tree.object ms) s is = cc
