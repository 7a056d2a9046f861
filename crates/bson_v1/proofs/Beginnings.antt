-- How an object begins.
use Rattle.std.proofs.Common.{◌≡◌, ℕ, List, ◌∷◌, Option, Some, None, refl, subst, sym, ap, ◌∙◌}
use Rattle.std.specs.Borrow.{Bor}
use Rattle.json.specs.Json.{Json, Members, no_members, member, parse_map, read_key, value}
use Rattle.json.specs.Json as json
use Rattle.json.specs.Token.{Token}
use Rattle.json.specs.Token as token
use Rattle.json.proofs.Grammar.{read_key_is, value_is}
use Rattle.bson_tokens.specs.NormalizerStates.{object_rest}
use Rattle.bson_tokens.proofs.Offered.{last_member, one_member}
use Rattle.json.specs.Reads.{token_of}
use Rattle.json.specs.declared.token.Token as found
use Rattle.bson_v1.specs.LeadingMembers.{AreTwoStrings, IsObjectStart, IsNextMember, HasNoV1Shape, leading_tokens, with_leading_members}
use Rattle.bson_v1.specs.declared.object_start.ObjectStart.TheVariants.{Complete, Incomplete}
use Rattle.bson_v1.specs.declared.object_start.LeadingStrings.{LeadingStrings}
use Rattle.bson_v1.specs.declared.object_start.LeadingStrings.TheVariants.{Empty, One, Two}

no_map : {A : Type 0} (o : Option (A × List Token)) → o ≡ parse_map (λ x. x) o
no_map None = refl
no_map (Some p) = refl

two_maps : {A : Type 0} (f g : A → A) (o : Option (A × List Token)) → parse_map f (parse_map g o) ≡ parse_map (λ x. f (g x)) o
two_maps f g None = refl
two_maps f g (Some p) = refl

text_held : (depth : ℕ) (k s : List ℕ) (ts : List Token)
    → object_rest depth (token.key k ∷ token.string s ∷ ts) ≡ parse_map (member k (json.string s)) (object_rest depth ts)
text_held depth k s ts =
    one_member depth k (token.key k ∷ token.string s ∷ ts) (token.string s ∷ ts) ts (json.string s) refl
    (value_is depth (token.string s ∷ ts))

-- the strings, before what else is inside
pub held_inside : (depth : ℕ) (leading : LeadingStrings) (ts : List Token)
    → object_rest depth (leading_tokens leading ts) ≡ parse_map (with_leading_members leading) (object_rest depth ts)
held_inside depth Empty ts = no_map (object_rest depth ts)
held_inside depth (One k s) ts = text_held depth k.now s.now ts
held_inside depth (Two k s l t) ts =
    text_held depth k.now s.now (token.key l.now ∷ token.string t.now ∷ ts)
    ∙ ap (parse_map (member k.now (json.string s.now))) (text_held depth l.now t.now ts)
    ∙ two_maps (member k.now (json.string s.now)) (member l.now (json.string t.now)) (object_rest depth ts)

pub none_inside : (depth : ℕ) (leading : LeadingStrings) (ts : List Token) → object_rest depth ts ≡ None
    → object_rest depth (leading_tokens leading ts) ≡ None
none_inside depth leading ts none = held_inside depth leading ts ∙ ap (parse_map (with_leading_members leading)) none

pub whole_inside : (depth : ℕ) (leading : LeadingStrings) (ts r : List Token) → read_key ts ≡ Some (None, r)
    → object_rest depth (leading_tokens leading ts) ≡ Some (with_leading_members leading no_members, r)
whole_inside depth leading ts r ended =
    held_inside depth leading ts ∙ ap (parse_map (with_leading_members leading)) (last_member depth ts r ended)

pub open_inside : (depth : ℕ) (leading : LeadingStrings) (k : List ℕ) (ts q : List Token) → read_key ts ≡ Some (Some k, q)
    → object_rest depth (leading_tokens leading ts) ≡ parse_map (with_leading_members leading) (object_rest depth (token.key k ∷ q))
open_inside depth leading k ts q named =
    held_inside depth leading ts ∙ ap (λ us. parse_map (with_leading_members leading) (object_rest depth us)) (read_key_is ts (Some k) q named)

-- ---- where the beginning ends

pub whole_next : (leading : LeadingStrings) (ts r : List Token) (o : Option (Bor (List ℕ) × found.Token)) → o ≡ None
    → IsNextMember o ts r → IsObjectStart (Complete leading) (leading_tokens leading ts) r
whole_next leading ts r None is next = λ depth. whole_inside depth leading ts r next
whole_next leading ts r (Some p) is next = cc

pub open_next : (leading : LeadingStrings) (k : Bor (List ℕ)) (t : found.Token) (ts r : List Token)
    (o : Option (Bor (List ℕ) × found.Token)) → o ≡ Some (k, t) → HasNoV1Shape leading t → IsNextMember o ts r
    → IsObjectStart (Incomplete leading k t) (leading_tokens leading ts) r
open_next leading k t ts r o is lookahead next =
    let known : IsNextMember (Some (k, t)) ts r = subst (λ x. IsNextMember x ts r) is next in
    (lookahead, known.1, λ depth. open_inside depth leading k.now ts (token_of t ∷ r) known.0)

pub two_open : (leading : LeadingStrings) (t : found.Token) → AreTwoStrings leading → HasNoV1Shape leading t
two_open Empty t two = absurd two
two_open (One k s) t two = absurd two
two_open (Two k s l u) t two = two
