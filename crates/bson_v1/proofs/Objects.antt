-- An object by what it begins with, and a scope.
use Rattle.std.proofs.Common.{◌≡◌, ◌||◌, ◌&&◌, ◌<◌, ◌-◌, ℕ, List, [], ◌∷◌, ◌++◌, Bool, true, false, cond, Option, Some, None}
use Rattle.std.proofs.Common.{append_assoc, refl, sym, ap, ◌∙◌}
use Rattle.std.proofs.lemmas.Option.{same_Some}
use Rattle.std.specs.Borrow.{Bor}
use Rattle.std.specs.Prelude.{codes}
use Rattle.std.specs.Str.{bytes_eq}
use Rattle.json.specs.Json.{Json, Members, no_members, member, object, parse_map, read_key, value}
use Rattle.json.specs.Json as json
use Rattle.json.specs.Reads.{token_of}
use Rattle.json.specs.Token.{Token}
use Rattle.json.specs.Token as token
use Rattle.json.specs.Tree.{json_tokens, members_tokens}
use Rattle.json.specs.declared.token.Token as found
use Rattle.json.specs.declared.token.Token.TheVariants as first
use Rattle.json.proofs.Grammar.{read_key_is, value_is, value-begin_object}
use Rattle.bson_tokens.specs.NormalizerStates.{object_rest}
use Rattle.bson_tokens.proofs.Offered.{last_member, no_member, one_member}
use Rattle.bson_v1.specs.LeadingMembers.{IsObjectStart, HasNoV1Shape, WritesRemainingMembers, WritesScopeAndRest, WritesScope, starts_code_member, code_before_scope, leading_tokens, with_leading_members}
use Rattle.bson_v1.specs.LeadingMembers.{upgraded_later_members, upgraded_scope_before, scope_or_value, scope_candidate, starts_with_code}
use Rattle.bson_v1.specs.Upgraded.{is_code, is_scope, upgraded, upgraded_members, upgraded_object, upgraded_scope, v1_shape, not_v1, upgraded_wrapper}
use Rattle.bson_v1.specs.WrittenTokens.{WritesMembers, WritesTokens, upgraded_members_tokens, upgraded_object_tokens}
use Rattle.bson_v1.specs.declared.object_start.ObjectStart.TheVariants.{Incomplete}
use Rattle.bson_v1.specs.declared.object_start.LeadingStrings.{LeadingStrings}
use Rattle.bson_v1.specs.declared.object_start.LeadingStrings.TheVariants.{Empty, One, Two}
use Rattle.bson_v1.proofs.Shapes.{is_object, is_text, no_object_begins, no_text_begins, other_first, other_second}

scope_as_value : (j : Json) → is_object j ≡ false → upgraded_scope j ≡ upgraded j
scope_as_value json.null plain = refl
scope_as_value (json.boolean b) plain = refl
scope_as_value (json.number s) plain = refl
scope_as_value (json.string s) plain = refl
scope_as_value (json.array js) plain = refl
scope_as_value (json.object ms) plain = cc

no_code : (k : List ℕ) (j : Json) → is_text j ≡ false → is_code k j ≡ false
no_code k json.null plain = refl
no_code k (json.boolean b) plain = refl
no_code k (json.number s) plain = refl
no_code k (json.string s) plain = cc
no_code k (json.array js) plain = refl
no_code k (json.object ms) plain = refl

abbrev code_read : List ℕ → Option (Json × List Token) → Bool
code_read k None = false
code_read k (Some p) = is_code k p.0

code_begins : (depth : ℕ) (k : List ℕ) (t : found.Token) (ts r : List Token) (j : Json)
    → value depth (token_of t ∷ ts) ≡ Some (j, r) → is_code k j ≡ starts_code_member k t
code_begins depth k (first.String s) ts r j read =
    ap (code_read k) (sym read ∙ value_is depth (token.string s.now ∷ ts))
code_begins depth k first.BeginObject ts r j read = no_code k j (no_text_begins depth first.BeginObject ts r j (λ s e. cc) read)
code_begins depth k first.EndObject ts r j read = no_code k j (no_text_begins depth first.EndObject ts r j (λ s e. cc) read)
code_begins depth k first.BeginArray ts r j read = no_code k j (no_text_begins depth first.BeginArray ts r j (λ s e. cc) read)
code_begins depth k first.EndArray ts r j read = no_code k j (no_text_begins depth first.EndArray ts r j (λ s e. cc) read)
code_begins depth k (first.Key l) ts r j read = no_code k j (no_text_begins depth (first.Key l) ts r j (λ s e. cc) read)
code_begins depth k (first.Number n) ts r j read = no_code k j (no_text_begins depth (first.Number n) ts r j (λ s e. cc) read)
code_begins depth k (first.Bool b) ts r j read = no_code k j (no_text_begins depth (first.Bool b) ts r j (λ s e. cc) read)
code_begins depth k first.Null ts r j read = no_code k j (no_text_begins depth first.Null ts r j (λ s e. cc) read)
code_begins depth k first.Bad ts r j read = no_code k j (no_text_begins depth first.Bad ts r j (λ s e. cc) read)

-- ---- an object of no shape of v1

open_other : (leading : LeadingStrings) (k : List ℕ) (t : found.Token) (depth : ℕ) (ts r : List Token) (j : Json) (ms : Members)
    → HasNoV1Shape leading t → value depth (token_of t ∷ ts) ≡ Some (j, r) → v1_shape (with_leading_members leading (member k j ms)) ≡ not_v1
open_other Empty k t depth ts r j ms lookahead read = other_first k j ms (no_text_begins depth t ts r j lookahead read)
open_other (One c s) k t depth ts r j ms lookahead read =
    other_second c.now k s.now j ms (no_text_begins depth t ts r j lookahead read)
open_other (Two c s d u) k t depth ts r j ms lookahead read = refl

same_cond : {A : Type 0} (a : Bool) (x : A) → cond a x x ≡ x
same_cond true x = refl
same_cond false x = refl

same_branches : {A B : Type 0} (f : A → B) (a b : Bool) (x y : A) → cond a (f x) (cond b (f y) (f y)) ≡ f (cond a x y)
same_branches f true b x y = refl
same_branches f false true x y = refl
same_branches f false false x y = refl

rest_onto : (leading : LeadingStrings) (k : List ℕ) (j : Json) (ms : Members)
    → upgraded_object (with_leading_members leading (member k j ms)) ≡ with_leading_members leading (upgraded_later_members leading k j ms)
rest_onto Empty k j ms = refl
rest_onto (One c s) k j ms =
    same_branches (member c.now (json.string s.now)) (is_code c.now (json.string s.now) && is_scope k)
    (is_scope c.now && is_code k j) (member k (upgraded_scope j) (upgraded_members ms))
    (member k (upgraded j) (upgraded_members ms))
rest_onto (Two c s d t) k j ms =
    same_branches (λ ns. member c.now (json.string s.now) (member d.now (json.string t.now) ns))
    (is_code c.now (json.string s.now) && is_scope d.now) (is_scope c.now && is_code d.now (json.string t.now))
    (member k (upgraded j) (upgraded_members ms)) (member k (upgraded j) (upgraded_members ms))
    ∙ ap (λ ns. member c.now (json.string s.now) (member d.now (json.string t.now) ns))
    (same_cond (is_code c.now (json.string s.now) && is_scope d.now) (member k (upgraded j) (upgraded_members ms)))

onto_tokens : (leading : LeadingStrings) (ms : Members) → members_tokens (with_leading_members leading ms) ≡ leading_tokens leading (members_tokens ms)
onto_tokens Empty ms = refl
onto_tokens (One k s) ms = refl
onto_tokens (Two k s l t) ms = refl

held_before : (leading : LeadingStrings) (ts : List Token) → leading_tokens leading [] ++ ts ≡ leading_tokens leading ts
held_before Empty ts = refl
held_before (One k s) ts = refl
held_before (Two k s l t) ts = refl

-- what is written of an object, after its brace and its strings
object_tokens : (leading : LeadingStrings) (ns : Members) (old begun named new : List Token)
    → begun ≡ old ++ token.begin_object ∷ [] → named ≡ begun ++ leading_tokens leading [] → new ≡ named ++ members_tokens ns
    → new ≡ old ++ json_tokens (object (with_leading_members leading ns))
object_tokens leading ns old begun named new begin strings is =
    is ∙ ap (λ o. o ++ members_tokens ns) strings ∙ append_assoc begun (leading_tokens leading []) (members_tokens ns)
    ∙ ap (λ ts. begun ++ ts) (held_before leading (members_tokens ns) ∙ sym (onto_tokens leading ns))
    ∙ ap (λ o. o ++ members_tokens (with_leading_members leading ns)) begin
    ∙ append_assoc old (token.begin_object ∷ []) (members_tokens (with_leading_members leading ns))

-- the members of an object, from one on whose value begins with the token
rest_read : (leading : LeadingStrings) (depth : ℕ) (k : List ℕ) (ts q r rest : List Token) (j : Json) (ms : Members)
    → object_rest depth ts ≡ parse_map (with_leading_members leading) (object_rest depth (token.key k ∷ q)) → value depth q ≡ Some (j, r)
    → object_rest depth r ≡ Some (ms, rest) → object_rest depth ts ≡ Some (with_leading_members leading (member k j ms), rest)
rest_read leading depth k ts q r rest j ms begins read more =
    begins ∙ ap (parse_map (with_leading_members leading))
    (one_member depth k (token.key k ∷ q) q r j refl read ∙ ap (parse_map (member k j)) more)

pub open_passes : (leading : LeadingStrings) (depth : ℕ) (k : Bor (List ℕ)) (t : found.Token)
    (ts q rest old begun named new : List Token) → IsObjectStart (Incomplete leading k t) ts q
    → begun ≡ old ++ token.begin_object ∷ [] → named ≡ begun ++ leading_tokens leading []
    → WritesRemainingMembers leading depth k.now (token_of t ∷ q) rest named new → WritesTokens upgraded_object_tokens (object_rest depth ts) rest old new
open_passes leading depth k t ts q rest old begun named new (lookahead, printable, begins) begin strings
    (j, ms, r, read, more, wrote) =
    let ns = with_leading_members leading (member k.now j ms) in (
      ns,
      rest_read leading depth k.now ts (token_of t ∷ q) r rest j ms (begins depth) read more,
      object_tokens leading (upgraded_later_members leading k.now j ms) old begun named new begin strings wrote
          ∙ ap (λ x. old ++ json_tokens (object x)) (sym (rest_onto leading k.now j ms))
          ∙ ap (λ x. old ++ json_tokens (upgraded_wrapper x (upgraded_object ns)))
          (sym (open_other leading k.now t depth q r j ms lookahead read)),
    )

-- ---- members

is_no_scope : (leading : LeadingStrings) (k : List ℕ) (t : found.Token) (b : Bool) → code_before_scope leading ≡ Some b
    → is_scope k ≡ true → scope_candidate leading k t ≡ None → (depth : ℕ) (ts r : List Token) (j : Json)
    → value depth (token_of t ∷ ts) ≡ Some (j, r) → upgraded_scope j ≡ upgraded j
is_no_scope leading k first.BeginObject b before scope none depth ts r j read =
    let never : Some b ≡ None = sym before ∙ ap (λ x. cond x (code_before_scope leading) None) (sym scope) ∙ none in cc
is_no_scope leading k first.EndObject b before scope none depth ts r j read =
    scope_as_value j (no_object_begins depth first.EndObject ts r j (λ e. cc) read)
is_no_scope leading k first.BeginArray b before scope none depth ts r j read =
    scope_as_value j (no_object_begins depth first.BeginArray ts r j (λ e. cc) read)
is_no_scope leading k first.EndArray b before scope none depth ts r j read =
    scope_as_value j (no_object_begins depth first.EndArray ts r j (λ e. cc) read)
is_no_scope leading k (first.Key s) b before scope none depth ts r j read =
    scope_as_value j (no_object_begins depth (first.Key s) ts r j (λ e. cc) read)
is_no_scope leading k (first.String s) b before scope none depth ts r j read =
    scope_as_value j (no_object_begins depth (first.String s) ts r j (λ e. cc) read)
is_no_scope leading k (first.Number s) b before scope none depth ts r j read =
    scope_as_value j (no_object_begins depth (first.Number s) ts r j (λ e. cc) read)
is_no_scope leading k (first.Bool s) b before scope none depth ts r j read =
    scope_as_value j (no_object_begins depth (first.Bool s) ts r j (λ e. cc) read)
is_no_scope leading k first.Null b before scope none depth ts r j read =
    scope_as_value j (no_object_begins depth first.Null ts r j (λ e. cc) read)
is_no_scope leading k first.Bad b before scope none depth ts r j read =
    scope_as_value j (no_object_begins depth first.Bad ts r j (λ e. cc) read)

either : {A B : Type 0} (a b : Bool) (f : A → B) (x y : A) → (a ≡ true → x ≡ y) → cond (a && b) (f x) (f y) ≡ f y
either true true f x y same = ap f (same refl)
either true false f x y same = refl
either false b f x y same = refl

both : {A B : Type 0} (a b : Bool) (f : A → B) (x y : A) → (a ≡ true → b ≡ true → x ≡ y)
    → cond (a && b) (f x) (f y) ≡ f y
both true true f x y same = ap f (same refl refl)
both true false f x y same = refl
both false b f x y same = refl

-- what is written of the first member of an object that does not begin with code
first_rest : (k : List ℕ) (j : Json) (ms : Members) → is_code k j ≡ false
    → (is_scope k ≡ true → upgraded_scope j ≡ upgraded j)
    → upgraded_object (member k j ms) ≡ member k (upgraded j) (upgraded_members ms)
first_rest k j no_members plain same = refl
first_rest k j (member l i ms) plain same =
    ap (λ b. cond (b && is_scope l) (member k (upgraded j) (member l (upgraded_scope i) (upgraded_members ms)))
    (cond (is_scope k && is_code l i) (member k (upgraded_scope j) (member l (upgraded i) (upgraded_members ms)))
    (member k (upgraded j) (upgraded_members (member l i ms))))) plain
    ∙ either (is_scope k) (is_code l i) (λ h. member k h (upgraded_members (member l i ms))) (upgraded_scope j) (upgraded j) same

-- what is written of a member after one string
second_rest : (c s : Bor (List ℕ)) (k : List ℕ) (j : Json) (ms : Members)
    → (bytes_eq c.now (codes "$code") ≡ true → is_scope k ≡ true → upgraded_scope j ≡ upgraded j)
    → upgraded_later_members (One c s) k j ms ≡ member k (upgraded j) (upgraded_members ms)
second_rest c s k j ms same =
    both (bytes_eq c.now (codes "$code")) (is_scope k) (λ h. member k h (upgraded_members ms)) (upgraded_scope j) (upgraded j) same

plain_rest : (leading : LeadingStrings) (k : List ℕ) (t : found.Token) (depth : ℕ) (ts r : List Token) (j : Json) (ms : Members)
    → HasNoV1Shape leading t → scope_candidate leading k t ≡ None → value depth (token_of t ∷ ts) ≡ Some (j, r)
    → upgraded_later_members leading k j ms ≡ member k (upgraded j) (upgraded_members ms)
plain_rest Empty k t depth ts r j ms lookahead none read =
    first_rest k j ms (no_code k j (no_text_begins depth t ts r j lookahead read))
    (λ scope. is_no_scope Empty k t false refl scope none depth ts r j read)
plain_rest (One c s) k t depth ts r j ms lookahead none read =
    second_rest c s k j ms (λ code scope.
    is_no_scope (One c s) k t true (ap (λ b. cond b (Some true) None) code) scope none depth ts r j read)
plain_rest (Two c s d u) k t depth ts r j ms lookahead none read = refl

-- the member is no scope
pub member_passes : (leading : LeadingStrings) (depth : ℕ) (k : List ℕ) (t : found.Token) (ts rest old new : List Token)
    → HasNoV1Shape leading t → scope_candidate leading k t ≡ None → WritesMembers depth k (token_of t ∷ ts) rest old new
    → WritesRemainingMembers leading depth k (token_of t ∷ ts) rest old new
member_passes leading depth k t ts rest old new lookahead none (j, ms, r, read, more, wrote) = (
  j,
  ms,
  r,
  read,
  more,
  wrote ∙ ap (λ ns. old ++ members_tokens ns) (sym (plain_rest leading k t depth ts r j ms lookahead none read)),
)

-- ---- scopes

scope_if : (b f : Bool) (before : Option Bool) → cond b before None ≡ Some f → (b ≡ true) × (before ≡ Some f)
scope_if true f before is = (refl, is)
scope_if false f before is = cc

code_if : (b f : Bool) → cond b (Some true) None ≡ Some f → (b ≡ true) × (f ≡ true)
code_if true f is = (refl, sym (same_Some true f is))
code_if false f is = cc

as_scope : (b : Bool) (k : List ℕ) (scope ns : Members)
    → cond b (member k (object (upgraded_object scope)) ns) (member k (upgraded (object scope)) ns)
    ≡ member k (scope_or_value b scope) ns
as_scope true k scope ns = refl
as_scope false k scope ns = refl

value_is_scope : (b : Bool) (scope : Members) → v1_shape scope ≡ not_v1
    → scope_or_value b scope ≡ object (upgraded_object scope)
value_is_scope true scope plain = refl
value_is_scope false scope plain = ap (λ x. upgraded_wrapper x (upgraded_object scope)) plain

no_older_scope : (f : Bool) (scope ms : Members) → v1_shape scope ≡ not_v1
    → upgraded_scope_before f scope ms ≡ object (upgraded_object scope)
no_older_scope true scope ms plain = refl
no_older_scope false scope ms plain = value_is_scope (starts_with_code ms) scope plain

lone_scope : (f : Bool) (scope : Members) → upgraded_scope_before f scope no_members ≡ scope_or_value f scope
lone_scope true scope = refl
lone_scope false scope = refl

scope_is : (k : List ℕ) (f : Bool) (before : Option Bool) → cond (is_scope k) before None ≡ Some f
    → (is_scope k ≡ true) × (before ≡ Some f)
scope_is k f before is = scope_if (is_scope k) f before is

code_is : (c : List ℕ) (f : Bool) → cond (bytes_eq c (codes "$code")) (Some true) None ≡ Some f
    → (bytes_eq c (codes "$code") ≡ true) × (f ≡ true)
code_is c f is = code_if (bytes_eq c (codes "$code")) f is

-- what is written of a scope, and of the members after it
scope_rest : (leading : LeadingStrings) (k : List ℕ) (f : Bool) (scope ms : Members) → is_scope k ≡ true
    → code_before_scope leading ≡ Some f
    → upgraded_later_members leading k (object scope) ms ≡ member k (upgraded_scope_before f scope ms) (upgraded_members ms)
scope_rest Empty k true scope ms is before = cc
scope_rest Empty k false scope no_members is before = refl
scope_rest Empty k false scope (member l i ms) is before =
    ap (λ b. cond (b && is_code l i) (member k (object (upgraded_object scope)) (upgraded_members (member l i ms)))
    (member k (upgraded (object scope)) (upgraded_members (member l i ms)))) is
    ∙ as_scope (is_code l i) k scope (upgraded_members (member l i ms))
scope_rest (One c s) k f scope ms is before =
    let known = code_is c.now f before in
    ap (λ b. cond (b && is_scope k) (member k (object (upgraded_object scope)) (upgraded_members ms))
    (member k (upgraded (object scope)) (upgraded_members ms))) known.0
    ∙ ap (λ b. cond b (member k (object (upgraded_object scope)) (upgraded_members ms))
    (member k (upgraded (object scope)) (upgraded_members ms))) is
    ∙ ap (λ b. member k (upgraded_scope_before b scope ms) (upgraded_members ms)) (sym known.1)
scope_rest (Two c s d t) k f scope ms is before = cc

pub scope_passes : (leading : LeadingStrings) (depth : ℕ) (k : List ℕ) (t : found.Token) (f : Bool) (ts rest old new : List Token)
    → scope_candidate leading k t ≡ Some f → WritesScope f depth k ts rest old new
    → WritesRemainingMembers leading depth k (token_of t ∷ ts) rest old new
scope_passes leading depth k first.BeginObject f ts rest old new place (scope, ms, r, read, more, wrote) =
    let known = scope_is k f (code_before_scope leading) place in (
      object scope,
      ms,
      r,
      read,
      more,
      wrote ∙ ap (λ ns. old ++ members_tokens ns) (sym (scope_rest leading k f scope ms known.0 known.1)),
    )
scope_passes leading depth k first.EndObject f ts rest old new place passes = cc
scope_passes leading depth k first.BeginArray f ts rest old new place passes = cc
scope_passes leading depth k first.EndArray f ts rest old new place passes = cc
scope_passes leading depth k (first.Key s) f ts rest old new place passes = cc
scope_passes leading depth k (first.String s) f ts rest old new place passes = cc
scope_passes leading depth k (first.Number s) f ts rest old new place passes = cc
scope_passes leading depth k (first.Bool b) f ts rest old new place passes = cc
scope_passes leading depth k first.Null f ts rest old new place passes = cc
scope_passes leading depth k first.Bad f ts rest old new place passes = cc

module _ (depth : ℕ) (left : 0 < depth) where
  scope_read : (ts r : List Token) (scope : Members) → object_rest (depth - 1) ts ≡ Some (scope, r)
      → value depth (token.begin_object ∷ ts) ≡ Some (object scope, r)
  scope_read ts r scope read = value-begin_object depth ts left ∙ ap (parse_map object) read

  -- the scope is invalid, or what is after it
  pub broken_scope : (k : List ℕ) (ts : List Token) → object_rest (depth - 1) ts ≡ None
      → object_rest depth (token.key k ∷ token.begin_object ∷ ts) ≡ None
  broken_scope k ts none =
      no_member depth k (token.key k ∷ token.begin_object ∷ ts) (token.begin_object ∷ ts) refl
      (value-begin_object depth ts left ∙ ap (parse_map object) none)

  pub broken_behind : (k : List ℕ) (ts r : List Token) (scope : Members) → object_rest (depth - 1) ts ≡ Some (scope, r)
      → object_rest depth r ≡ None → object_rest depth (token.key k ∷ token.begin_object ∷ ts) ≡ None
  broken_behind k ts r scope read none =
      one_member depth k (token.key k ∷ token.begin_object ∷ ts) (token.begin_object ∷ ts) r (object scope) refl
      (scope_read ts r scope read) ∙ ap (parse_map (member k (object scope))) none

  pub broken_rest : (leading : LeadingStrings) (k : List ℕ) (l : Bor (List ℕ)) (t : found.Token) (ts q : List Token)
      → IsObjectStart (Incomplete leading l t) ts q → object_rest (depth - 1) (token.key l.now ∷ token_of t ∷ q) ≡ None
      → object_rest depth (token.key k ∷ token.begin_object ∷ ts) ≡ None
  broken_rest leading k l t ts q (lookahead, printable, begins) none =
      broken_scope k ts (begins (depth - 1) ∙ ap (parse_map (with_leading_members leading)) none)

  pub broken_after_rest : (leading : LeadingStrings) (k : List ℕ) (l : Bor (List ℕ)) (t : found.Token)
      (ts q r strings inner : List Token) → IsObjectStart (Incomplete leading l t) ts q
      → WritesRemainingMembers leading (depth - 1) l.now (token_of t ∷ q) r strings inner → object_rest depth r ≡ None
      → object_rest depth (token.key k ∷ token.begin_object ∷ ts) ≡ None
  broken_after_rest leading k l t ts q r strings inner (lookahead, printable, begins) (j, ns, p, read, more, wrote) none =
      broken_behind k ts r (with_leading_members leading (member l.now j ns))
      (rest_read leading (depth - 1) l.now ts (token_of t ∷ q) p r j ns (begins (depth - 1)) read more) none

  pub held_scope_passes : (f : Bool) (k : List ℕ) (ts r rest old named new : List Token) (scope : Members)
      → object_rest (depth - 1) ts ≡ Some (scope, r) → named ≡ old ++ token.key k ∷ []
      → WritesScopeAndRest f depth scope r rest named new → WritesScope f depth k ts rest old new
  held_scope_passes f k ts r rest old named new scope read begun (ms, more, wrote) = (
    scope,
    ms,
    r,
    scope_read ts r scope read,
    more,
    wrote ∙ ap (λ o. o ++ (json_tokens (upgraded_scope_before f scope ms) ++ members_tokens (upgraded_members ms))) begun
        ∙ append_assoc old (token.key k ∷ [])
        (json_tokens (upgraded_scope_before f scope ms) ++ members_tokens (upgraded_members ms)),
  )

  -- it has no shape of v1, so what comes after it does not matter
  pub open_scope_passes : (f : Bool) (leading : LeadingStrings) (k : List ℕ) (l : Bor (List ℕ)) (t : found.Token)
      (ts q r rest old named begun strings inner new : List Token) → IsObjectStart (Incomplete leading l t) ts q
      → named ≡ old ++ token.key k ∷ [] → begun ≡ named ++ token.begin_object ∷ []
      → strings ≡ begun ++ leading_tokens leading [] → WritesRemainingMembers leading (depth - 1) l.now (token_of t ∷ q) r strings inner
      → WritesTokens upgraded_members_tokens (object_rest depth r) rest inner new → WritesScope f depth k ts rest old new
  open_scope_passes f leading k l t ts q r rest old named begun strings inner new (lookahead, printable, begins) key begin
      held_is (j, ns, p, read, more, wrote) (ms, after, is) =
      let scope = with_leading_members leading (member l.now j ns) in
      let inside_is = rest_read leading (depth - 1) l.now ts (token_of t ∷ q) p r j ns (begins (depth - 1)) read more in
      let plain = open_other leading l.now t (depth - 1) q p j ns lookahead read in (
        scope,
        ms,
        r,
        scope_read ts r scope inside_is,
        after,
        is ∙ ap (λ o. o ++ upgraded_members_tokens ms)
            (object_tokens leading (upgraded_later_members leading l.now j ns) named begun strings inner begin held_is wrote
            ∙ ap (λ x. named ++ json_tokens (object x)) (sym (rest_onto leading l.now j ns)))
            ∙ append_assoc named (json_tokens (object (upgraded_object scope))) (upgraded_members_tokens ms)
            ∙ ap (λ o. o ++ (json_tokens (object (upgraded_object scope)) ++ upgraded_members_tokens ms)) key
            ∙ append_assoc old (token.key k ∷ []) (json_tokens (object (upgraded_object scope)) ++ upgraded_members_tokens ms)
            ∙ ap (λ x. old ++ members_tokens (member k x (upgraded_members ms))) (sym (no_older_scope f scope ms plain)),
      )

pub too_deep_scope : (depth : ℕ) (k : List ℕ) (ts : List Token) → depth ≡ 0
    → object_rest depth (token.key k ∷ token.begin_object ∷ ts) ≡ None
too_deep_scope depth k ts deep =
    no_member depth k (token.key k ∷ token.begin_object ∷ ts) (token.begin_object ∷ ts) refl
    (ap (λ d. value d (token.begin_object ∷ ts)) deep ∙ value_is 0 (token.begin_object ∷ ts))

-- ---- a scope that was read as a whole

before_is : (f : Bool) (scope ms : Members) → upgraded_scope_before f scope ms ≡ scope_or_value (f || starts_with_code ms) scope
before_is true scope ms = refl
before_is false scope ms = refl

pub scope_ends : (f : Bool) (depth : ℕ) (scope : Members) (ts r old shown new : List Token)
    → read_key ts ≡ Some (None, r) → shown ≡ old ++ json_tokens (scope_or_value f scope)
    → new ≡ shown ++ token.end_object ∷ [] → WritesScopeAndRest f depth scope ts r old new
scope_ends f depth scope ts r old shown new ended wrote is = (
  no_members,
  last_member depth ts r ended,
  is ∙ ap (λ o. o ++ token.end_object ∷ []) (wrote ∙ ap (λ x. old ++ json_tokens x) (sym (lone_scope f scope)))
      ∙ append_assoc old (json_tokens (upgraded_scope_before f scope no_members)) (token.end_object ∷ []),
)

pub scope_goes_on : (f : Bool) (depth : ℕ) (l : List ℕ) (t : found.Token) (scope : Members)
    (ts q rest old shown new : List Token) → read_key ts ≡ Some (Some l, token_of t ∷ q)
    → shown ≡ old ++ json_tokens (scope_or_value (f || starts_code_member l t) scope)
    → WritesMembers depth l (token_of t ∷ q) rest shown new → WritesScopeAndRest f depth scope ts rest old new
scope_goes_on f depth l t scope ts q rest old shown new named wrote (j, ms, r, read, more, is) =
    let all = member l j ms in (
      all,
      one_member depth l ts (token_of t ∷ q) r j named read ∙ ap (parse_map (member l j)) more,
      is ∙ ap (λ o. o ++ upgraded_members_tokens all)
          (wrote ∙ ap (λ b. old ++ json_tokens (scope_or_value (f || b) scope)) (sym (code_begins depth l t q r j read))
          ∙ ap (λ x. old ++ json_tokens x) (sym (before_is f scope all)))
          ∙ append_assoc old (json_tokens (upgraded_scope_before f scope all)) (upgraded_members_tokens all),
    )
