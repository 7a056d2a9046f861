-- Objects of no shape of v1, by the token with which a value begins.
use Rattle.std.proofs.Common.{◌≡◌, ℕ, List, ◌∷◌, Bool, true, false, Option, Some, None, refl, sym, ap, ◌∙◌}
use Rattle.json.specs.Json.{Json, Members, no_members, member, parse_map, value}
use Rattle.json.specs.Json as json
use Rattle.json.specs.Reads.{token_of}
use Rattle.json.specs.Token.{Token}
use Rattle.json.specs.declared.token.Token as found
use Rattle.json.specs.declared.token.Token.TheVariants as first
use Rattle.json.proofs.Grammar.{value_is}
use Rattle.bson_v1.specs.LeadingMembers.{IsNotString}
use Rattle.bson_v1.specs.Upgraded.{v1_shape, not_v1, shape_of_one_member, shape_of_two_members}

abbrev pub is_text : Json → Bool
is_text (json.string s) = true
is_text _ = false

abbrev text_read : Option (Json × List Token) → Bool
text_read None = false
text_read (Some p) = is_text p.0

no_text_in : {A : Type 0} (f : A → Json) → ((a : A) → is_text (f a) ≡ false) → (o : Option (A × List Token))
    → text_read (parse_map f o) ≡ false
no_text_in f plain None = refl
no_text_in f plain (Some p) = plain p.0

no_text : (depth : ℕ) (t : found.Token) (ts : List Token) → IsNotString t → text_read (value depth (token_of t ∷ ts)) ≡ false
no_text depth first.BeginObject ts is = ap text_read (value_is depth _) ∙ no_text_in json.object (λ ms. refl) _
no_text depth first.EndObject ts is = ap text_read (value_is depth _)
no_text depth first.BeginArray ts is = ap text_read (value_is depth _) ∙ no_text_in json.array (λ js. refl) _
no_text depth first.EndArray ts is = ap text_read (value_is depth _)
no_text depth (first.Key s) ts is = ap text_read (value_is depth _)
no_text depth (first.String s) ts is = absurd (is s refl)
no_text depth (first.Number s) ts is = ap text_read (value_is depth _)
no_text depth (first.Bool b) ts is = ap text_read (value_is depth _)
no_text depth first.Null ts is = ap text_read (value_is depth _)
no_text depth first.Bad ts is = ap text_read (value_is depth _)

-- a value that begins with this token is not one
pub no_text_begins : (depth : ℕ) (t : found.Token) (ts r : List Token) (j : Json) → IsNotString t
    → value depth (token_of t ∷ ts) ≡ Some (j, r) → is_text j ≡ false
no_text_begins depth t ts r j is read = sym (ap text_read read) ∙ no_text depth t ts is

abbrev pub is_object : Json → Bool
is_object (json.object ms) = true
is_object _ = false

abbrev object_read : Option (Json × List Token) → Bool
object_read None = false
object_read (Some p) = is_object p.0

no_object_in : {A : Type 0} (f : A → Json) → ((a : A) → is_object (f a) ≡ false) → (o : Option (A × List Token))
    → object_read (parse_map f o) ≡ false
no_object_in f plain None = refl
no_object_in f plain (Some p) = plain p.0

no_object : (depth : ℕ) (t : found.Token) (ts : List Token) → (t ≡ first.BeginObject → ⊥)
    → object_read (value depth (token_of t ∷ ts)) ≡ false
no_object depth first.BeginObject ts is = absurd (is refl)
no_object depth first.EndObject ts is = ap object_read (value_is depth _)
no_object depth first.BeginArray ts is = ap object_read (value_is depth _) ∙ no_object_in json.array (λ js. refl) _
no_object depth first.EndArray ts is = ap object_read (value_is depth _)
no_object depth (first.Key s) ts is = ap object_read (value_is depth _)
no_object depth (first.String s) ts is = ap object_read (value_is depth _)
no_object depth (first.Number s) ts is = ap object_read (value_is depth _)
no_object depth (first.Bool b) ts is = ap object_read (value_is depth _)
no_object depth first.Null ts is = ap object_read (value_is depth _)
no_object depth first.Bad ts is = ap object_read (value_is depth _)

-- a value that begins with another token than a brace is no object
pub no_object_begins : (depth : ℕ) (t : found.Token) (ts r : List Token) (j : Json) → (t ≡ first.BeginObject → ⊥)
    → value depth (token_of t ∷ ts) ≡ Some (j, r) → is_object j ≡ false
no_object_begins depth t ts r j is read = sym (ap object_read read) ∙ no_object depth t ts is

lone_other : (k : List ℕ) (j : Json) → is_text j ≡ false → shape_of_one_member k j ≡ not_v1
lone_other k json.null plain = refl
lone_other k (json.boolean b) plain = refl
lone_other k (json.number s) plain = refl
lone_other k (json.string s) plain = cc
lone_other k (json.array js) plain = refl
lone_other k (json.object ms) plain = refl

first_other : (k l : List ℕ) (j i : Json) → is_text j ≡ false → shape_of_two_members k j l i ≡ not_v1
first_other k l json.null i plain = refl
first_other k l (json.boolean b) i plain = refl
first_other k l (json.number s) i plain = refl
first_other k l (json.string s) i plain = cc
first_other k l (json.array js) i plain = refl
first_other k l (json.object ms) i plain = refl

second_other : (k l s : List ℕ) (i : Json) → is_text i ≡ false → shape_of_two_members k (json.string s) l i ≡ not_v1
second_other k l s json.null plain = refl
second_other k l s (json.boolean b) plain = refl
second_other k l s (json.number t) plain = refl
second_other k l s (json.string t) plain = cc
second_other k l s (json.array js) plain = refl
second_other k l s (json.object ms) plain = refl

-- the first member is no text, or the second
pub other_first : (k : List ℕ) (j : Json) (ms : Members) → is_text j ≡ false → v1_shape (member k j ms) ≡ not_v1
other_first k j no_members plain = lone_other k j plain
other_first k j (member l i no_members) plain = first_other k l j i plain
other_first k j (member l i (member m h ms)) plain = refl

pub other_second : (k l s : List ℕ) (i : Json) (ms : Members) → is_text i ≡ false
    → v1_shape (member k (json.string s) (member l i ms)) ≡ not_v1
other_second k l s i no_members plain = second_other k l s i plain
other_second k l s i (member m h ms) plain = refl
