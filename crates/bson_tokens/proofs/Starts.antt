-- How a value starts: with one token as a whole, or with the bracket or brace of what is in it.
use Rattle.std.proofs.Common.{◌≡◌, ℕ, ◌-◌, List, length, Option, Some, None, option_map, refl, ap, ◌∙◌, subst, ◌∷◌, ◌⊎◌}
use Rattle.std.proofs.Common.{inl, inr, Bor}
use Rattle.json.specs.Token.{Token}
use Rattle.json.specs.Json as json
use Rattle.json.specs.Json.{parse_map, items, members, value}
use Rattle.json.specs.Reads.{token_of}
use Rattle.json.specs.declared.token.Token as found
use Rattle.json.specs.declared.token.Token.TheVariants.{EndObject, EndArray, Key, Bad}
use Rattle.json.proofs.Grammar.{value_is}
use Rattle.serde_json.specs.Data.{number, array, object, no_members}
use Rattle.serde_json.specs.Read.{of_json, of_items, of_members, converted}
use Rattle.bson_tokens.specs.ValueStart.{primitive_tree, IsPrimitive, StartsValue}
use Rattle.bson_tokens.specs.declared.value_start.Primitive.{Primitive}
use Rattle.bson_tokens.specs.declared.value_start.Primitive.TheVariants.{Null, Bool as Truth, Number, String}
use Rattle.bson_tokens.specs.declared.value_start.ValueStart.{ValueStart}
use Rattle.bson_tokens.specs.declared.value_start.ValueStart.TheVariants as start
use Rattle.bson_tokens.proofs.HeldRounds.{under}

array_converted : (o : Option (json.Items × List Token))
    → converted of_json (parse_map json.array o) ≡ parse_map array (converted of_items o)
array_converted None = refl
array_converted (Some (js, r)) = under array (of_items js) r

object_converted : (o : Option (json.Members × List Token))
    → converted of_json (parse_map json.object o) ≡ parse_map object (converted (λ ms. of_members ms no_members) o)
object_converted None = refl
object_converted (Some (js, r)) = under object (of_members js no_members) r

pub primitive_json : (p : Primitive) (j : json.Json) → IsPrimitive p j → of_json j ≡ Some (primitive_tree p)
primitive_json Null j is = ap of_json is
primitive_json (Truth b) j is = ap of_json is
primitive_json (Number n) j is = ap of_json is.1 ∙ ap (option_map number) is.2
primitive_json (String s) j is = ap of_json is

module _ (depth : ℕ) (ts r : List Token) (s : ValueStart) where
  pub primitive_read : (p : Primitive) → s ≡ start.Primitive p → StartsValue depth ts s r
      → converted of_json (value depth ts) ≡ Some (primitive_tree p, r)
  primitive_read p is h =
      let of = subst (λ x. StartsValue depth ts x r) is h in
      ap (converted of_json) of.1 ∙ ap (option_map (λ d. (d, r))) (primitive_json p of.0 of.2)

  pub array_read : s ≡ start.Array → StartsValue depth ts s r
      → converted of_json (value depth ts) ≡ parse_map array (converted of_items (items (value (depth - 1)) (length r) r))
  array_read is h = ap (converted of_json) (subst (λ x. StartsValue depth ts x r) is h).1
      ∙ array_converted (items (value (depth - 1)) (length r) r)

  pub object_read : s ≡ start.Object → StartsValue depth ts s r
      → converted of_json (value depth ts)
      ≡ parse_map object (converted (λ ms. of_members ms no_members) (members (value (depth - 1)) (length r) r))
  object_read is h = ap (converted of_json) (subst (λ x. StartsValue depth ts x r) is h).1
      ∙ object_converted (members (value (depth - 1)) (length r) r)

-- ---- where none does

-- an array or an object that is too deep
pub too_deep_array : (depth : ℕ) (ts r : List Token) → ts ≡ Token.begin_array ∷ r → depth ≡ 0
    → converted of_json (value depth ts) ≡ None
unfolding value
too_deep_array depth ts r is deep = rw (is, deep) refl

pub too_deep_object : (depth : ℕ) (ts r : List Token) → ts ≡ Token.begin_object ∷ r → depth ≡ 0
    → converted of_json (value depth ts) ≡ None
unfolding value
too_deep_object depth ts r is deep = rw (is, deep) refl

-- no value begins with a closing bracket, a key, or what is no token
pub none_begins : (depth : ℕ) (k : found.Token) (ts r : List Token) → ts ≡ token_of k ∷ r
    → (k ≡ EndObject) ⊎ (k ≡ EndArray) ⊎ ((s : Bor (List ℕ)) × (k ≡ Key s)) ⊎ (k ≡ Bad)
    → converted of_json (value depth ts) ≡ None
none_begins depth k ts r is (inl e) = ap (λ t. converted of_json (value depth t)) (is ∙ ap (λ t. token_of t ∷ r) e)
    ∙ ap (converted of_json) (value_is depth (Token.end_object ∷ r))
none_begins depth k ts r is (inr (inl e)) =
    ap (λ t. converted of_json (value depth t)) (is ∙ ap (λ t. token_of t ∷ r) e)
    ∙ ap (converted of_json) (value_is depth (Token.end_array ∷ r))
none_begins depth k ts r is (inr (inr (inl (s, e)))) =
    ap (λ t. converted of_json (value depth t)) (is ∙ ap (λ t. token_of t ∷ r) e)
    ∙ ap (converted of_json) (value_is depth (Token.key s.now ∷ r))
none_begins depth k ts r is (inr (inr (inr e))) =
    ap (λ t. converted of_json (value depth t)) (is ∙ ap (λ t. token_of t ∷ r) e)
    ∙ ap (converted of_json) (value_is depth (Token.bad ∷ r))
