-- An normalized tree has each key once, and normalizing it again changes nothing.
use Rattle.std.proofs.Common.{◌≡◌, ◌≢◌, ℕ, List, Equal, Greater, refl, sym, ap, ap₂, ◌∙◌, subst, arith}
use Rattle.std.proofs.lemmas.Cmp.{nat_list_cmp_total, tied_itself}
use Rattle.std.proofs.lemmas.List.Elements.{All-cons}
use Rattle.std.proofs.lemmas.List.Kept.{AllPairs-cons}
use Rattle.std.specs.List.{All}
use Rattle.json.specs.Json.{Json, null, boolean, number, string, array, object, Items, no_items, item, Members}
use Rattle.json.specs.Json.{no_members, member}
use Rattle.json.specs.Strict.{keys, AreDistinct, HasUniqueKeys, ItemsHaveUniqueKeys, MembersHaveUniqueKeys}
use Rattle.bson_tokens.specs.Normalized.{put_member, normalized, normalized_items, normalized_members}
use Rattle.bson_model.specs.declared.options.KeyOrder.{KeyOrder}
use Rattle.bson_model.specs.declared.options.KeyOrder.TheVariants.{AsGiven, Ascending}
use Rattle.bson_tokens.proofs.Normalizing.{cmp, IsBehind, AreBehind, IsNormalized, put_behind, all_normalized, Each}
use Rattle.bson_tokens.proofs.Normalizing.{each_put}
use Rattle.bson_tokens.proofs.Keys.{apart}

-- ---- each key once

pub other_key : (a : KeyOrder) (k l : List ℕ) → IsBehind a k l → k ≢ l
other_key AsGiven k l h e = apart l k h (sym e)
other_key Ascending k l h e =
    let s : cmp k k ≡ Equal = tied_itself nat_list_cmp_total k in
    let f : cmp k k ≡ Greater = subst (λ x. cmp x k ≡ Greater) (sym e) h in
    cc

other_keys : (a : KeyOrder) (k : List ℕ) (ms : Members) → AreBehind a k ms → All (λ l. k ≢ l) (keys ms)
other_keys a k no_members are = λ i d less. absurd (omega (arith, less))
other_keys a k (member l j ms) are =
    All-cons (λ l. k ≢ l) l (keys ms) (other_key a k l are.0) (other_keys a k ms are.1)

pub distinct : (a : KeyOrder) (ms : Members) → IsNormalized a ms → AreDistinct (keys ms)
distinct a no_members are = λ i j d less within. absurd (omega (arith, within))
distinct a (member k j ms) are =
    AllPairs-cons (λ a b. a ≢ b) k (keys ms) (other_keys a k ms are.0) (distinct a ms are.1)

each_unique : (ms : Members) → Each HasUniqueKeys ms → MembersHaveUniqueKeys ms
each_unique no_members are = tt
each_unique (member k j ms) are = (are.0, each_unique ms are.1)

mutual
  pub unique : (a : KeyOrder) (j : Json) → HasUniqueKeys (normalized a j)
  unique a null = tt
  unique a (boolean b) = tt
  unique a (number s) = tt
  unique a (string s) = tt
  unique a (array js) = items_unique a js
  unique a (object ms) = (
    distinct a (normalized_members a ms no_members) (all_normalized a ms no_members tt),
    members_unique a ms no_members tt,
  )

  items_unique : (a : KeyOrder) (js : Items) → ItemsHaveUniqueKeys (normalized_items a js)
  items_unique a no_items = tt
  items_unique a (item j js) = (unique a j, items_unique a js)

  members_unique : (a : KeyOrder) (ms found : Members) → Each HasUniqueKeys found
      → MembersHaveUniqueKeys (normalized_members a ms found)
  members_unique a no_members found are = each_unique found are
  members_unique a (member k j ms) found are =
      members_unique a ms (put_member a k (normalized a j) found)
      (each_put HasUniqueKeys a k (normalized a j) found (unique a j) are)

-- ---- again

abbrev pub IsObjectNormalized : KeyOrder → Json → Type 0
IsObjectNormalized a j = normalized a j ≡ j

pub put_none : (a : KeyOrder) (k : List ℕ) (j : Json) → put_member a k j no_members ≡ member k j no_members
put_none AsGiven k j = refl
put_none Ascending k j = refl

-- members that follow k are normalized after it
pub normalized_behind : (a : KeyOrder) (k : List ℕ) (i : Json) (ms found : Members) → AreBehind a k ms
    → normalized_members a ms (member k i found) ≡ member k i (normalized_members a ms found)
normalized_behind a k i no_members found are = refl
normalized_behind a k i (member l j ms) found are =
    ap (normalized_members a ms) (put_behind a k l i (normalized a j) found are.0)
    ∙ normalized_behind a k i ms (put_member a l (normalized a j) found) are.1

-- what is normalized is normalized unchanged
pub settled : (a : KeyOrder) (ms : Members) → IsNormalized a ms → Each (IsObjectNormalized a) ms
    → normalized_members a ms no_members ≡ ms
settled a no_members are each = refl
settled a (member k j ms) are each =
    ap (normalized_members a ms) (put_none a k (normalized a j))
    ∙ normalized_behind a k (normalized a j) ms no_members are.0
    ∙ ap₂ (member k) each.0 (settled a ms are.1 each.1)

mutual
  pub twice : (a : KeyOrder) (j : Json) → normalized a (normalized a j) ≡ normalized a j
  twice a null = refl
  twice a (boolean b) = refl
  twice a (number s) = refl
  twice a (string s) = refl
  twice a (array js) = ap array (items_twice a js)
  twice a (object ms) =
      ap object (settled a (normalized_members a ms no_members) (all_normalized a ms no_members tt)
      (each_settled a ms no_members tt))

  items_twice : (a : KeyOrder) (js : Items) → normalized_items a (normalized_items a js) ≡ normalized_items a js
  items_twice a no_items = refl
  items_twice a (item j js) = ap₂ item (twice a j) (items_twice a js)

  each_settled : (a : KeyOrder) (ms found : Members) → Each (IsObjectNormalized a) found
      → Each (IsObjectNormalized a) (normalized_members a ms found)
  each_settled a no_members found are = are
  each_settled a (member k j ms) found are =
      each_settled a ms (put_member a k (normalized a j) found)
      (each_put (IsObjectNormalized a) a k (normalized a j) found (twice a j) are)
