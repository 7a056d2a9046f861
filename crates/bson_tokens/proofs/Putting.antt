-- Members that are inserted in turn, their values as they are.
use Rattle.std.proofs.Common.{◌≡◌, ◌≢◌, ℕ, zero, suc, List, [], ◌∷◌, map, Bool, true, false, Option, Some, None}
use Rattle.std.proofs.Common.{Less, subst, refl, sym, ap, ◌∙◌, arith}
use Rattle.std.proofs.lemmas.Cmp.{nat_list_cmp_total}
use Rattle.std.proofs.lemmas.List.Elements.{All-head, All-tail}
use Rattle.std.proofs.lemmas.Slice.Eq.{bytes_eq-Decides}
use Rattle.std.specs.List.{All}
use Rattle.std.specs.Str.{bytes_eq}
use Rattle.json.specs.Json.{Json, Members, no_members, member}
use Rattle.json.specs.Strict.{keys, AreDistinct}
use Rattle.bson_tokens.specs.Normalized.{put_member}
use Rattle.bson_tokens.specs.PutMembers.{KeysAscendFrom, members_of, put_all_members}
use Rattle.bson_model.specs.declared.options.KeyOrder.{KeyOrder}
use Rattle.bson_model.specs.declared.options.KeyOrder.TheVariants.{AsGiven, Ascending}
use Rattle.bson_tokens.proofs.Normalizing.{cmp, flipped, IsBehind, AreBehind, IsNormalized, put_behind, put_stays}
use Rattle.bson_tokens.proofs.Once.{other_key, put_none}

-- the members after each of others is inserted into them
abbrev pub put_members : KeyOrder → Members → Members → Members
put_members a no_members found = found
put_members a (member k j ms) found = put_members a ms (put_member a k j found)

-- ---- what is inserted is normalized

pub puts_normalize : (a : KeyOrder) (ms found : Members) → IsNormalized a found → IsNormalized a (put_members a ms found)
puts_normalize a no_members found are = are
puts_normalize a (member k j ms) found are = puts_normalize a ms (put_member a k j found) (put_stays a k j found are)

puts_behind : (a : KeyOrder) (k : List ℕ) (i : Json) (ms found : Members) → AreBehind a k ms
    → put_members a ms (member k i found) ≡ member k i (put_members a ms found)
puts_behind a k i no_members found are = refl
puts_behind a k i (member l j ms) found are =
    ap (put_members a ms) (put_behind a k l i j found are.0) ∙ puts_behind a k i ms (put_member a l j found) are.1

-- what is normalized is inserted unchanged
pub put_as_it_stands : (a : KeyOrder) (ms : Members) → IsNormalized a ms → put_members a ms no_members ≡ ms
put_as_it_stands a no_members are = refl
put_as_it_stands a (member k j ms) are =
    ap (put_members a ms) (put_none a k j) ∙ puts_behind a k j ms no_members are.0
    ∙ ap (member k j) (put_as_it_stands a ms are.1)

-- ---- which members are normalized

behind_at : (b : Bool) (k l : List ℕ) → bytes_eq l k ≡ b → k ≢ l → b ≡ false
behind_at false k l h differ = refl
behind_at true k l h differ = absurd (differ (sym ((bytes_eq-Decides l k).0 h)))

pub differing : (k l : List ℕ) → k ≢ l → IsBehind AsGiven k l
differing k l differ = behind_at (bytes_eq l k) k l refl differ

each_differs : (k : List ℕ) (ms : Members) → All (λ l. k ≢ l) (keys ms) → AreBehind AsGiven k ms
each_differs k no_members are = tt
each_differs k (member l j ms) are = (
  differing k l (All-head (λ l. k ≢ l) l (keys ms) are),
  each_differs k ms (All-tail (λ l. k ≢ l) l (keys ms) are),
)

pub distinct_normalized : (ms : Members) → AreDistinct (keys ms) → IsNormalized AsGiven ms
distinct_normalized no_members are = tt
distinct_normalized (member k j ms) are = (
  each_differs k ms (λ i d less. are zero (suc i) d (omega arith) (omega (arith, less))),
  distinct_normalized ms (λ i j d less within. are (suc i) (suc j) d (omega (arith, less)) (omega (arith, within))),
)

behind_either : (a : KeyOrder) (k : List ℕ) (ms : Members) → AreBehind a k ms → AreBehind AsGiven k ms
behind_either a k no_members are = tt
behind_either a k (member l j ms) are = (differing k l (other_key a k l are.0), behind_either a k ms are.1)

pub normalized_either : (a : KeyOrder) (ms : Members) → IsNormalized a ms → IsNormalized AsGiven ms
normalized_either a no_members are = tt
normalized_either a (member k j ms) are = (behind_either a k ms are.0, normalized_either a ms are.1)

-- the first key is greater than the one before it, and so on
abbrev pub SpanKeysAscend : Option (List ℕ) → Members → Type 0
SpanKeysAscend last no_members = Unit {0}
SpanKeysAscend None (member k j ms) = SpanKeysAscend (Some k) ms
SpanKeysAscend (Some l) (member k j ms) = (cmp l k ≡ Less) × SpanKeysAscend (Some k) ms

above : (k l : List ℕ) (ms : Members) → cmp k l ≡ Less → SpanKeysAscend (Some l) ms → AreBehind Ascending k ms
above k l no_members less up = tt
above k l (member c j ms) less up =
    let first = nat_list_cmp_total.trans k l c less up.0 in (flipped k c Less first, above k c ms first up.1)

above_first : (k : List ℕ) (ms : Members) → SpanKeysAscend (Some k) ms → AreBehind Ascending k ms
above_first k no_members up = tt
above_first k (member l j ms) up = (flipped k l Less up.0, above k l ms up.0 up.1)

behind_last : (l : List ℕ) (ms : Members) → SpanKeysAscend (Some l) ms → IsNormalized Ascending ms
behind_last l no_members up = tt
behind_last l (member k j ms) up = (above_first k ms up.1, behind_last k ms up.1)

pub ascending_normalized : (ms : Members) → SpanKeysAscend None ms → IsNormalized Ascending ms
ascending_normalized no_members up = tt
ascending_normalized (member k j ms) up = (above_first k ms up, behind_last k ms up)

-- members in ascending key order are normalized in either key_order
pub normalized_in : (a : KeyOrder) (ms : Members) → SpanKeysAscend None ms → IsNormalized a ms
normalized_in AsGiven ms up = normalized_either Ascending ms (ascending_normalized ms up)
normalized_in Ascending ms up = ascending_normalized ms up

-- ---- lists that are inserted

keys_ascend : {M : Type 0} (key_of : M → List ℕ) (value_of : M → Json) (last : Option (List ℕ)) (xs : List M)
    → KeysAscendFrom last (map key_of xs) → SpanKeysAscend last (members_of key_of value_of xs)
keys_ascend key_of value_of last [] up = tt
keys_ascend key_of value_of None (x ∷ xs) up = keys_ascend key_of value_of (Some (key_of x)) xs up.1
keys_ascend key_of value_of (Some l) (x ∷ xs) up = (up.0, keys_ascend key_of value_of (Some (key_of x)) xs up.1)

module _ {M : Type 0} (key_of : M → List ℕ) (value_of : M → Json) where
  abbrev members : List M → Members
  members = members_of key_of value_of

  abbrev put : KeyOrder → List M → Members → Members
  put = put_all_members key_of value_of

  pub keys_are : (xs : List M) → keys (members xs) ≡ map key_of xs
  keys_are [] = refl
  keys_are (x ∷ xs) = ap (λ ks. key_of x ∷ ks) (keys_are xs)

  pub puts_members : (a : KeyOrder) (xs : List M) (found : Members)
      → put a xs found ≡ put_members a (members xs) found
  puts_members a [] found = refl
  puts_members a (x ∷ xs) found = puts_members a xs (put_member a (key_of x) (value_of x) found)

  -- ---- what is inserted unchanged

  pub put_distinct : (xs : List M) → AreDistinct (map key_of xs) → put AsGiven xs no_members ≡ members xs
  put_distinct xs are =
      puts_members AsGiven xs no_members
      ∙ put_as_it_stands AsGiven (members xs)
      (distinct_normalized (members xs) (subst AreDistinct (sym (keys_are xs)) are))

  pub put_ascending_keys : (a : KeyOrder) (xs : List M) → KeysAscendFrom None (map key_of xs)
      → put a xs no_members ≡ members xs
  put_ascending_keys a xs up =
      puts_members a xs no_members
      ∙ put_as_it_stands a (members xs) (normalized_in a (members xs) (keys_ascend key_of value_of None xs up))

  -- what some are inserted as is inserted again unchanged
  pub put_put : (a : KeyOrder) (xs zs : List M) → members zs ≡ put a xs no_members → put a zs no_members ≡ members zs
  put_put a xs zs are =
      puts_members a zs no_members
      ∙ put_as_it_stands a (members zs)
      (subst (IsNormalized a) (sym (are ∙ puts_members a xs no_members)) (puts_normalize a (members xs) no_members tt))
