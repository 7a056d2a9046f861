-- The places of the keys of a normalized object, and their values.
use Rattle.std.proofs.Common.{◌≡◌, ℕ, List, [], ◌∷◌, ◌++◌, Bool, true, false, cond, not, ◌&&◌, ◌||◌, Option, Some, None}
use Rattle.std.proofs.Common.{Less, Greater, option_map, filter, refl, sym, ap, ◌∙◌, subst}
use Rattle.std.proofs.Common.{append_assoc, append-nil}
use Rattle.std.proofs.lemmas.Cmp.{nat_list_eq_equiv}
use Rattle.std.proofs.lemmas.List.Elements.{filter_agree}
use Rattle.std.proofs.lemmas.List.Folds.{list_any-append}
use Rattle.std.specs.Cmp.Lexicographic.{slice_cmp}
use Rattle.std.specs.List.{list_any, AllByRecursion}
use Rattle.std.specs.List.Sorted.{IsStrictlySortedBy}
use Rattle.std.specs.Ordering.{nat_cmp}
use Rattle.std.specs.Str.{bytes_eq}
use Rattle.json.specs.Find.{get_member, later_or}
use Rattle.json.specs.Json.{Json, Members, no_members, member}
use Rattle.json.specs.Strict.{keys}
use Rattle.bson_model.specs.DuplicateKeys.{without_key, first_occurrences}
use Rattle.bson_tokens.specs.Normalized.{put_at_first_position, put_member, normalized, normalized_members}
use Rattle.bson_model.specs.declared.options.KeyOrder.{KeyOrder}
use Rattle.bson_model.specs.declared.options.KeyOrder.TheVariants.{AsGiven, Ascending}
use Rattle.bson_tokens.proofs.Normalizing.{cmp, flipped, AreBehind, IsNormalized, all_normalized}
use Rattle.bson_tokens.proofs.Merged.{value_at, value_put, again, apart}
use Rattle.bson_tokens.proofs.MemberSpans.{same_key}
use Rattle.bson_tokens.proofs.Putting.{normalized_either}

-- ---- first places

abbrev put_key : List ℕ → List (List ℕ) → List (List ℕ)
put_key k [] = k ∷ []
put_key k (l ∷ ls) = cond (bytes_eq k l) (l ∷ ls) (l ∷ put_key k ls)

abbrev put_keys : List (List ℕ) → List (List ℕ) → List (List ℕ)
put_keys [] found = found
put_keys (k ∷ ks) found = put_keys ks (put_key k found)

keys_put_at : (b : Bool) (k l : List ℕ) (j i : Json) (ms : Members) → keys (put_at_first_position k j ms) ≡ put_key k (keys ms)
    → keys (cond b (member l j ms) (member l i (put_at_first_position k j ms))) ≡ cond b (l ∷ keys ms) (l ∷ put_key k (keys ms))
keys_put_at true k l j i ms is = refl
keys_put_at false k l j i ms is = ap (λ ks. l ∷ ks) is

keys_put : (k : List ℕ) (j : Json) (ms : Members) → keys (put_at_first_position k j ms) ≡ put_key k (keys ms)
keys_put k j no_members = refl
keys_put k j (member l i ms) = keys_put_at (bytes_eq k l) k l j i ms (keys_put k j ms)

keys_normalized : (ms found : Members) → keys (normalized_members AsGiven ms found) ≡ put_keys (keys ms) (keys found)
keys_normalized no_members found = refl
keys_normalized (member k j ms) found =
    keys_normalized ms (put_at_first_position k (normalized AsGiven j) found)
    ∙ ap (put_keys (keys ms)) (keys_put k (normalized AsGiven j) found)

abbrev stands : List ℕ → List (List ℕ) → Bool
stands k ks = list_any (bytes_eq k) ks

there_at : (b : Bool) (k l : List ℕ) (ks : List (List ℕ)) → (b || stands k ks) ≡ true
    → (stands k ks ≡ true → put_key k ks ≡ ks) → cond b (l ∷ ks) (l ∷ put_key k ks) ≡ l ∷ ks
there_at true k l ks some is = refl
there_at false k l ks some is = ap (λ x. l ∷ x) (is some)

put_there : (k : List ℕ) (ks : List (List ℕ)) → stands k ks ≡ true → put_key k ks ≡ ks
put_there k [] some = cc
put_there k (l ∷ ks) some = there_at (bytes_eq k l) k l ks some (put_there k ks)

new_at : (b : Bool) (k l : List ℕ) (ks : List (List ℕ)) → (b || stands k ks) ≡ false
    → (stands k ks ≡ false → put_key k ks ≡ ks ++ k ∷ []) → cond b (l ∷ ks) (l ∷ put_key k ks) ≡ l ∷ (ks ++ k ∷ [])
new_at true k l ks none is = cc
new_at false k l ks none is = ap (λ x. l ∷ x) (is none)

put_new : (k : List ℕ) (ks : List (List ℕ)) → stands k ks ≡ false → put_key k ks ≡ ks ++ k ∷ []
put_new k [] none = refl
put_new k (l ∷ ks) none = new_at (bytes_eq k l) k l ks none (put_new k ks)

one_of : (b : Bool) (k l : List ℕ) (ks : List (List ℕ)) → bytes_eq k l ≡ b → stands k ks ≡ true
    → stands l ks ≡ (b || stands l ks)
one_of true k l ks h some = subst (λ x. stands x ks ≡ true) (same_key k l h) some
one_of false k l ks h some = refl

turned_or : (b c d : Bool) → c ≡ d → (b || (c || false)) ≡ (d || b)
turned_or true true d h = rw (← h) refl
turned_or true false d h = rw (← h) refl
turned_or false true d h = rw (← h) refl
turned_or false false d h = rw (← h) refl

stands_put_at : (b : Bool) (k l : List ℕ) (ks : List (List ℕ)) → stands k ks ≡ b
    → stands l (put_key k ks) ≡ (bytes_eq k l || stands l ks)
stands_put_at true k l ks h = ap (stands l) (put_there k ks h) ∙ one_of (bytes_eq k l) k l ks refl h
stands_put_at false k l ks h =
    ap (stands l) (put_new k ks h) ∙ list_any-append (bytes_eq l) ks (k ∷ [])
    ∙ turned_or (stands l ks) (bytes_eq l k) (bytes_eq k l) (nat_list_eq_equiv.symm l k)

stands_put : (k l : List ℕ) (ks : List (List ℕ)) → stands l (put_key k ks) ≡ (bytes_eq k l || stands l ks)
stands_put k l ks = stands_put_at (stands k ks) k l ks refl

-- the keys that are not there
abbrev new : List (List ℕ) → List (List ℕ) → List (List ℕ)
new found ks = filter (λ l. not (stands l found)) ks

neither : (b c : Bool) → not (b || c) ≡ (not b && not c)
neither true c = refl
neither false c = refl

twice_at : (b c : Bool) (l : List ℕ) (xs ys : List (List ℕ)) (p : List ℕ → Bool) → p l ≡ c → filter p xs ≡ ys
    → filter p (cond b (l ∷ xs) xs) ≡ cond (b && c) (l ∷ ys) ys
twice_at true true l xs ys p h is = rw h (ap (λ x. l ∷ x) is)
twice_at true false l xs ys p h is = rw h is
twice_at false c l xs ys p h is = is

filter_twice : (p q : List ℕ → Bool) (ks : List (List ℕ)) → filter p (filter q ks) ≡ filter (λ l. q l && p l) ks
filter_twice p q [] = refl
filter_twice p q (l ∷ ks) = twice_at (q l) (p l) l (filter q ks) _ p refl (filter_twice p q ks)

new_put : (k : List ℕ) (found ks : List (List ℕ)) → new (put_key k found) ks ≡ new found (without_key k ks)
new_put k found ks =
    filter_agree (λ l. not (stands l (put_key k found))) (λ l. not (bytes_eq k l) && not (stands l found))
    (λ l. ap not (stands_put k l found) ∙ neither (bytes_eq k l) (stands l found)) ks
    ∙ sym (filter_twice (λ l. not (stands l found)) (λ l. not (bytes_eq k l)) ks)

places_at : (b : Bool) (k : List ℕ) (found ks : List (List ℕ)) → stands k found ≡ b
    → put_key k found ++ new found ks ≡ found ++ cond (not b) (k ∷ new found ks) (new found ks)
places_at true k found ks h = ap (λ xs. xs ++ new found ks) (put_there k found h)
places_at false k found ks h =
    ap (λ xs. xs ++ new found ks) (put_new k found h) ∙ append_assoc found (k ∷ []) (new found ks)

put_places : (ks found : List (List ℕ)) → put_keys ks found ≡ found ++ new found (first_occurrences ks)
put_places [] found = sym (append-nil found)
put_places (k ∷ ks) found =
    put_places ks (put_key k found) ∙ ap (λ xs. put_key k found ++ xs) (new_put k found (first_occurrences ks))
    ∙ places_at (stands k found) k found (without_key k (first_occurrences ks)) refl

all_new : (ks : List (List ℕ)) → new [] ks ≡ ks
all_new [] = refl
all_new (k ∷ ks) = ap (λ x. k ∷ x) (all_new ks)

pub at_first_places : (ms : Members) → keys (normalized_members AsGiven ms no_members) ≡ first_occurrences (keys ms)
at_first_places ms = keys_normalized ms no_members ∙ put_places (keys ms) [] ∙ all_new (first_occurrences (keys ms))

-- ---- by ascending key

keys_above : (k : List ℕ) (ms : Members) → AreBehind Ascending k ms → AllByRecursion (λ l. cmp k l ≡ Less) (keys ms)
keys_above k no_members are = tt
keys_above k (member l j ms) are = (flipped l k Greater are.0, keys_above k ms are.1)

strictly_sorted : (ms : Members) → IsNormalized Ascending ms → IsStrictlySortedBy (slice_cmp nat_cmp) (keys ms)
unfolding IsStrictlySortedBy
strictly_sorted no_members are = tt
strictly_sorted (member k j ms) are = (keys_above k ms are.0, strictly_sorted ms are.1)

pub by_ascending_key : (ms : Members)
    → IsStrictlySortedBy (slice_cmp nat_cmp) (keys (normalized_members Ascending ms no_members))
by_ascending_key ms =
    strictly_sorted (normalized_members Ascending ms no_members) (all_normalized Ascending ms no_members tt)

-- ---- last values

differs_at : (b : Bool) (q k l : List ℕ) → bytes_eq q k ≡ b → bytes_eq k l ≡ false → bytes_eq q l ≡ true → b ≡ false
differs_at false q k l h differ is = refl
differs_at true q k l h differ is =
    let yes : bytes_eq k l ≡ true = subst (λ x. bytes_eq x l ≡ true) (same_key q k h) is in cc

first_at : (b : Bool) (q k l : List ℕ) (j i : Json) (ms : Members) → bytes_eq k l ≡ b
    → value_at q (put_at_first_position k j ms) ≡ cond (bytes_eq q k) (Some j) (value_at q ms)
    → value_at q (cond b (member l j ms) (member l i (put_at_first_position k j ms)))
    ≡ cond (bytes_eq q k) (Some j) (cond (bytes_eq q l) (Some i) (value_at q ms))
first_at true q k l j i ms h is =
    subst (λ x. cond (bytes_eq q l) (Some j) (value_at q ms)
    ≡ cond (bytes_eq q x) (Some j) (cond (bytes_eq q l) (Some i) (value_at q ms))) (sym (same_key k l h))
    (again (bytes_eq q l) (Some j) (Some i) (value_at q ms))
first_at false q k l j i ms h is =
    ap (cond (bytes_eq q l) (Some i)) is
    ∙ apart (bytes_eq q k) (bytes_eq q l) (Some j) (Some i) (value_at q ms) (differs_at (bytes_eq q k) q k l refl h)

value_put_by : (a : KeyOrder) (q k : List ℕ) (j : Json) (ms : Members)
    → value_at q (put_member a k j ms) ≡ cond (bytes_eq q k) (Some j) (value_at q ms)
value_put_by Ascending q k j ms = value_put q k j ms
value_put_by AsGiven q k j no_members = refl
value_put_by AsGiven q k j (member l i ms) =
    first_at (bytes_eq k l) q k l j i ms refl (value_put_by AsGiven q k j ms)

last_at : (a : KeyOrder) (o : Option Json) (b c : Bool) (j : Json) (v : Option Json) → b ≡ c
    → later_or (option_map (normalized a) o) (cond b (Some (normalized a j)) v)
    ≡ later_or (option_map (normalized a) (later_or o (cond c (Some j) None))) v
last_at a (Some i) b c j v h = refl
last_at a None true c j v h = rw (← h) refl
last_at a None false c j v h = rw (← h) refl

value_normalized : (a : KeyOrder) (q : List ℕ) (ms found : Members)
    → value_at q (normalized_members a ms found) ≡ later_or (option_map (normalized a) (get_member q ms)) (value_at q found)
value_normalized a q no_members found = refl
value_normalized a q (member k j ms) found =
    value_normalized a q ms (put_member a k (normalized a j) found)
    ∙ ap (later_or (option_map (normalized a) (get_member q ms))) (value_put_by a q k (normalized a j) found)
    ∙ last_at a (get_member q ms) (bytes_eq q k) (bytes_eq k q) j (value_at q found) (nat_list_eq_equiv.symm q k)

none_behind : (q : List ℕ) (ms : Members) → AreBehind AsGiven q ms → get_member q ms ≡ None
none_behind q no_members are = refl
none_behind q (member k j ms) are = rw (none_behind q ms are.1, are.0) refl

or_none : (o : Option Json) → later_or o None ≡ o
or_none None = refl
or_none (Some j) = refl

one_value_at : (b : Bool) (q k : List ℕ) (j : Json) (ms : Members) → bytes_eq q k ≡ b → AreBehind AsGiven k ms
    → value_at q ms ≡ get_member q ms → value_at q (member k j ms) ≡ get_member q (member k j ms)
one_value_at true q k j ms h are is =
    let none : get_member q ms ≡ None = ap (λ x. get_member x ms) (same_key q k h) ∙ none_behind k ms are in
    let turn : bytes_eq k q ≡ true = nat_list_eq_equiv.symm k q ∙ h in
    rw (h, none, turn) refl
one_value_at false q k j ms h are is =
    let turn : bytes_eq k q ≡ false = nat_list_eq_equiv.symm k q ∙ h in
    rw (h, turn) (is ∙ sym (or_none (get_member q ms)))

one_value : (q : List ℕ) (ms : Members) → IsNormalized AsGiven ms → value_at q ms ≡ get_member q ms
one_value q no_members are = refl
one_value q (member k j ms) are = one_value_at (bytes_eq q k) q k j ms refl are.0 (one_value q ms are.1)

pub with_last_values : (a : KeyOrder) (ms : Members) (k : List ℕ)
    → get_member k (normalized_members a ms no_members) ≡ option_map (normalized a) (get_member k ms)
with_last_values a ms k =
    let all = normalized_members a ms no_members in
    sym (one_value k all (normalized_either a all (all_normalized a ms no_members tt)))
    ∙ value_normalized a k ms no_members ∙ or_none (option_map (normalized a) (get_member k ms))
