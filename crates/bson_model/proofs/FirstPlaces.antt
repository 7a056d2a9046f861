-- A duplicate key has its last value at its first position.
use Rattle.std.proofs.Common.{◌≡◌, ℕ, List, [], ◌∷◌, ◌++◌, Bool, true, false, cond, not, ◌||◌, Option, Some, None}
use Rattle.std.proofs.Common.{refl, sym, ap, ◌∙◌, subst, option_and_then, filter, append_assoc, append-nil}
use Rattle.std.specs.Str.{bytes_eq}
use Rattle.std.proofs.lemmas.Slice.Eq.{bytes_eq-Decides}
use Rattle.json.specs.Json as json
use Rattle.serde_json.specs.Data.{Data, Members, no_members, member}
use Rattle.bson_model.specs.OrderedTrees.{put_at_key_position, tree_of_json, members_of_json, has_key}
use Rattle.bson_model.specs.DuplicateKeys.{written_keys, tree_keys, without_key, first_occurrences, last_value_at_key, tree_at_key}
use Rattle.bson_model.specs.DuplicateKeys.{last_of_two, HasFirstPositions}
use Rattle.bson_model.proofs.OptionalValues.{un_some, after, same_bytes, turned}

-- ---- the keys of what is inserted in its place

put_there_at : (b : Bool) (k a : List ℕ) (d e : Data) (ms : Members) → (b || has_key k ms) ≡ true
    → (has_key k ms ≡ true → tree_keys (put_at_key_position k d ms) ≡ tree_keys ms)
    → tree_keys (cond b (member a d ms) (member a e (put_at_key_position k d ms))) ≡ a ∷ tree_keys ms
put_there_at true k a d e ms h is = refl
put_there_at false k a d e ms h is = ap (λ ks. a ∷ ks) (is h)

put_there : (k : List ℕ) (d : Data) (ms : Members) → has_key k ms ≡ true → tree_keys (put_at_key_position k d ms) ≡ tree_keys ms
put_there k d no_members h = cc
put_there k d (member a e ms) h = put_there_at (bytes_eq k a) k a d e ms h (put_there k d ms)

put_new_at : (b : Bool) (k a : List ℕ) (d e : Data) (ms : Members) → (b || has_key k ms) ≡ false
    → (has_key k ms ≡ false → tree_keys (put_at_key_position k d ms) ≡ tree_keys ms ++ (k ∷ []))
    → tree_keys (cond b (member a d ms) (member a e (put_at_key_position k d ms))) ≡ a ∷ (tree_keys ms ++ (k ∷ []))
put_new_at true k a d e ms h is = cc
put_new_at false k a d e ms h is = ap (λ ks. a ∷ ks) (is h)

put_new : (k : List ℕ) (d : Data) (ms : Members) → has_key k ms ≡ false
    → tree_keys (put_at_key_position k d ms) ≡ tree_keys ms ++ (k ∷ [])
put_new k d no_members h = refl
put_new k d (member a e ms) h = put_new_at (bytes_eq k a) k a d e ms h (put_new k d ms)

or_again : (b c : Bool) → (b || c) ≡ ((b || c) || b)
or_again true c = refl
or_again false true = refl
or_again false false = refl

or_none : (b : Bool) → (b || false) ≡ b
or_none true = refl
or_none false = refl

or_assoc : (a b c : Bool) → (a || (b || c)) ≡ ((a || b) || c)
or_assoc true b c = refl
or_assoc false b c = refl

has_put_at : (b : Bool) (q k a : List ℕ) (d e : Data) (ms : Members) → bytes_eq k a ≡ b
    → has_key q (put_at_key_position k d ms) ≡ (has_key q ms || bytes_eq q k)
    → has_key q (cond b (member a d ms) (member a e (put_at_key_position k d ms)))
    ≡ ((bytes_eq q a || has_key q ms) || bytes_eq q k)
has_put_at true q k a d e ms h is =
    subst (λ x. (bytes_eq q a || has_key q ms) ≡ ((bytes_eq q a || has_key q ms) || bytes_eq q x))
    (sym (same_bytes k a h)) (or_again (bytes_eq q a) (has_key q ms))
has_put_at false q k a d e ms h is =
    ap (λ b. bytes_eq q a || b) is ∙ or_assoc (bytes_eq q a) (has_key q ms) (bytes_eq q k)

has_put : (q k : List ℕ) (d : Data) (ms : Members) → has_key q (put_at_key_position k d ms) ≡ (has_key q ms || bytes_eq q k)
has_put q k d no_members = or_none (bytes_eq q k)
has_put q k d (member a e ms) = has_put_at (bytes_eq k a) q k a d e ms refl (has_put q k d ms)

-- ---- the places

either_way_at : (b : Bool) (k l : List ℕ) → bytes_eq k l ≡ b → bytes_eq l k ≡ b
either_way_at true k l h = (bytes_eq-Decides l k).1 (sym (same_bytes k l h))
either_way_at false k l h = turned k l h

either_way : (k l : List ℕ) → bytes_eq k l ≡ bytes_eq l k
either_way k l = sym (either_way_at (bytes_eq k l) k l refl)

abbrev new : Members → List (List ℕ) → List (List ℕ)
new found ks = filter (λ l. not (has_key l found)) ks

filter_cons : (b c e : Bool) (l : List ℕ) (xs ys : List (List ℕ)) (p : List ℕ → Bool) → p l ≡ c → e ≡ not (not c || b)
    → filter p xs ≡ ys
    → filter p (cond (not b) (l ∷ xs) xs) ≡ cond e (l ∷ ys) ys
filter_cons true true e l xs ys p h g is = rw g is
filter_cons true false e l xs ys p h g is = rw g is
filter_cons false true e l xs ys p h g is = rw (g, h) (ap (λ zs. l ∷ zs) is)
filter_cons false false e l xs ys p h g is = rw (g, h) is

not_twice : (b : Bool) → b ≡ not (not b)
not_twice true = refl
not_twice false = refl

-- the keys but k that are not there are those that are not there when k is inserted
new_put : (k : List ℕ) (d : Data) (found : Members) (ks : List (List ℕ))
    → new found (without_key k ks) ≡ new (put_at_key_position k d found) ks
new_put k d found [] = refl
new_put k d found (l ∷ ks) =
    filter_cons (bytes_eq k l) (not (has_key l found)) (not (has_key l (put_at_key_position k d found))) l (without_key k ks)
    (new (put_at_key_position k d found) ks) (λ l. not (has_key l found)) refl
    (ap not (has_put l k d found ∙ ap (λ b. b || bytes_eq l k) (not_twice (has_key l found))
    ∙ ap (λ b. not (not (has_key l found)) || b) (either_way l k)))
    (new_put k d found ks)

places_at : (b : Bool) (k : List ℕ) (d : Data) (found : Members) (ks : List (List ℕ)) → has_key k found ≡ b
    → tree_keys (put_at_key_position k d found) ++ new (put_at_key_position k d found) ks
    ≡ tree_keys found ++ cond (not b) (k ∷ new found (without_key k ks)) (new found (without_key k ks))
places_at true k d found ks h = ap (λ xs. xs ++ new (put_at_key_position k d found) ks) (put_there k d found h)
    ∙ ap (λ xs. tree_keys found ++ xs) (sym (new_put k d found ks))
places_at false k d found ks h = ap (λ xs. xs ++ new (put_at_key_position k d found) ks) (put_new k d found h)
    ∙ append_assoc (tree_keys found) (k ∷ []) (new (put_at_key_position k d found) ks)
    ∙ ap (λ xs. tree_keys found ++ (k ∷ xs)) (sym (new_put k d found ks))

-- the keys found, and after them the new ones, each at its first position
places : (ws : json.Members) (found ms : Members) → members_of_json ws found ≡ Some ms
    → tree_keys ms ≡ tree_keys found ++ new found (first_occurrences (written_keys ws))
places json.no_members found ms h = ap tree_keys (sym (un_some found ms h)) ∙ sym (append-nil (tree_keys found))
places (json.member k j ws) found ms h =
    let a = after (λ d. members_of_json ws (put_at_key_position k d found)) (tree_of_json j) ms h in
    places ws (put_at_key_position k a.0 found) ms a.2
    ∙ places_at (has_key k found) k a.0 found (first_occurrences (written_keys ws)) refl

all_new : (ks : List (List ℕ)) → new no_members ks ≡ ks
all_new [] = refl
all_new (k ∷ ks) = ap (λ xs. k ∷ xs) (all_new ks)

-- ---- the values

cond_again : {A : Type 0} (b : Bool) (x y z : A) → cond b x z ≡ cond b x (cond b y z)
cond_again true x y z = refl
cond_again false x y z = refl

cond_apart : {A : Type 0} (b c : Bool) (x y z : A) → (c ≡ true → b ≡ false)
    → cond c y (cond b x z) ≡ cond b x (cond c y z)
cond_apart b true x y z h = rw (h refl) refl
cond_apart b false x y z h = refl

other_key : (b : Bool) (q k a : List ℕ) → bytes_eq q k ≡ b → bytes_eq k a ≡ false → bytes_eq q a ≡ true → b ≡ false
other_key false q k a h differ same = refl
other_key true q k a h differ same =
    let yes : bytes_eq k a ≡ true = subst (λ x. bytes_eq x a ≡ true) (same_bytes q k h) same in cc

at_put_at : (b : Bool) (q k a : List ℕ) (d e : Data) (ms : Members) → bytes_eq k a ≡ b
    → tree_at_key q (put_at_key_position k d ms) ≡ cond (bytes_eq q k) (Some d) (tree_at_key q ms)
    → tree_at_key q (cond b (member a d ms) (member a e (put_at_key_position k d ms)))
    ≡ cond (bytes_eq q k) (Some d) (cond (bytes_eq q a) (Some e) (tree_at_key q ms))
at_put_at true q k a d e ms h is =
    subst (λ x. cond (bytes_eq q a) (Some d) (tree_at_key q ms)
    ≡ cond (bytes_eq q x) (Some d) (cond (bytes_eq q a) (Some e) (tree_at_key q ms))) (sym (same_bytes k a h))
    (cond_again (bytes_eq q a) (Some d) (Some e) (tree_at_key q ms))
at_put_at false q k a d e ms h is = ap (λ o. cond (bytes_eq q a) (Some e) o) is
    ∙ cond_apart (bytes_eq q k) (bytes_eq q a) (Some d) (Some e) (tree_at_key q ms) (other_key (bytes_eq q k) q k a refl h)

-- the value at k is the one that was inserted there; the value at each other key is unchanged
at_put : (q k : List ℕ) (d : Data) (ms : Members)
    → tree_at_key q (put_at_key_position k d ms) ≡ cond (bytes_eq q k) (Some d) (tree_at_key q ms)
at_put q k d no_members = refl
at_put q k d (member a e ms) = at_put_at (bytes_eq k a) q k a d e ms refl (at_put q k d ms)

-- what was written last, or else what was found
abbrev at_last : Option json.Json → List ℕ → Members → Option Data
at_last (Some j) q found = tree_of_json j
at_last None q found = tree_at_key q found

written_at : (o : Option json.Json) (b : Bool) (j : json.Json) (d : Data) (q : List ℕ) (found put : Members)
    → tree_of_json j ≡ Some d → tree_at_key q put ≡ cond b (Some d) (tree_at_key q found)
    → at_last o q put ≡ at_last (last_of_two (cond b (Some j) None) o) q found
written_at (Some i) b j d q found put h is = refl
written_at None true j d q found put h is = is ∙ sym h
written_at None false j d q found put h is = is

values : (ws : json.Members) (found ms : Members) (q : List ℕ) → members_of_json ws found ≡ Some ms
    → tree_at_key q ms ≡ at_last (last_value_at_key q ws) q found
values json.no_members found ms q h = ap (tree_at_key q) (sym (un_some found ms h))
values (json.member k j ws) found ms q h =
    let a = after (λ d. members_of_json ws (put_at_key_position k d found)) (tree_of_json j) ms h in
    values ws (put_at_key_position k a.0 found) ms q a.2
    ∙ written_at (last_value_at_key q ws) (bytes_eq q k) j a.0 q found (put_at_key_position k a.0 found) a.1 (at_put q k a.0 found)

none_found : (o : Option json.Json) (q : List ℕ) → at_last o q no_members ≡ option_and_then tree_of_json o
none_found (Some j) q = refl
none_found None q = refl

pub first_places_kept : (ws : json.Members) (ms : Members) → members_of_json ws no_members ≡ Some ms
    → HasFirstPositions ws ms
first_places_kept ws ms h = record {
  keys_at_first_positions = places ws no_members ms h ∙ all_new (first_occurrences (written_keys ws));
  last_values = λ q. values ws no_members ms q h ∙ none_found (last_value_at_key q ws) q;
}
