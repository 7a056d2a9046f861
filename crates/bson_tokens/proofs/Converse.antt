-- What the relations say is what the function gives.
use Rattle.std.proofs.Common.{◌≡◌, ◌≢◌, ◌+◌, ℕ, suc, List, [], ◌∷◌, Bool, true, false, not, Some, None}
use Rattle.std.proofs.Common.{refl, sym, ap, ◌∙◌, ◌||◌, bytes_eq, arith, get_or}
use Rattle.std.proofs.lemmas.Cmp.{nat_list_eq_equiv}
use Rattle.std.proofs.lemmas.List.Elements.{All-head}
use Rattle.std.proofs.lemmas.Map.Views.{list_any-from_Contains}
use Rattle.std.proofs.lemmas.Option.{same_Some}
use Rattle.std.proofs.lemmas.Slice.Eq.{bytes_eq-Decides}
use Rattle.std.specs.List.{All, Contains}
use Rattle.json.specs.Json.{Json, Items, no_items, item, Members, no_members, member}
use Rattle.json.specs.Json as json
use Rattle.json.specs.Strict.{keys, AreDistinct, HasUniqueKeys, ItemsHaveUniqueKeys, MembersHaveUniqueKeys}
use Rattle.bson_tree.specs.Place.{PathSegment, key, element}
use Rattle.bson_tokens.specs.DuplicateKeys.{DuplicateAt, DuplicateInItems, DuplicateInMembers}
use Rattle.bson_tokens.specs.DuplicateKeys as place
use Rattle.bson_tokens.specs.DuplicateKeyPath.{DuplicatePath, first_duplicate, first_duplicate_in_items, first_duplicate_in_members, append_segment, first_path, member_path, is_among}
use Rattle.bson_tokens.proofs.Keys.{stands, turned}
use Rattle.bson_tokens.proofs.Relations.{at, unique}

stood : (before : List (List ℕ)) (k : List ℕ) → Contains before k → is_among before k ≡ true
stood before k has = turned before k ∙ list_any-from_Contains {eq = bytes_eq} nat_list_eq_equiv k before has

by_case : (before : List (List ℕ)) (k : List ℕ) (b : Bool) → is_among before k ≡ b → ¬ (Contains before k)
    → b ≡ false
by_case before k true is absent = absurd (absent (stands before k is))
by_case before k false is absent = refl

new : (before : List (List ℕ)) (k : List ℕ) → ¬ (Contains before k) → is_among before k ≡ false
new before k absent = by_case before k (is_among before k) refl absent

differ : (a b : List ℕ) (t : Bool) → bytes_eq a b ≡ t → a ≢ b → t ≡ false
differ a b true is other = absurd (other ((bytes_eq-Decides a b).0 is))
differ a b false is other = refl

either_false : (a b : Bool) → a ≡ false → b ≡ false → (a || b) ≡ false
either_false a b x y = ap (λ c. c || b) x ∙ y

-- the keys after the first are none of those before, nor the first
others : (before : List (List ℕ)) (k : List ℕ) (ks : List (List ℕ))
    → All (λ l. is_among before l ≡ false) (k ∷ ks) → AreDistinct (k ∷ ks)
    → All (λ l. is_among (k ∷ before) l ≡ false) ks
others before k ks apart distinct i d less =
    either_false (bytes_eq k (get_or ks i d)) (is_among before (get_or ks i d))
    (differ k (get_or ks i d) (bytes_eq k (get_or ks i d)) refl (distinct 0 (suc i) d (omega arith) (omega arith)))
    (apart (suc i) d (omega arith))

mutual
  none : (j : Json) → HasUniqueKeys j → first_duplicate j ≡ None
  none json.null h = refl
  none (json.boolean b) h = refl
  none (json.number s) h = refl
  none (json.string s) h = refl
  none (json.array js) h = none_items 0 js h
  none (json.object ms) h = none_members [] ms (λ i d less. refl) h.0 h.1

  none_items : (n : ℕ) (js : Items) → ItemsHaveUniqueKeys js → first_duplicate_in_items n js ≡ None
  none_items n no_items h = refl
  none_items n (item j js) h =
      ap (λ v. first_path (append_segment (element n) v) (first_duplicate_in_items (n + 1) js)) (none j h.0) ∙ none_items (n + 1) js h.1

  none_members : (before : List (List ℕ)) (ms : Members) → All (λ l. is_among before l ≡ false) (keys ms)
      → AreDistinct (keys ms) → MembersHaveUniqueKeys ms → first_duplicate_in_members before ms ≡ None
  none_members before no_members apart distinct h = refl
  none_members before (member k j ms) apart distinct h =
      ap (λ b. first_path (member_path (not b) k (first_duplicate j)) (first_duplicate_in_members (k ∷ before) ms))
      (All-head (λ l. is_among before l ≡ false) k (keys ms) apart)
      ∙ ap (λ v. first_path (append_segment (key k) v) (first_duplicate_in_members (k ∷ before) ms)) (none j h.0)
      ∙ none_members (k ∷ before) ms (others before k (keys ms) apart distinct)
      (λ i l d less append_segment. distinct (suc i) (suc l) d (omega arith) (omega arith)) h.1

mutual
  found : (j : Json) (path : List PathSegment) → DuplicateAt j path → first_duplicate j ≡ Some path
  found j path (place.array js m) = found_among 0 js path m
  found j path (place.object ms m) = found_within [] ms path m

  found_among : (n : ℕ) (js : Items) (path : List PathSegment) → DuplicateInItems n js path → first_duplicate_in_items n js ≡ Some path
  found_among n js path (place.in_this_item {path = w} m j rest d) =
      ap (λ v. first_path (append_segment (element m) v) (first_duplicate_in_items (m + 1) rest)) (found j w d)
  found_among n js path (place.in_later_item m j rest h d) =
      ap (λ v. first_path (append_segment (element m) v) (first_duplicate_in_items (m + 1) rest)) (none j h) ∙ found_among (m + 1) rest path d

  found_within : (before : List (List ℕ)) (ms : Members) (path : List PathSegment) → DuplicateInMembers before ms path
      → first_duplicate_in_members before ms ≡ Some path
  found_within before ms path (place.duplicate_key b k j rest has) =
      ap (λ s. first_path (member_path (not s) k (first_duplicate j)) (first_duplicate_in_members (k ∷ b) rest)) (stood b k has)
  found_within before ms path (place.in_member_value {path = w} b k j rest absent d) =
      ap (λ s. first_path (member_path (not s) k (first_duplicate j)) (first_duplicate_in_members (k ∷ b) rest)) (new b k absent)
      ∙ ap (λ v. first_path (append_segment (key k) v) (first_duplicate_in_members (k ∷ b) rest)) (found j w d)
  found_within before ms path (place.in_later_member b k j rest absent h d) =
      ap (λ s. first_path (member_path (not s) k (first_duplicate j)) (first_duplicate_in_members (k ∷ b) rest)) (new b k absent)
      ∙ ap (λ v. first_path (append_segment (key k) v) (first_duplicate_in_members (k ∷ b) rest)) (none j h)
      ∙ found_within (k ∷ b) rest path d

pub one_path : (j : Json) (path other : List PathSegment) → DuplicateAt j path → DuplicateAt j other → path ≡ other
one_path j path other m n = same_Some path other (sym (found j path m) ∙ found j other n)

some_is_none : (path : List PathSegment) → Some path ≡ None → ⊥
some_is_none path e = cc

pub twice : (j : Json) (path : List PathSegment) → DuplicateAt j path → ¬ HasUniqueKeys j
twice j path m h = some_is_none path (sym (found j path m) ∙ none j h)

a_path : (j : Json) (v : DuplicatePath) → first_duplicate j ≡ v → ¬ HasUniqueKeys j → (path : List PathSegment) × DuplicateAt j path
a_path j None is other = absurd (other (unique j is))
a_path j (Some path) is other = (path, at j path is)

pub some_path : (j : Json) → ¬ HasUniqueKeys j → (path : List PathSegment) × DuplicateAt j path
some_path j other = a_path j (first_duplicate j) refl other
