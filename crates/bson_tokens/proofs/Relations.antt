-- The function and the relations.
use Rattle.std.proofs.Common.{◌≡◌, ◌≢◌, ◌+◌, ℕ, List, [], ◌∷◌, Bool, true, false, not, Option, Some, None}
use Rattle.std.proofs.Common.{refl, sym, subst, ◌||◌, bytes_eq, arith, Vec, Global}
use Rattle.std.proofs.lemmas.List.Elements.{All-cons}
use Rattle.std.proofs.lemmas.List.Kept.{AllPairs-cons}
use Rattle.std.proofs.lemmas.Option.{same_Some}
use Rattle.std.specs.List.{All}
use Rattle.json.specs.Json.{Json, Items, no_items, item, Members, no_members, member}
use Rattle.json.specs.Json as json
use Rattle.json.specs.Strict.{keys, AreDistinct, HasUniqueKeys, ItemsHaveUniqueKeys, MembersHaveUniqueKeys}
use Rattle.bson_tree.specs.Place.{PathSegment, key, element}
use Rattle.bson_tree.specs.declared.place.Segment.{Segment}
use Rattle.bson_tokens.specs.DuplicateKeys.{DuplicateAt, DuplicateInItems, DuplicateInMembers, IsFirstDuplicate, json_of, segments_of}
use Rattle.bson_tokens.specs.DuplicateKeys as place
use Rattle.bson_tokens.specs.DuplicateKeyPath.{DuplicatePath, first_duplicate, first_duplicate_in_items, first_duplicate_in_members, append_segment, first_path, member_path, is_among}
use Rattle.bson_tokens.specs.DuplicateKeyPath.{path_of_result}
use Rattle.bson_tokens.proofs.Keys.{apart, stands, stands_not}

pub or_or : (u v w : DuplicatePath) → first_path (first_path u v) w ≡ first_path u (first_path v w)
or_or None v w = refl
or_or (Some f) v w = refl

pub or_none : (v : DuplicatePath) → first_path v None ≡ v
or_none None = refl
or_none (Some f) = refl

both_none : (v w : DuplicatePath) → first_path v w ≡ None → (v ≡ None) × (w ≡ None)
both_none None w e = (refl, e)
both_none (Some f) w e = cc

none_within : (t : PathSegment) (v : DuplicatePath) → append_segment t v ≡ None → v ≡ None
none_within t None e = refl
none_within t (Some path) e = cc

new_key : (stood : Bool) (k : List ℕ) (v : DuplicatePath) → member_path (not stood) k v ≡ None → (stood ≡ false) × (v ≡ None)
new_key false k v e = (refl, none_within (key k) v e)
new_key true k v e = cc

both_false : (a b : Bool) → (a || b) ≡ false → (a ≡ false) × (b ≡ false)
both_false false b e = (refl, e)
both_false true b e = cc

-- no key is one of those before, and none occurs twice
record AreApart (before : List (List ℕ)) (ms : Members) : Type 0 where
  pub others : All (λ l. is_among before l ≡ false) (keys ms)
  pub distinct : AreDistinct (keys ms)
  pub inside : MembersHaveUniqueKeys ms

none_apart : (before : List (List ℕ)) → AreApart before no_members
none_apart before = record {
  others = λ i d less. absurd (omega (arith, less));
  distinct = λ i j d less append_segment. absurd (omega (arith, append_segment));
  inside = tt;
}

first_apart : (before : List (List ℕ)) (k : List ℕ) (j : Json) (ms : Members) → is_among before k ≡ false
    → HasUniqueKeys j → AreApart (k ∷ before) ms → AreApart before (member k j ms)
first_apart before k j ms new unique rest =
    record {
      others = All-cons (λ l. is_among before l ≡ false) k (keys ms) new
          (λ i d less. (both_false (bytes_eq k _) _ (rest.others i d less)).1);
      distinct = AllPairs-cons (λ a b. a ≢ b) k (keys ms)
          (λ i d less. apart k _ (both_false (bytes_eq k _) _ (rest.others i d less)).0) rest.distinct;
      inside = (unique, rest.inside);
    }

mutual
  pub unique : (j : Json) → first_duplicate j ≡ None → HasUniqueKeys j
  unique json.null e = tt
  unique (json.boolean b) e = tt
  unique (json.number s) e = tt
  unique (json.string s) e = tt
  unique (json.array js) e = unique_items 0 js e
  unique (json.object ms) e = let h = unique_members [] ms e in (h.distinct, h.inside)

  unique_items : (n : ℕ) (js : Items) → first_duplicate_in_items n js ≡ None → ItemsHaveUniqueKeys js
  unique_items n no_items e = tt
  unique_items n (item j js) e =
      let h = both_none (append_segment (element n) (first_duplicate j)) (first_duplicate_in_items (n + 1) js) e in
      (unique j (none_within (element n) (first_duplicate j) h.0), unique_items (n + 1) js h.1)

  unique_members : (before : List (List ℕ)) (ms : Members) → first_duplicate_in_members before ms ≡ None → AreApart before ms
  unique_members before no_members e = none_apart before
  unique_members before (member k j ms) e =
      let h = both_none (member_path (not (is_among before k)) k (first_duplicate j)) (first_duplicate_in_members (k ∷ before) ms) e in
      let new = new_key (is_among before k) k (first_duplicate j) h.0 in
      first_apart before k j ms new.0 (unique j new.1) (unique_members (k ∷ before) ms h.1)

-- ---- where a key occurs twice

in_item : (n : ℕ) (j : Json) (js : Items) (v : DuplicatePath) (path : List PathSegment) → first_duplicate j ≡ v
    → first_path (append_segment (element n) v) (first_duplicate_in_items (n + 1) js) ≡ Some path
    → ((w : List PathSegment) → first_duplicate j ≡ Some w → DuplicateAt j w)
    → (first_duplicate_in_items (n + 1) js ≡ Some path → DuplicateInItems (n + 1) js path) → DuplicateInItems n (item j js) path
in_item n j js None path is e first later = place.in_later_item n j js (unique j is) (later e)
in_item n j js (Some w) path is e first later =
    subst (DuplicateInItems n (item j js)) (same_Some _ _ e) (place.in_this_item n j js (first w is))

in_member : (before : List (List ℕ)) (k : List ℕ) (j : Json) (ms : Members) (stood : Bool) (v : DuplicatePath)
    (path : List PathSegment) → is_among before k ≡ stood → first_duplicate j ≡ v
    → first_path (member_path (not stood) k v) (first_duplicate_in_members (k ∷ before) ms) ≡ Some path
    → ((w : List PathSegment) → first_duplicate j ≡ Some w → DuplicateAt j w)
    → (first_duplicate_in_members (k ∷ before) ms ≡ Some path → DuplicateInMembers (k ∷ before) ms path)
    → DuplicateInMembers before (member k j ms) path
in_member before k j ms true v path stood is e first later =
    subst (DuplicateInMembers before (member k j ms)) (same_Some _ _ e) (place.duplicate_key before k j ms (stands before k stood))
in_member before k j ms false None path stood is e first later =
    place.in_later_member before k j ms (stands_not before k stood) (unique j is) (later e)
in_member before k j ms false (Some w) path stood is e first later =
    subst (DuplicateInMembers before (member k j ms)) (same_Some _ _ e)
    (place.in_member_value before k j ms (stands_not before k stood) (first w is))

mutual
  pub at : (j : Json) (path : List PathSegment) → first_duplicate j ≡ Some path → DuplicateAt j path
  at json.null path e = cc
  at (json.boolean b) path e = cc
  at (json.number s) path e = cc
  at (json.string s) path e = cc
  at (json.array js) path e = place.array js (among 0 js path e)
  at (json.object ms) path e = place.object ms (inside [] ms path e)

  among : (n : ℕ) (js : Items) (path : List PathSegment) → first_duplicate_in_items n js ≡ Some path → DuplicateInItems n js path
  among n no_items path e = cc
  among n (item j js) path e =
      in_item n j js (first_duplicate j) path refl e (λ w is. at j w is) (λ is. among (n + 1) js path is)

  inside : (before : List (List ℕ)) (ms : Members) (path : List PathSegment) → first_duplicate_in_members before ms ≡ Some path
      → DuplicateInMembers before ms path
  inside before no_members path e = cc
  inside before (member k j ms) path e =
      in_member before k j ms (is_among before k) (first_duplicate j) path refl refl e (λ w is. at j w is)
      (λ is. inside (k ∷ before) ms path is)

-- what an answer says
pub answered : (j : Json) (text : List ℕ) (path : Option (Vec Segment Global)) → json_of text ≡ Some j
    → path_of_result path ≡ first_duplicate j → IsFirstDuplicate text path
answered j text None is e = (j, is, unique j (sym e))
answered j text (Some path) is e = (j, is, at j (segments_of path) (sym e))
