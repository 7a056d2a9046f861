-- What a stable sort by key gives, merged, has the members that the list is inserted as.
use Rattle.std.proofs.Common.{◌≡◌, ℕ, List, [], ◌∷◌, Bool, true, false, cond, Option, Some, None, option_map}
use Rattle.std.proofs.Common.{Ordering, Less, Equal, Greater, nat_cmp, IsPermutation, refl, sym, ap, ap₂, ◌∙◌, subst}
use Rattle.std.proofs.lemmas.Cmp.{nat_list_cmp_total, nat_cmp_total, tied_itself}
use Rattle.std.proofs.lemmas.List.Sorted.{sorted_far, ranks_by}
use Rattle.std.proofs.lemmas.Option.{same_Some}
use Rattle.std.specs.Cmp.Lexicographic.{slice_cmp}
use Rattle.std.specs.List.Sorted.{IsSortedByKey}
use Rattle.std.specs.Ordering.{is_lt, match_ordering}
use Rattle.std.specs.Str.{bytes_eq}
use Rattle.json.specs.Json.{Json, Members, no_members, member}
use Rattle.bson_model.specs.StableOrder.{IsStableByKey}
use Rattle.bson_tokens.specs.Normalized.{put_ascending, put_member}
use Rattle.bson_tokens.specs.PutMembers.{PositionsAscend, members_of, put_all_members, merged, merged_from}
use Rattle.bson_model.specs.declared.options.KeyOrder.{KeyOrder}
use Rattle.bson_model.specs.declared.options.KeyOrder.TheVariants.{AsGiven, Ascending}
use Rattle.bson_tokens.proofs.Normalizing.{cmp, flipped, AreBehind, IsNormalized, put_stays}
use Rattle.bson_tokens.proofs.MemberSpans.{same_key, own_key, turned, entry, after, seen, first, seen_stable}
use Rattle.bson_tokens.proofs.MemberSpans.{seen_merged, first_is_seen, put_all, all_members, first_put_all, rising_all}
use Rattle.bson_tokens.proofs.Putting.{normalized_either}
use Rattle.bson_tokens.proofs.Settled.{NoneLower, Sorted, sorted_from, equal_keys, less_than, above, same_lists}
use Rattle.bson_tokens.proofs.Settled.{differ_permuted, found_permuted}

-- ---- members by ascending key, with the same at each key

abbrev pub value_at : List ℕ → Members → Option Json
value_at q no_members = None
value_at q (member k j ms) = cond (bytes_eq q k) (Some j) (value_at q ms)

own_value : (k : List ℕ) (j : Json) (ms : Members) → value_at k (member k j ms) ≡ Some j
own_value k j ms = rw (own_key k) refl

other_value : (q k : List ℕ) (j : Json) (ms : Members) → bytes_eq q k ≡ false
    → value_at q (member k j ms) ≡ value_at q ms
other_value q k j ms h = rw h refl

-- of two keys the one after is another
apart_at : (b : Bool) (k l : List ℕ) → bytes_eq k l ≡ b → cmp l k ≡ Greater → b ≡ false
apart_at false k l h behind = refl
apart_at true k l h behind =
    let s : cmp k k ≡ Equal = tied_itself nat_list_cmp_total k in
    let f : cmp k k ≡ Greater = subst (λ x. cmp x k ≡ Greater) (sym (same_key k l h)) behind in
    cc

none_at : (q : List ℕ) (ms : Members) → AreBehind Ascending q ms → value_at q ms ≡ None
none_at q no_members are = refl
none_at q (member k j ms) are = rw (apart_at (bytes_eq q k) q k refl are.0) (none_at q ms are.1)

later_at : (b : Bool) (k q l : List ℕ) (j v : Json) (ms : Members) → bytes_eq q l ≡ b → cmp l k ≡ Greater
    → cond b (Some j) (value_at q ms) ≡ Some v → (value_at q ms ≡ Some v → cmp q k ≡ Greater) → cmp q k ≡ Greater
later_at true k q l j v ms h behind is later = subst (λ x. cmp x k ≡ Greater) (sym (same_key q l h)) behind
later_at false k q l j v ms h behind is later = later is

-- what is among those after a key is after it
later : (k q : List ℕ) (v : Json) (ms : Members) → AreBehind Ascending k ms → value_at q ms ≡ Some v
    → cmp q k ≡ Greater
later k q v no_members are is = absurd cc
later k q v (member l j ms) are is =
    later_at (bytes_eq q l) k q l j v ms refl are.0 is (λ h. later k q v ms are.1 h)

tails_at : (b : Bool) (q k l : List ℕ) (j i : Json) (ms ns : Members) → bytes_eq q k ≡ b → k ≡ l
    → AreBehind Ascending k ms → AreBehind Ascending l ns → value_at q (member k j ms) ≡ value_at q (member l i ns)
    → value_at q ms ≡ value_at q ns
tails_at true q k l j i ms ns h one mine other same =
    let own = same_key q k h in
    ap (λ x. value_at x ms) own ∙ none_at k ms mine ∙ sym (none_at l ns other)
    ∙ ap (λ x. value_at x ns) (sym (own ∙ one))
tails_at false q k l j i ms ns h one mine other same =
    sym (other_value q k j ms h) ∙ same ∙ other_value q l i ns (ap (bytes_eq q) (sym one) ∙ h)

heads_at : (b : Bool) (k l : List ℕ) (j i : Json) (ms ns : Members) → bytes_eq k l ≡ b → AreBehind Ascending k ms
    → AreBehind Ascending l ns → ((q : List ℕ) → value_at q (member k j ms) ≡ value_at q (member l i ns))
    → (((q : List ℕ) → value_at q ms ≡ value_at q ns) → ms ≡ ns) → member k j ms ≡ member l i ns
heads_at true k l j i ms ns h mine other same rest =
    let one = same_key k l h in
    let values = same_Some j i (sym (own_value k j ms) ∙ same k ∙ ap (λ x. value_at x (member l i ns)) one
    ∙ own_value l i ns) in
    ap₂ (λ x v. member x v ms) one values
    ∙ ap (member l i) (rest (λ q. tails_at (bytes_eq q k) q k l j i ms ns refl one mine other (same q)))
heads_at false k l j i ms ns h mine other same rest =
    let behind_l : cmp k l ≡ Greater =
    later l k j ns other (sym (other_value k l i ns h) ∙ sym (same k) ∙ own_value k j ms) in
    let behind_k : cmp l k ≡ Greater =
    later k l i ms mine (sym (other_value l k j ms (turned l k h)) ∙ same l ∙ own_value l i ns) in
    let less : cmp k l ≡ Less = flipped l k Greater behind_k in
    cc

same_members : (ms ns : Members) → IsNormalized Ascending ms → IsNormalized Ascending ns
    → ((q : List ℕ) → value_at q ms ≡ value_at q ns) → ms ≡ ns
same_members no_members no_members mine other same = refl
same_members no_members (member l i ns) mine other same = let h = same l ∙ own_value l i ns in absurd cc
same_members (member k j ms) no_members mine other same = let h = sym (own_value k j ms) ∙ same k in absurd cc
same_members (member k j ms) (member l i ns) mine other same =
    heads_at _ k l j i ms ns refl mine.0 other.0 same (same_members ms ns mine.1 other.1)

-- ---- what is inserted

pub again : {A : Type 0} (b : Bool) (x y z : A) → cond b x z ≡ cond b x (cond b y z)
again true x y z = refl
again false x y z = refl

pub apart : {A : Type 0} (b c : Bool) (x y z : A) → (c ≡ true → b ≡ false) → cond c y (cond b x z) ≡ cond b x (cond c y z)
apart b true x y z h = rw (h refl) refl
apart b false x y z h = refl

not_both : (b : Bool) (q k c : List ℕ) → bytes_eq q k ≡ b → cmp k c ≡ Greater → bytes_eq q c ≡ true → b ≡ false
not_both false q k c h behind is = refl
not_both true q k c h behind is =
    let s : cmp k k ≡ Equal = tied_itself nat_list_cmp_total k in
    let one = sym (same_key q c is) ∙ same_key q k h in
    let f : cmp k k ≡ Greater = subst (λ x. cmp k x ≡ Greater) one behind in
    cc

put_at : (o : Ordering) (q k c : List ℕ) (j i : Json) (ms : Members) → cmp k c ≡ o
    → value_at q (put_ascending k j ms) ≡ cond (bytes_eq q k) (Some j) (value_at q ms)
    → value_at q (match_ordering o (member k j (member c i ms)) (member c j ms) (member c i (put_ascending k j ms)))
    ≡ cond (bytes_eq q k) (Some j) (cond (bytes_eq q c) (Some i) (value_at q ms))
put_at Less q k c j i ms h is = refl
put_at Equal q k c j i ms h is =
    subst (λ x. cond (bytes_eq q c) (Some j) (value_at q ms)
    ≡ cond (bytes_eq q x) (Some j) (cond (bytes_eq q c) (Some i) (value_at q ms))) (sym (equal_keys k c h))
    (again (bytes_eq q c) (Some j) (Some i) (value_at q ms))
put_at Greater q k c j i ms h is =
    ap (cond (bytes_eq q c) (Some i)) is
    ∙ apart (bytes_eq q k) (bytes_eq q c) (Some j) (Some i) (value_at q ms) (not_both (bytes_eq q k) q k c refl h)

pub value_put : (q k : List ℕ) (j : Json) (ms : Members)
    → value_at q (put_ascending k j ms) ≡ cond (bytes_eq q k) (Some j) (value_at q ms)
value_put q k j no_members = refl
value_put q k j (member c i ms) = put_at (cmp k c) q k c j i ms refl (value_put q k j ms)

-- the second, or else the first
abbrev over : Option Json → Option Json → Option Json
over v None = v
over v (Some w) = Some w

abbrev value_in : Option (ℕ × Json) → Option Json
value_in s = option_map (λ e. e.1) s

module _ {M : Type 0} (key_of : M → List ℕ) (place_of : M → ℕ) (value_of : M → Json) where
  abbrev members : List M → Members
  members = members_of key_of value_of

  abbrev by_key : M → M → Bool
  by_key m n = is_lt (cmp (key_of m) (key_of n))

  abbrev by_place : M → M → Bool
  by_place m n = is_lt (nat_cmp (place_of m) (place_of n))

  abbrev place_and_value : List ℕ → List M → Option (ℕ × Json)
  place_and_value = seen key_of place_of value_of

  over_at : (b : Bool) (e : ℕ × Json) (v : Option Json) (s : Option (ℕ × Json))
      → over (cond b (Some e.1) v) (value_in s)
      ≡ over v (value_in (after key_of place_of value_of (cond b (Some e) None) s))
  over_at true e v None = refl
  over_at true e v (Some f) = refl
  over_at false e v s = refl

  value_puts : (q : List ℕ) (ms : List M) (found : Members)
      → value_at q (put_all_members key_of value_of Ascending ms found)
      ≡ over (value_at q found) (value_in (place_and_value q ms))
  value_puts q [] found = refl
  value_puts q (m ∷ ms) found =
      value_puts q ms (put_ascending (key_of m) (value_of m) found)
      ∙ ap (λ v. over v (value_in (place_and_value q ms))) (value_put q (key_of m) (value_of m) found)
      ∙ over_at (bytes_eq q (key_of m)) (entry key_of place_of value_of m) (value_at q found) (place_and_value q ms)

  over_none : (v : Option Json) → over None v ≡ v
  over_none None = refl
  over_none (Some w) = refl

  first_value_at : (b : Bool) (e : ℕ × Json) (v : Option Json) (s : Option (ℕ × Json)) → v ≡ value_in s
      → cond b (Some e.1) v ≡ value_in (cond b (Some e) s)
  first_value_at true e v s is = refl
  first_value_at false e v s is = is

  first_value : (q : List ℕ) (ms : List M) → value_at q (members ms) ≡ value_in (first key_of place_of value_of q ms)
  first_value q [] = refl
  first_value q (m ∷ ms) =
      first_value_at (bytes_eq q (key_of m)) (entry key_of place_of value_of m) _ _ (first_value q ms)

  puts_normalize : (a : KeyOrder) (ms : List M) (found : Members) → IsNormalized a found
      → IsNormalized a (put_all_members key_of value_of a ms found)
  puts_normalize a [] found are = are
  puts_normalize a (m ∷ ms) found are =
      puts_normalize a ms (put_member a (key_of m) (value_of m) found) (put_stays a (key_of m) (value_of m) found are)

  -- ---- merged

  module _ (merge : M → M → M) (merge_key : (m n : M) → key_of (merge m n) ≡ key_of m)
      (merge_place : (m n : M) → place_of (merge m n) ≡ place_of m)
      (merge_value : (m n : M) → value_of (merge m n) ≡ value_of n) where
    abbrev joined : M → List M → List M
    joined = merged_from key_of merge

    none_merged : (m n : M) (ns : List M) → NoneLower by_key m ns → NoneLower by_key (merge m n) ns
    none_merged m n [] none = tt
    none_merged m n (o ∷ ns) none =
        (ap (λ k. is_lt (cmp (key_of o) k)) (merge_key m n) ∙ none.0, none_merged m n ns none.1)

    behind_at : (b : Bool) (k : List ℕ) (m n : M) (ns : List M) → cmp k (key_of m) ≡ Less
        → AreBehind Ascending k (members (joined (merge m n) ns)) → AreBehind Ascending k (members (joined n ns))
        → AreBehind Ascending k (members (cond b (joined (merge m n) ns) (m ∷ joined n ns)))
    behind_at true k m n ns less one other = one
    behind_at false k m n ns less one other = (flipped k (key_of m) Less less, other)

    -- what a sorted list is merged as follows each key that is lower than its first
    behind_joined : (k : List ℕ) (m : M) (ns : List M) → cmp k (key_of m) ≡ Less → NoneLower by_key m ns
        → Sorted by_key ns → AreBehind Ascending k (members (joined m ns))
    behind_joined k m [] less none up = (flipped k (key_of m) Less less, tt)
    behind_joined k m (n ∷ ns) less none up =
        behind_at (bytes_eq (key_of n) (key_of m)) k m n ns less
        (behind_joined k (merge m n) ns (ap (cmp k) (merge_key m n) ∙ less) (none_merged m n ns none.1) up.1)
        (behind_joined k n ns (less_than k (key_of m) (key_of n) less none.0) up.0 up.1)

    joined_at : (b : Bool) (m n : M) (ns : List M) → bytes_eq (key_of n) (key_of m) ≡ b
        → is_lt (cmp (key_of n) (key_of m)) ≡ false → NoneLower by_key n ns → Sorted by_key ns
        → IsNormalized Ascending (members (joined (merge m n) ns)) → IsNormalized Ascending (members (joined n ns))
        → IsNormalized Ascending (members (cond b (joined (merge m n) ns) (m ∷ joined n ns)))
    joined_at true m n ns h not_less none up one other = one
    joined_at false m n ns h not_less none up one other = (
      behind_joined (key_of m) n ns (above (key_of m) (key_of n) not_less h) none up,
      other,
    )

    joined_ascends : (m : M) (ns : List M) → NoneLower by_key m ns → Sorted by_key ns
        → IsNormalized Ascending (members (joined m ns))
    joined_ascends m [] none up = (tt, tt)
    joined_ascends m (n ∷ ns) none up =
        joined_at (bytes_eq (key_of n) (key_of m)) m n ns refl none.0 up.0 up.1
        (joined_ascends (merge m n) ns (none_merged m n ns none.1) up.1) (joined_ascends n ns up.0 up.1)

    merged_ascends : (ms : List M) → Sorted by_key ms → IsNormalized Ascending (members (merged key_of merge ms))
    merged_ascends [] up = tt
    merged_ascends (m ∷ ms) up = joined_ascends m ms up.0 up.1

    module _ (xs ys : List M) (stable : IsStableByKey key_of xs ys)
        (sorted : IsSortedByKey key_of (slice_cmp nat_cmp) ys) where
      abbrev all : List M
      all = merged key_of merge ys

      up : Sorted by_key ys
      up = sorted_from by_key ys (sorted_far by_key (ranks_by nat_list_cmp_total key_of) ys sorted)

      pub ascends : IsNormalized Ascending (members all)
      ascends = merged_ascends ys up

      differ : IsNormalized AsGiven (members all)
      differ = normalized_either Ascending (members all) ascends

      same_seen : (q : List ℕ) → first key_of place_of value_of q all ≡ place_and_value q xs
      same_seen q =
          first_is_seen key_of place_of value_of q all differ
          ∙ seen_merged key_of place_of value_of merge merge_key merge_place merge_value q ys
          ∙ seen_stable key_of place_of value_of xs ys stable q

      -- by ascending key
      pub settled_by_key : members all ≡ put_all_members key_of value_of Ascending xs no_members
      settled_by_key =
          same_members (members all) (put_all_members key_of value_of Ascending xs no_members) ascends
          (puts_normalize Ascending xs no_members tt)
          (λ q. first_value q all ∙ ap value_in (same_seen q)
          ∙ sym (value_puts q xs no_members ∙ over_none (value_in (place_and_value q xs))))

      -- at the first places
      pub settled_by_place : (zs : List M) (lowest : ℕ) → PositionsAscend place_of lowest xs → IsPermutation all zs
          → IsSortedByKey place_of nat_cmp zs → members zs ≡ put_all_members key_of value_of AsGiven xs no_members
      settled_by_place zs lowest rise same places =
          let firsts = put_all key_of place_of value_of merge merge_key merge_place merge_value xs [] in
          let are : members firsts ≡ put_all_members key_of value_of AsGiven xs no_members =
          all_members key_of place_of value_of merge merge_key merge_place merge_value xs [] in
          let apart_firsts : IsNormalized AsGiven (members firsts) =
          subst (IsNormalized AsGiven) (sym are) (puts_normalize AsGiven xs no_members tt) in
          sym (same_lists key_of place_of value_of firsts zs
          (rising_all key_of place_of value_of merge merge_key merge_place merge_value lowest xs [] rise tt tt)
          (sorted_from by_place zs (sorted_far by_place (ranks_by nat_cmp_total place_of) zs places))
          apart_firsts (differ_permuted key_of place_of value_of all zs same differ)
          (λ q. first_put_all key_of place_of value_of merge merge_key merge_place merge_value q xs []
          ∙ sym (found_permuted key_of place_of value_of all zs same differ q ∙ same_seen q)))
          ∙ are
