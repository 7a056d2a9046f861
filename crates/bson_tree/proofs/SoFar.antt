-- What was read so far, before what is still to be read.
use Rattle.std.proofs.Common.{◌≡◌, ℕ, ◌+◌, List, [], ◌∷◌, ◌++◌, Bool, true, false, cond, Option, None, Some}
use Rattle.std.proofs.Common.{Result, Ok, Err, String, Global, string_bytes, refl, sym, ap, subst, ◌∙◌}
use Rattle.std.specs.List.{AllByRecursion}
use Rattle.std.specs.List.Sorted.{IsStrictlySortedBy}
use Rattle.std.specs.Cmp.Lexicographic.{nat_list_eq_equiv}
use Rattle.std.specs.Ordering.{is_eq}
use Rattle.std.specs.declared.cmp.Ordering.TheVariants.{Less}
use Rattle.std.specs.String.{string_cmp}
use Rattle.std.specs.Str.{bytes_eq}
use Rattle.std.specs.Map.{keys_of}
use Rattle.std.proofs.lemmas.Map.Text.{is_eq-slice_cmp}
use Rattle.serde_json.specs.Data.{Items, Members, no_members, member}
use Rattle.serde_json.specs.View.{view, items_view, members_view}
use Rattle.serde_json.specs.declared.value.Value as json
use Rattle.bson_scalar.specs.Faults.{Fault, ◌>>=◌}
use Rattle.bson_scalar.specs.declared.form.Doubles.{Doubles}
use Rattle.bson_model.specs.Reading.{reads_tree_in, reads_items_in, reads_members_in}
use Rattle.bson_model.specs.Value.{Value, Values, no_values, value, Pairs, no_pairs, pair, value_at_key}
use Rattle.bson_tree.specs.declared.place.Place.{Place}
use Rattle.bson_tree.specs.Built.{push_value, push_pair, Builds}
use Rattle.bson_tree.specs.Place.{PathSegment, key, element, FaultAtIn, ItemFaultAtIn, MemberFaultAtIn, at_this_element, after_valid_element}
use Rattle.bson_tree.specs.Place.{at_key}
use Rattle.bson_tree.specs.Place.{after_valid_member, IsFaultPlace, path_of}
use Rattle.bson_model.proofs.Offered.{means_from_in}
use Rattle.bson_tree.proofs.Steps.{Member, built_in, carried, placed_in}

-- ---- the elements of an array

abbrev pub onto_values : Values → Result Values Fault → Result Values Fault
onto_values no_values r = r
onto_values (value v vs) r = onto_values vs r >>= λ ws. Ok (value v ws)

onto_values-then : (vs : Values) (v : Value) (r : Result Values Fault)
    → onto_values (push_value vs v) r ≡ onto_values vs (r >>= λ ws. Ok (value v ws))
onto_values-then no_values v r = refl
onto_values-then (value w vs) v r = ap (λ q. q >>= λ ws. Ok (value w ws)) (onto_values-then vs v r)

onto_values-ok : (vs : Values) → onto_values vs (Ok no_values) ≡ Ok vs
onto_values-ok no_values = refl
onto_values-ok (value v vs) = ap (λ q. q >>= λ ws. Ok (value v ws)) (onto_values-ok vs)

-- the elements before the index n were read, and what was built represents them
pub record ItemsRead {X : Type 0} (D : Doubles) (listed : X → Values → Type 0) (read : X) (n : ℕ) (rest all : Items)
    : Type 0 where
  pub done : Values
  pub stands : listed read done
  pub whole : onto_values done (reads_items_in D rest) ≡ reads_items_in D all
  pub fault : (f : Fault) (path : List PathSegment) → ItemFaultAtIn D f n rest path → ItemFaultAtIn D f 0 all path

-- ---- the pairs of a map

abbrev pub onto_pairs : Pairs → Result Pairs Fault → Result Pairs Fault
onto_pairs no_pairs r = r
onto_pairs (pair k v ps) r = onto_pairs ps r >>= λ qs. Ok (pair k v qs)

onto_pairs-then : (ps : Pairs) (k : List ℕ) (v : Value) (r : Result Pairs Fault)
    → onto_pairs (push_pair ps k v) r ≡ onto_pairs ps (r >>= λ qs. Ok (pair k v qs))
onto_pairs-then no_pairs k v r = refl
onto_pairs-then (pair l w ps) k v r = ap (λ q. q >>= λ qs. Ok (pair l w qs)) (onto_pairs-then ps k v r)

onto_pairs-ok : (ps : Pairs) → onto_pairs ps (Ok no_pairs) ≡ Ok ps
onto_pairs-ok no_pairs = refl
onto_pairs-ok (pair k v ps) = ap (λ q. q >>= λ qs. Ok (pair k v qs)) (onto_pairs-ok ps)

-- the keys of the map are apart from k
abbrev pub AllApart : List ℕ → Members → Type 0
AllApart k no_members = Unit {0}
AllApart k (member l d ms) = (bytes_eq l k ≡ false) × AllApart k ms

-- the keys of the map are apart, and none is in the pairs
abbrev pub Fresh : Pairs → Members → Type 0
Fresh ps no_members = Unit {0}
Fresh ps (member k d ms) = (value_at_key k ps ≡ None) × AllApart k ms × Fresh ps ms

none_more : (b : Bool) (v : Value) (r s : Option Value) → cond b (Some v) r ≡ None → (r ≡ None → s ≡ None)
    → cond b (Some v) s ≡ None
none_more true v r s h f = cc
none_more false v r s h f = f h

get_then : (q k : List ℕ) (v : Value) (ps : Pairs) → value_at_key q ps ≡ None → bytes_eq q k ≡ false
    → value_at_key q (push_pair ps k v) ≡ None
get_then q k v no_pairs h a = rw a refl
get_then q k v (pair l w ps) h a = none_more (bytes_eq q l) w (value_at_key q ps) _ h (λ e. get_then q k v ps e a)

fresh_after : (ps : Pairs) (k : List ℕ) (v : Value) (ms : Members) → AllApart k ms → Fresh ps ms
    → Fresh (push_pair ps k v) ms
fresh_after ps k v no_members a f = tt
fresh_after ps k v (member l d ms) a f = (get_then l k v ps f.0 a.0, f.1, fresh_after ps k v ms a.1 f.2)

apart_from : (k : String Global) (ms : List Member) → AllByRecursion (λ y. string_cmp k y ≡ Less) (keys_of ms)
    → AllApart (string_bytes k) (members_view ms)
apart_from k [] h = tt
apart_from k (m ∷ ms) h = (
  nat_list_eq_equiv.symm (string_bytes m.0) (string_bytes k)
      ∙ sym (is_eq-slice_cmp (string_bytes k) (string_bytes m.0)) ∙ ap is_eq h.0,
  apart_from k ms h.1,
)

-- the keys of a map, in ascending order, are fresh
fresh_start : (ms : List Member) → IsStrictlySortedBy string_cmp (keys_of ms) → Fresh no_pairs (members_view ms)
unfolding IsStrictlySortedBy
fresh_start [] h = tt
fresh_start (m ∷ ms) h = (refl, apart_from m.0 ms h.0, fresh_start ms h.1)

-- the pairs before the rest were read, none has a key of the rest, and what was built represents them
pub record PairsRead {X : Type 0} (D : Doubles) (paired : X → Pairs → Type 0) (read : X) (rest all : Members)
    : Type 0 where
  pub done : Pairs
  pub stands : paired read done
  pub fresh : Fresh done rest
  pub whole : onto_pairs done (reads_members_in D rest) ≡ reads_members_in D all
  pub fault : (f : Fault) (path : List PathSegment) → MemberFaultAtIn D f rest path → MemberFaultAtIn D f all path

module _ {X Z : Type 0} (D : Doubles) (represents : Z → Value → Type 0) (listed : X → Values → Type 0) (all : Items) where
  pub items_begun : (read : X) → listed read no_values → ItemsRead D listed read 0 all all
  items_begun read h = record { done = no_values; stands = h; whole = refl; fault = λ f path is. is }

  -- one more was read
  pub items_more : (read new : X) (n : ℕ) (xs rest : List json.Value) (x : json.Value) (r : Result Z Place) (z : Z)
      → xs ≡ x ∷ rest → ItemsRead D listed read n (items_view xs) all → r ≡ Ok z
      → Builds represents (reads_tree_in D (view x)) (λ f. FaultAtIn D f (view x)) r
      → ((vs : Values) (v : Value) → listed read vs → represents z v → listed new (push_value vs v))
      → ItemsRead D listed new (n + 1) (items_view rest) all
  items_more read new n xs rest x r z next so_far is h push =
      let ds = items_view rest in
      let was = subst (λ ys. ItemsRead D listed read n (items_view ys) all) next so_far in
      let v = built_in represents (reads_tree_in D (view x)) (λ f. FaultAtIn D f (view x)) r z is h in
      record {
        done = push_value was.done v.0;
        stands = push was.done v.0 was.stands v.2;
        whole = onto_values-then was.done v.0 (reads_items_in D ds)
            ∙ ap (λ q. onto_values was.done (q >>= λ w. reads_items_in D ds >>= λ ws. Ok (value w ws))) (sym v.1)
            ∙ was.whole;
        fault = λ f path m. was.fault f path (after_valid_element n (view x) v.0 ds (means_from_in D (view x) v.0 v.1) m);
      }

  -- a fault of the next one is the fault of the whole
  pub items_stopped : (read : X) (n : ℕ) (xs rest : List json.Value) (x : json.Value) (r : Result Z Place)
      (p q : Place) → xs ≡ x ∷ rest → ItemsRead D listed read n (items_view xs) all → r ≡ Err p
      → Builds represents (reads_tree_in D (view x)) (λ f. FaultAtIn D f (view x)) r → path_of q ≡ path_of p ++ element n ∷ []
      → q.reason ≡ p.reason → IsFaultPlace (λ f. ItemFaultAtIn D f 0 all) q
  items_stopped read n xs rest x r p q next so_far is h path reason =
      let was = subst (λ ys. ItemsRead D listed read n (items_view ys) all) next so_far in
      carried p q (element n) (λ f w m. was.fault f (w ++ element n ∷ []) (at_this_element n (view x) (items_view rest) m)) path
      reason (placed_in represents (reads_tree_in D (view x)) (λ f. FaultAtIn D f (view x)) r p is h)

  pub items_ended : (read : X) (n : ℕ) (xs : List json.Value) → xs ≡ []
      → ItemsRead D listed read n (items_view xs) all
      → Builds listed (reads_items_in D all) (λ f. ItemFaultAtIn D f 0 all) (Ok read)
  items_ended read n xs none so_far =
      let was = subst (λ ys. ItemsRead D listed read n (items_view ys) all) none so_far in
      (was.done, sym was.whole ∙ onto_values-ok was.done, was.stands)

module _ {X Z : Type 0} (D : Doubles) (represents : Z → Value → Type 0) (paired : X → Pairs → Type 0) (all : List Member) where
  pub pairs_begun : (read : X) → paired read no_pairs → IsStrictlySortedBy string_cmp (keys_of all)
      → PairsRead D paired read (members_view all) (members_view all)
  pairs_begun read h sorted = record {
    done = no_pairs;
    stands = h;
    fresh = fresh_start all sorted;
    whole = refl;
    fault = λ f path is. is;
  }

  -- the next key is not there yet
  pub pairs_fresh : (read : X) (es rest : List Member) (x : Member) → es ≡ x ∷ rest
      → PairsRead D paired read (members_view es) (members_view all)
      → (ps : Pairs) × paired read ps × (value_at_key (string_bytes x.0) ps ≡ None)
  pairs_fresh read es rest x next so_far =
      let was = subst (λ ys. PairsRead D paired read (members_view ys) (members_view all)) next so_far in
      (was.done, was.stands, was.fresh.0)

  pub pairs_more : (read new : X) (es rest : List Member) (x : Member) (r : Result Z Place) (z : Z) → es ≡ x ∷ rest
      → PairsRead D paired read (members_view es) (members_view all) → r ≡ Ok z
      → Builds represents (reads_tree_in D (view x.1)) (λ f. FaultAtIn D f (view x.1)) r
      → ((ps : Pairs) (v : Value) → paired read ps → represents z v → paired new (push_pair ps (string_bytes x.0) v))
      → PairsRead D paired new (members_view rest) (members_view all)
  pairs_more read new es rest x r z next so_far is h put =
      let k = string_bytes x.0 in
      let d = view x.1 in
      let ms = members_view rest in
      let was = subst (λ ys. PairsRead D paired read (members_view ys) (members_view all)) next so_far in
      let v = built_in represents (reads_tree_in D d) (λ f. FaultAtIn D f d) r z is h in
      record {
        done = push_pair was.done k v.0;
        stands = put was.done v.0 was.stands v.2;
        fresh = fresh_after was.done k v.0 ms was.fresh.1 was.fresh.2;
        whole = onto_pairs-then was.done k v.0 (reads_members_in D ms)
            ∙ ap (λ q. onto_pairs was.done (q >>= λ w. reads_members_in D ms >>= λ qs. Ok (pair k w qs))) (sym v.1)
            ∙ was.whole;
        fault = λ f path m. was.fault f path (after_valid_member k d v.0 ms (means_from_in D d v.0 v.1) m);
      }

  pub pairs_stopped : (read : X) (es rest : List Member) (x : Member) (r : Result Z Place) (p q : Place)
      → es ≡ x ∷ rest → PairsRead D paired read (members_view es) (members_view all) → r ≡ Err p
      → Builds represents (reads_tree_in D (view x.1)) (λ f. FaultAtIn D f (view x.1)) r
      → path_of q ≡ path_of p ++ key (string_bytes x.0) ∷ [] → q.reason ≡ p.reason
      → IsFaultPlace (λ f. MemberFaultAtIn D f (members_view all)) q
  pairs_stopped read es rest x r p q next so_far is h path reason =
      let k = string_bytes x.0 in
      let was = subst (λ ys. PairsRead D paired read (members_view ys) (members_view all)) next so_far in
      carried p q (key k) (λ f w m. was.fault f (w ++ key k ∷ []) (at_key k (view x.1) (members_view rest) m)) path
      reason (placed_in represents (reads_tree_in D (view x.1)) (λ f. FaultAtIn D f (view x.1)) r p is h)

  pub pairs_ended : (read : X) (es : List Member) → es ≡ []
      → PairsRead D paired read (members_view es) (members_view all)
      → Builds paired (reads_members_in D (members_view all)) (λ f. MemberFaultAtIn D f (members_view all)) (Ok read)
  pairs_ended read es none so_far =
      let was = subst (λ ys. PairsRead D paired read (members_view ys) (members_view all)) none so_far in
      (was.done, sym was.whole ∙ onto_pairs-ok was.done, was.stands)
