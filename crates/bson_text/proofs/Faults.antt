-- The first fault from where it was fault_in_tree to the whole, where keys ascend.
use Rattle.std.proofs.Common.{◌≡◌, ℕ, zero, suc, ◌+◌, ◌-◌, ◌<◌, List, Option, Some, None}
use Rattle.std.proofs.Common.{Ok, Err, Bool, true, false, option_map, option_and_then, refl, sym, ap, ◌∙◌, subst}
use Rattle.std.proofs.Common.{codes, ◌&&◌, ◌||◌, bytes_eq, is_some, cond}
use Rattle.std.specs.Cmp.Lexicographic.{slice_cmp}
use Rattle.std.specs.Ordering.{nat_cmp}
use Rattle.std.specs.declared.cmp.Ordering.TheVariants.{Less}
use Rattle.std.proofs.lemmas.Option.{same_Some}
use Rattle.std.proofs.lemmas.Slice.Eq.{bytes_eq-Decides}
use Rattle.json.specs.Json as json
use Rattle.json.specs.Json.{Parse, parse_map, after_end_array, read_key, items, items_step, members, members_step, value}
use Rattle.json.specs.Token.{Token}
use Rattle.json.proofs.Grammar.{items_more}
use Rattle.serde_json.specs.Data.{Data, Items, item, Members, no_members, member, object, put}
use Rattle.serde_json.specs.Data as tree
use Rattle.serde_json.specs.Read.{of_json, of_items, of_members}
use Rattle.bson_scalar.specs.Faults.{wrong_shape}
use Rattle.bson_scalar.specs.Table.{wrapper_of, has_wrapper}
use Rattle.bson_scalar.specs.declared.form.Doubles.{Doubles}
use Rattle.bson_model.specs.Reading.{reads_tree_in}
use Rattle.bson_model.specs.Texts.{IsBelowMemberKeys, MemberKeysAscend}
use Rattle.bson_model.specs.Value.{Value}
use Rattle.bson_model.proofs.Offered.{flipped, means_to_in}
use Rattle.bson_model.specs.OrderedTrees.{tree_of_json, tree_sorted_by_key}
use Rattle.bson_model.specs.OrderedReading.{reads_tree_in_order}
use Rattle.bson_model.proofs.OfferedInOrder.{forgotten, forgets, means_from, joined, joined_again, joined_none}
use Rattle.bson_tree.specs.Place.{PathSegment, key, element, IsReasonOfFault, FaultAtIn, HasValueIn}
use Rattle.bson_tree.specs.declared.place.Place.{Place}
use Rattle.bson_tree.proofs.Offered.{fault_to}
use Rattle.bson_tokens.specs.FirstFault.{FaultAndPath, fault_in_tree, first_item_fault, first_member_fault, wrapper_fault, or_fault, add_segment, wrong_shape_here}
use Rattle.bson_tokens.proofs.Offered.{Is, is_found}
use Rattle.bson_text.proofs.Objects.{step_more}
use Rattle.bson_text.proofs.Denials.{mapped_parse, then_parsed, split_kept, mapped}
use Rattle.bson_text.specs.ErrorPaths.{IsLessThanKeys, HasSortedKeys, ItemsHaveAscendingKeys, MembersHaveAscendingKeys, member_trees, has_wrapper_key, FirstKeyIsNotWrapper, IsPlaceOfFault}
use Rattle.bson_text.specs.ErrorPaths.{IsWrongShape, IsPlaceFromParent, IsElementError, IsPlaceOfMember, IsMemberError, first_fault_of_members}
use Rattle.bson_text.specs.ErrorPaths.{LocatesValueError, LocatesItemsError, LocatesMembersError, LocatesObjectError}
use Rattle.bson_text.specs.declared.traversal_error.TraversalError.{TraversalError}
use Rattle.bson_text.proofs.Passing.{at_map}

-- ---- places

-- seen from one segment further out
pub placed_within : (v w : FaultAndPath) (s : PathSegment) (x : FaultAndPath) (p q : Place) → IsPlaceOfFault v p → IsPlaceFromParent s p q
    → w ≡ or_fault (add_segment s v) x → IsPlaceOfFault w q
placed_within v w s x p q is (path, reason) e = record {
  fault = is.fault;
  path = e ∙ ap (λ y. or_fault (add_segment s y) x) is.path ∙ ap (λ y. Some (is.fault, y)) (sym path);
  reason = subst (IsReasonOfFault is.fault) (sym reason) is.reason;
}

pub placed_here : (w : FaultAndPath) (q : Place) → IsWrongShape q → w ≡ wrong_shape_here → IsPlaceOfFault w q
placed_here w q (path, reason) e = record {
  fault = wrong_shape;
  path = e ∙ ap (λ y. Some (wrong_shape, y)) (sym path);
  reason = reason;
}

-- ---- what is sound has no fault

module _ (D : Doubles) where
  none_at : (t : Data) (v : Value) (w : FaultAndPath) → reads_tree_in D t ≡ Ok v → fault_in_tree D t ≡ w
      → Is (HasValueIn D t) (λ f path. FaultAtIn D f t path) w → fault_in_tree D t ≡ None
  none_at t v None reads is h = is
  none_at t v (Some f) reads is h = let bad = fault_to D h in let never : Ok v ≡ Err f.0 = sym reads ∙ bad in cc

  pub sound : (j : json.Json) (t0 t : Data) (v : Value) → tree_of_json j ≡ Some t0 → reads_tree_in_order D t0 ≡ Ok v
      → of_json j ≡ Some t → fault_in_tree D t ≡ None
  sound j t0 t v is reads of =
      let same : tree_sorted_by_key t0 ≡ t = same_Some (tree_sorted_by_key t0) t (sym (forgotten j ∙ ap (option_map tree_sorted_by_key) is) ∙ of) in
      let m = means_to_in D (forgets D (means_from D t0 v reads)) in
      subst (λ x. fault_in_tree D x ≡ None) same (none_at (tree_sorted_by_key t0) _ (fault_in_tree D (tree_sorted_by_key t0)) m refl (is_found D (tree_sorted_by_key t0)))

-- ---- arrays

never : {A : Type 0} (o : Option A) (a : A) → o ≡ None → o ≡ Some a → ⊥
never o a h g = cc

items_zero : (p : Parse json.Json) (ts : List Token) → items p zero ts ≡ None
unfolding items
items_zero p ts = refl

items_step_at : (p : Parse json.Json) (n : ℕ) (ts : List Token) → after_end_array ts ≡ None
    → items p (suc n) ts ≡ option_and_then (λ x. parse_map (json.item x.0) (items p n x.1)) (p ts)
unfolding items
items_step_at p n ts going = ap (items_step p (items p n) ts) going

module _ (D : Doubles) where
  abbrev pub ItemsFrom : Option (json.Items × List Token) → Option (json.Items × List Token) → ℕ → Type 0
  ItemsFrom whole wrong_shape_here n = (js : json.Items) (r : List Token) (ts : Items) → whole ≡ Some (js, r) → ItemsHaveAscendingKeys js
      → of_items js ≡ Some ts
      → (ks : json.Items) × (us : Items) × (wrong_shape_here ≡ Some (ks, r)) × ItemsHaveAscendingKeys ks × (of_items ks ≡ Some us)
      × (first_item_fault D 0 ts ≡ first_item_fault D n us)

  pub items_from : (whole : Option (json.Items × List Token)) → ItemsFrom whole whole 0
  items_from whole js r ts is rise of = (js, ts, is, rise, of, refl)

  pub item_from : (whole : Option (json.Items × List Token)) (p : Parse json.Json) (n place : ℕ) (ts r : List Token)
      (j : json.Json) (t0 : Data) (v : Value) → 0 < n → after_end_array ts ≡ None → p ts ≡ Some (j, r) → tree_of_json j ≡ Some t0
      → reads_tree_in_order D t0 ≡ Ok v → ItemsFrom whole (items p n ts) place
      → ItemsFrom whole (items p (n - 1) r) (place + 1)
  item_from whole p n place ts r j t0 v left going read is reads from js rest ds whole_is rise of =
      let g = from js rest ds whole_is rise of in
      let more = mapped_parse (json.item j) (items p (n - 1) r) g.0 rest (sym (items_more p n ts r j left going read) ∙ g.2) in
      let rises = subst ItemsHaveAscendingKeys more.2 g.3 in
      let a = split_kept item (of_json j) (of_items more.0) g.1 (subst (λ x. of_items x ≡ Some g.1) more.2 g.4) in
      let none = sound D j t0 a.0 v is reads a.2 in (
        more.0,
        a.1,
        more.1,
        rises.1,
        a.3,
        g.5 ∙ ap (first_item_fault D place) a.4
            ∙ ap (λ x. or_fault (add_segment (element place) x) (first_item_fault D (place + 1) a.1)) none,
      )

  pub items_placed : (e f : TraversalError) (whole : Option (json.Items × List Token)) (depth n place : ℕ) (ts mid rest : List Token)
      → after_end_array ts ≡ None → ItemsFrom whole (items (value depth) n ts) place → LocatesValueError D e (value depth ts) mid
      → IsElementError depth place e mid f rest → LocatesItemsError D f whole rest
  items_placed e f whole depth zero place ts mid rest going from at out = at_map f _ _ (λ q h js r ds whole_is rise of.
      let g = from js r ds whole_is rise of in
      absurd (never {A = json.Items × List Token} (items (value depth) zero ts) (g.0, r) (items_zero (value depth) ts) g.2)) out
  items_placed e f whole depth (suc n) place ts mid rest going from at out = at_map f _ _ (λ q (p, is, further, passed) js r ds whole_is rise of.
      let P = value depth in
      let g = from js r ds whole_is rise of in
      let mark : option_and_then (λ x. parse_map (json.item x.0) (items P n x.1)) (P ts) ≡ Some (g.0, r) =
      sym (items_step_at P n ts going) ∙ g.2 in
      let b = then_parsed json.item (items P n) (P ts) g.0 r mark in
      let rises = subst ItemsHaveAscendingKeys b.5 g.3 in
      let a = split_kept item (of_json b.0) (of_items b.2) g.1 (subst (λ x. of_items x ≡ Some g.1) b.5 g.4) in
      let wrong_shape_here = subst (λ x. LocatesValueError D x (P ts) mid) is at in
      let h = wrong_shape_here b.0 b.1 a.0 b.3 rises.0 a.2 in
      let gone = passed n b.2 r (subst (λ x. items P n x ≡ Some (b.2, r)) (sym h.0) b.4) in (
        gone,
        placed_within (fault_in_tree D a.0) (first_item_fault D 0 ds) (element place) (first_item_fault D (place + 1) a.1) p.value q h.1 further
            (g.5 ∙ ap (first_item_fault D place) a.4),
      )) out

  pub array_placed : (e : TraversalError) (o : Option (json.Items × List Token)) (rest : List Token) → LocatesItemsError D e o rest
      → LocatesValueError D e (parse_map json.array o) rest
  array_placed e o rest = at_map e _ _ (λ q at j r t is rise of.
      let g = mapped_parse json.array o j r is in
      let a = mapped tree.array (of_items g.0) t (subst (λ x. of_json x ≡ Some t) g.2 of) in
      let h = at g.0 r a.0 g.1 (subst HasSortedKeys g.2 rise) a.1 in
      (h.0, subst (λ x. IsPlaceOfFault (fault_in_tree D x) q) (sym a.2) h.1))

-- ---- trees of members whose keys ascend

below_key : (l : List ℕ) (fault_in_tree : Members) (k : List ℕ) (d : Data) (ms : Members)
    → IsBelowMemberKeys l (joined fault_in_tree (member k d ms)) → slice_cmp nat_cmp l k ≡ Less
below_key l no_members k d ms h = h.0
below_key l (member a e fault_in_tree) k d ms h = below_key l fault_in_tree k d ms h.1

put_later : (fault_in_tree : Members) (k : List ℕ) (d : Data) (ms : Members) → MemberKeysAscend (joined fault_in_tree (member k d ms))
    → put k d fault_in_tree ≡ joined fault_in_tree (member k d no_members)
put_later no_members k d ms h = refl
put_later (member l e fault_in_tree) k d ms h =
    rw (flipped l k Less (below_key l fault_in_tree k d ms h.0)) (ap (member l e) (put_later fault_in_tree k d ms h.1))

abbrev put_all : Members → Members → Members
put_all no_members fault_in_tree = fault_in_tree
put_all (member k d ms) fault_in_tree = put_all ms (put k d fault_in_tree)

put_in_order : (ms fault_in_tree : Members) → MemberKeysAscend (joined fault_in_tree ms) → put_all ms fault_in_tree ≡ joined fault_in_tree ms
put_in_order no_members fault_in_tree h = sym (joined_none fault_in_tree)
put_in_order (member k d ms) fault_in_tree h =
    let again = joined_again fault_in_tree k d ms in
    ap (put_all ms) (put_later fault_in_tree k d ms h)
    ∙ put_in_order ms (joined fault_in_tree (member k d no_members)) (subst MemberKeysAscend (sym again) h) ∙ again

pub and_some : {A B : Type 0} (f : A → Option B) (x : Option A) (b : B) → option_and_then f x ≡ Some b
    → (a : A) × (x ≡ Some a) × (f a ≡ Some b)
and_some f None b h = cc
and_some f (Some a) b h = (a, refl, h)

pub join_trees : {A B C : Type 0} (f : A → B → C) (x : Option A) (y : Option B) (a : A) (b : B) → x ≡ Some a → y ≡ Some b
    → option_and_then (λ c. option_map (f c) y) x ≡ Some (f a b)
join_trees f x y a b h g = rw (h, g) refl

trees_stand : (js : json.Members) (fault_in_tree all : Members) → of_members js fault_in_tree ≡ Some all
    → (ms : Members) × (member_trees js ≡ Some ms) × (all ≡ put_all ms fault_in_tree)
trees_stand json.no_members fault_in_tree all is = (no_members, refl, sym (same_Some fault_in_tree all is))
trees_stand (json.member k j js) fault_in_tree all is =
    let a = and_some (λ d. of_members js (put k d fault_in_tree)) (of_json j) all is in
    let g = trees_stand js (put k a.0 fault_in_tree) all a.2 in
    (member k a.0 g.0, join_trees (member k) (of_json j) (member_trees js) a.0 g.0 a.1 g.1, g.2)

under_trees : (k : List ℕ) (js : json.Members) (ts : Members) → member_trees js ≡ Some ts → IsLessThanKeys k js → IsBelowMemberKeys k ts
under_trees k json.no_members ts is under = subst (IsBelowMemberKeys k) (same_Some no_members ts is) tt
under_trees k (json.member l j js) ts is under =
    let a = split_kept (member l) (of_json j) (member_trees js) ts is in
    subst (IsBelowMemberKeys k) (sym a.4) (under.0, under_trees k js a.1 a.3 under.1)

ascends : (js : json.Members) (ts : Members) → member_trees js ≡ Some ts → MembersHaveAscendingKeys js → MemberKeysAscend ts
ascends json.no_members ts is rise = subst MemberKeysAscend (same_Some no_members ts is) tt
ascends (json.member k j js) ts is rise =
    let a = split_kept (member k) (of_json j) (member_trees js) ts is in
    subst MemberKeysAscend (sym a.4) (under_trees k js a.1 a.3 rise.0, ascends js a.1 a.3 rise.2)

-- where keys ascend the members of the tree are those of the text unchanged
pub rising : (js : json.Members) (all : Members) → MembersHaveAscendingKeys js → of_members js no_members ≡ Some all
    → member_trees js ≡ Some all
rising js all rise is =
    let g = trees_stand js no_members all is in
    g.1 ∙ ap Some (sym (g.2 ∙ put_in_order g.0 no_members (ascends js g.0 g.1 rise)))

any_is : (js : json.Members) (ts : Members) → member_trees js ≡ Some ts → has_wrapper ts ≡ has_wrapper_key js
any_is json.no_members ts is = ap has_wrapper (sym (same_Some no_members ts is))
any_is (json.member k j js) ts is =
    let a = split_kept (member k) (of_json j) (member_trees js) ts is in
    ap has_wrapper a.4 ∙ ap (λ b. is_some (wrapper_of k) || b) (any_is js a.1 a.3)

-- ---- objects

pub not_true : (b : Bool) → (b ≡ true → ⊥) → b ≡ false
not_true true h = absurd (h refl)
not_true false h = refl

pub no_code : (k : List ℕ) → wrapper_of k ≡ None → bytes_eq k (codes "$code") ≡ false
no_code k plain = not_true (bytes_eq k (codes "$code")) (λ yes.
    let w : wrapper_of (codes "$code") ≡ None =
    subst (λ x. wrapper_of x ≡ None) ((bytes_eq-Decides k (codes "$code")).0 yes) plain in cc)

module _ (D : Doubles) where
  cond_false : (b c : Bool) (v : FaultAndPath) → b ≡ false → cond (b && c) v wrong_shape_here ≡ wrong_shape_here
  cond_false true c v is = cc
  cond_false false c v is = refl

  -- a wrapper's key after one that is none
  shape_found : (k : List ℕ) (d : Data) (ts : Members) → wrapper_of k ≡ None → has_wrapper (member k d ts) ≡ true
      → wrapper_fault D (member k d ts) ≡ wrong_shape_here
  shape_found k d no_members plain has =
      let never : (is_some (wrapper_of k) || false) ≡ false = ap (λ o. is_some o || false) plain in cc
  shape_found k d (member l e no_members) plain has =
      cond_false (bytes_eq k (codes "$code")) (bytes_eq l (codes "$scope")) _ (no_code k plain)
  shape_found k d (member l e (member m f ts)) plain has = refl

  pub wrapped : (js : json.Members) (ts : Members) → member_trees js ≡ Some ts → FirstKeyIsNotWrapper js → has_wrapper ts ≡ true
      → fault_in_tree D (object ts) ≡ wrong_shape_here
  wrapped json.no_members ts is plain has =
      let none : has_wrapper ts ≡ false = ap has_wrapper (sym (same_Some no_members ts is)) in cc
  wrapped (json.member k j js) ts is plain has =
      let a = split_kept (member k) (of_json j) (member_trees js) ts is in
      let h = subst (λ x. has_wrapper x ≡ true) a.4 has in
      subst (λ x. fault_in_tree D (object x) ≡ wrong_shape_here) (sym a.4)
      (subst (λ b. cond b (wrapper_fault D (member k a.0 a.1)) (first_member_fault D (member k a.0 a.1)) ≡ wrong_shape_here) (sym h)
      (shape_found k a.0 a.1 plain h))

  free : (ts : Members) → has_wrapper ts ≡ false → fault_in_tree D (object ts) ≡ first_member_fault D ts
  free ts h = ap (λ b. cond b (wrapper_fault D ts) (first_member_fault D ts)) h

  abbrev pub MembersFrom : Bool → Option (json.Members × List Token) → Option (json.Members × List Token) → Type 0
  MembersFrom b whole now = (ms : json.Members) (r : List Token) (ts : Members) → whole ≡ Some (ms, r) → MembersHaveAscendingKeys ms
      → member_trees ms ≡ Some ts
      → (ns : json.Members) × (us : Members) × (now ≡ Some (ns, r)) × MembersHaveAscendingKeys ns × (member_trees ns ≡ Some us)
      × (first_member_fault D ts ≡ first_member_fault D us) × (b ≡ true → has_wrapper ts ≡ has_wrapper us)

  pub members_from : (b : Bool) (whole : Option (json.Members × List Token)) → MembersFrom b whole whole
  members_from b whole ms r ts is rise of = (ms, ts, is, rise, of, refl, λ yes. refl)

  pub member_from : (b : Bool) (whole : Option (json.Members × List Token)) (p : Parse json.Json) (n : ℕ) (k : List ℕ)
      (ts r s : List Token) (next : Option (List ℕ)) (j : json.Json) (t0 : Data) (v : Value) → 0 < n → p ts ≡ Some (j, r)
      → read_key r ≡ Some (next, s) → tree_of_json j ≡ Some t0 → reads_tree_in_order D t0 ≡ Ok v → (b ≡ true → wrapper_of k ≡ None)
      → MembersFrom b whole (members_step p (members p n) (Some k) ts)
      → MembersFrom b whole (members_step p (members p (n - 1)) next s)
  member_from b whole p n k ts r s next j t0 v left read named is reads plain from ms rest ds whole_is rise of =
      let g = from ms rest ds whole_is rise of in
      let now = members_step p (members p (n - 1)) next s in
      let more = mapped_parse (json.member k j) now g.0 rest (sym (step_more p n k ts r s next j now left read named refl) ∙ g.2) in
      let rises = subst MembersHaveAscendingKeys more.2 g.3 in
      let a = split_kept (member k) (of_json j) (member_trees more.0) g.1 (subst (λ x. member_trees x ≡ Some g.1) more.2 g.4) in
      let none = sound D j t0 a.0 v is reads a.2 in (
        more.0,
        a.1,
        more.1,
        rises.2,
        a.3,
        g.5 ∙ ap (first_member_fault D) a.4 ∙ ap (λ x. or_fault (add_segment (key k) x) (first_member_fault D a.1)) none,
        λ yes. g.6 yes ∙ ap has_wrapper a.4 ∙ ap (λ o. is_some o || has_wrapper a.1) (plain yes),
      )

  -- a fault at a key
  place_at_key : (b : Bool) (k : List ℕ) (js : json.Members) (ds us : Members) (d : Data) (has : Bool) (p q : Place)
      → member_trees js ≡ Some ds → (b ≡ true → FirstKeyIsNotWrapper js) → first_member_fault D ds ≡ first_member_fault D (member k d us)
      → (b ≡ true → has_wrapper ds ≡ has) → IsPlaceOfFault (fault_in_tree D d) p → IsPlaceOfMember (b && has) k p q → IsPlaceOfFault (first_fault_of_members D b ds) q
  place_at_key false k js ds us d has p q of plain same wraps is at =
      placed_within (fault_in_tree D d) (first_member_fault D ds) (key k) (first_member_fault D us) p q is at same
  place_at_key true k js ds us d true p q of plain same wraps is at =
      placed_here (fault_in_tree D (object ds)) q at (wrapped js ds of (plain refl) (wraps refl))
  place_at_key true k js ds us d false p q of plain same wraps is at =
      placed_within (fault_in_tree D d) (fault_in_tree D (object ds)) (key k) (first_member_fault D us) p q is at (free ds (wraps refl) ∙ same)

  pub member_placed : (e f : TraversalError) (b : Bool) (whole : Option (json.Members × List Token)) (depth n : ℕ) (k : List ℕ)
      (ts mid rest : List Token) → (b ≡ true → wrapper_of k ≡ None)
      → MembersFrom b whole (members_step (value depth) (members (value depth) n) (Some k) ts)
      → LocatesValueError D e (value depth ts) mid → IsMemberError depth b k e mid f rest → LocatesMembersError D f b whole rest
  member_placed e f b whole depth n k ts mid rest plain from at out = at_map f _ _ (λ q (p, has, is, passed, seen) ms r ds whole_is rise of first.
      let P = value depth in
      let g = from ms r ds whole_is rise of in
      let m = then_parsed (json.member k) (members P n) (P ts) g.0 r g.2 in
      let rises = subst MembersHaveAscendingKeys m.5 g.3 in
      let a = split_kept (member k) (of_json m.0) (member_trees m.2) g.1 (subst (λ x. member_trees x ≡ Some g.1) m.5 g.4) in
      let now = subst (λ x. LocatesValueError D x (P ts) mid) is at in
      let h = now m.0 m.1 a.0 m.3 rises.1 a.2 in
      let gone = passed n m.2 r (subst (λ x. members P n x ≡ Some (m.2, r)) (sym h.0) m.4) in
      let wraps : b ≡ true → has_wrapper ds ≡ has = λ yes. g.6 yes ∙ ap has_wrapper a.4
      ∙ ap (λ o. is_some o || has_wrapper a.1) (plain yes) ∙ any_is m.2 a.1 a.3 ∙ sym gone.1 in
      (gone.0, place_at_key b k ms ds a.1 a.0 has p.value q of first (g.5 ∙ ap (first_member_fault D) a.4) wraps h.1 seen)) out

  pub object_placed : (e : TraversalError) (o : Option (json.Members × List Token)) (rest : List Token) → LocatesObjectError D e o rest
      → LocatesValueError D e (parse_map json.object o) rest
  object_placed e o rest = at_map e _ _ (λ q at j r t is rise of.
      let g = mapped_parse json.object o j r is in
      let a = mapped tree.object (of_members g.0 no_members) t (subst (λ x. of_json x ≡ Some t) g.2 of) in
      let rises = subst HasSortedKeys g.2 rise in
      let h = at g.0 r a.0 g.1 rises (rising g.0 a.0 rises a.1) in
      (h.0, subst (λ x. IsPlaceOfFault (fault_in_tree D x) q) (sym a.2) h.1))
