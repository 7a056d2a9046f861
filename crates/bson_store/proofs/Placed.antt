-- The positions of keys, as pairs come and go.
use Rattle.std.proofs.Common.{◌≡◌, ℕ, zero, suc, ◌+◌, ◌<◌, ◌≤◌, Bool, true, false, cond, List, [], ◌∷◌, ◌++◌, take}
use Rattle.std.proofs.Common.{map, slice_index_or, remove, option_map, length, length-take-le, get_or, set, Result, Ok, Err, OnOk, OnErr, Option}
use Rattle.std.proofs.Common.{None, Some, slice_get, string_bytes, refl, sym, ap, subst, ◌∙◌, true≢false, arith}
use Rattle.std.specs.Cmp.Lexicographic.{nat_list_eq_equiv}
use lib.ListN.{length-map}
use Rattle.std.specs.List.{IsDistinct, AllByRecursion}
use Rattle.std.specs.List.Sorted.{IsStrictlySortedBy}
use Rattle.std.specs.Map.{update}
use Rattle.std.specs.Str.{bytes_eq}
use Rattle.std.proofs.lemmas.Slice.Eq.{bytes_eq-Decides}
use Rattle.bson_store.specs.declared.key_index.Index.{Index}
use Rattle.bson_store.specs.declared.key_index.Index.TheVariants.{Sorted, Map}
use Rattle.bson_store.specs.declared.small.Pair.{Pair}
use Rattle.bson_store.specs.AscendingOrder.{key_cmp}
use Rattle.bson_store.specs.Pairs.{keys, values, get, position_of, with_value, HasDistinctKeys}
use Rattle.bson_store.specs.KeyIndex.{OptionalIndex, stored_pairs, key_positions, HasAscendingKeys, IsIndexOf, HasNeededIndex, StoreInvariant}
use Rattle.std.proofs.lemmas.Option.{slice_get-map, slice_get-get_or}
use Rattle.bson_store.specs.PositionsAfterRemoval.{position_before_removal}
use Rattle.bson_store.proofs.Distinct.{apart, absent-before, take-next}
use Rattle.bson_store.proofs.Found.{none_at, key-place, place-within}

-- a pair pushed
push_step : (b c : Bool) (n : ℕ) (r s : Option ℕ) → (b ≡ true → c ≡ false) → s ≡ cond b (Some n) r
    → cond c (Some 0) (option_map suc s) ≡ cond b (Some (suc n)) (cond c (Some 0) (option_map suc r))
push_step true true n r s h e = absurd (true≢false (h refl))
push_step true false n r s h e = ap (option_map suc) e
push_step false true n r s h e = refl
push_step false false n r s h e = ap (option_map suc) e

pub same_bytes : (k l : List ℕ) → bytes_eq k l ≡ true → k ≡ l
same_bytes k l e = (bytes_eq-Decides k l).0 e

pub own : (k : List ℕ) → bytes_eq k k ≡ true
own k = (bytes_eq-Decides k k).1 refl

pub swapped : (k l : List ℕ) → bytes_eq k l ≡ bytes_eq l k
swapped k l = nat_list_eq_equiv.symm k l

first_out : (c b : Bool) (r : Option ℕ) → b ≡ c → (c ≡ true → r ≡ None)
    → cond b None (cond c (Some 0) (option_map suc r)) ≡ option_map suc r
first_out true b r e h = ap (λ x. cond x None (Some 0)) e ∙ ap (option_map suc) (sym (h refl))
first_out false b r e h = ap (λ x. cond x None (option_map suc r)) e

later_out : (c b : Bool) (i : ℕ) (r s : Option ℕ) → (c ≡ true → b ≡ false)
    → cond b None r ≡ option_map (position_before_removal i) s
    → cond b None (cond c (Some 0) (option_map suc r))
    ≡ option_map (position_before_removal (suc i)) (cond c (Some 0) (option_map suc s))
later_out true b i r s h e = ap (λ x. cond x None (Some 0)) (h refl)
later_out false true i r None h e = refl
later_out false true i r (Some j) h e = cc
later_out false false i r None h e = ap (option_map suc) e
later_out false false i r (Some j) h e = ap (option_map suc) e

module _ {V : Type 0} where
  place-push : (ps : List (List ℕ × V)) (l : List ℕ) (v : V) → position_of l ps ≡ None → (k : List ℕ)
      → position_of k (ps ++ (l, v) ∷ []) ≡ update bytes_eq (λ q. position_of q ps) l (Some (length ps)) k
  place-push [] l v none k = ap (λ b. cond b (Some 0) None) (swapped k l)
  place-push (p ∷ ps) l v none k =
      let h = none_at _ _ none in
      push_step (bytes_eq l k) (bytes_eq k p.0) (length ps) (position_of k ps) (position_of k (ps ++ (l, v) ∷ []))
      (λ m. ap (λ x. bytes_eq x p.0) (sym (same_bytes l k m)) ∙ h.0) (place-push ps l v h.1 k)

  pub all-push : (P : List ℕ → Type 0) (ps : List (List ℕ × V)) (l : List ℕ) (v : V) → AllByRecursion P (keys ps) → P l
      → AllByRecursion P (keys (ps ++ (l, v) ∷ []))
  all-push P [] l v h p = (p, tt)
  all-push P (q ∷ ps) l v h p = (h.0, all-push P ps l v h.1 p)

  pub distinct-push : (ps : List (List ℕ × V)) (l : List ℕ) (v : V) → HasDistinctKeys ps → position_of l ps ≡ None
      → HasDistinctKeys (ps ++ (l, v) ∷ [])
  unfolding IsDistinct
  distinct-push [] l v d none = (tt, tt)
  distinct-push (p ∷ ps) l v d none =
      let h = none_at _ _ none in
      (all-push (λ y. bytes_eq p.0 y ≡ false) ps l v d.0 (swapped p.0 l ∙ h.0), distinct-push ps l v d.1 h.1)

  -- a pair removed
  pub all-remove : (P : List ℕ → Type 0) (ps : List (List ℕ × V)) (i : ℕ) → AllByRecursion P (keys ps)
      → AllByRecursion P (keys (remove ps i))
  all-remove P [] zero h = h
  all-remove P [] (suc i) h = h
  all-remove P (q ∷ ps) zero h = h.1
  all-remove P (q ∷ ps) (suc i) h = (h.0, all-remove P ps i h.1)

  pub distinct-remove : (ps : List (List ℕ × V)) (i : ℕ) → HasDistinctKeys ps → HasDistinctKeys (remove ps i)
  unfolding IsDistinct
  distinct-remove [] zero d = d
  distinct-remove [] (suc i) d = d
  distinct-remove (q ∷ ps) zero d = d.1
  distinct-remove (q ∷ ps) (suc i) d = (all-remove (λ y. bytes_eq q.0 y ≡ false) ps i d.0, distinct-remove ps i d.1)

  missed : (k : List ℕ) (ps : List (List ℕ × V)) → AllByRecursion (λ y. bytes_eq k y ≡ false) (keys ps)
      → position_of k ps ≡ None
  missed k [] h = refl
  missed k (p ∷ ps) h = (λ j. cond (h.0 j) (Some 0) (option_map suc (missed k ps h.1 j)))

  pub place-removed : (ps : List (List ℕ × V)) (i : ℕ) (p : List ℕ × V) → HasDistinctKeys ps → slice_get ps i ≡ Some p
      → (k : List ℕ)
      → cond (bytes_eq p.0 k) None (position_of k ps)
      ≡ option_map (position_before_removal i) (position_of k (remove ps i))
  unfolding IsDistinct
  place-removed [] i p d e k = cc
  place-removed (q ∷ ps) zero p d e k =
      let same : q ≡ p = cc in
      first_out (bytes_eq k q.0) (bytes_eq p.0 k) (position_of k ps)
      (ap (λ x. bytes_eq x.0 k) (sym same) ∙ swapped q.0 k)
      (λ m. ap (λ x. position_of x ps) (same_bytes k q.0 m) ∙ missed q.0 ps d.0)
  place-removed (q ∷ ps) (suc i) p d e k =
      later_out (bytes_eq k q.0) (bytes_eq p.0 k) i (position_of k ps) (position_of k (remove ps i))
      (λ m. ap (bytes_eq p.0) (same_bytes k q.0 m) ∙ apart q.0 ps i p d.0 e) (place-removed ps i p d.1 e k)

  -- one position lowered
  pub place-at : (ps : List (List ℕ × V)) (i : ℕ) (p : List ℕ × V) → HasDistinctKeys ps → slice_get ps i ≡ Some p
      → position_of p.0 ps ≡ Some i
  unfolding IsDistinct
  place-at [] i p d e = cc
  place-at (q ∷ ps) zero p d e =
      let same : q ≡ p = cc in
      ap (λ b. cond b (Some 0) (option_map suc (position_of p.0 ps))) (ap (λ x. bytes_eq p.0 x.0) same ∙ own p.0)
  place-at (q ∷ ps) (suc i) p d e =
      ap (λ b. cond b (Some 0) (option_map suc (position_of p.0 ps))) (apart q.0 ps i p d.0 e)
      ∙ ap (option_map suc) (place-at ps i p d.1 e)

removal_own : (i : ℕ) → position_before_removal (suc i) i ≡ i
removal_own zero = refl
removal_own (suc i) = ap suc (removal_own i)

removal_other : (i j : ℕ) → (j ≡ i → ⊥) → position_before_removal i j ≡ position_before_removal (suc i) j
removal_other zero zero h = absurd (h refl)
removal_other zero (suc j) h = refl
removal_other (suc i) zero h = refl
removal_other (suc i) (suc j) h = ap suc (removal_other i j (λ e. h (ap suc e)))

removal_below : (n j : ℕ) → j < n → position_before_removal n j ≡ j
removal_below zero j h = absurd (omega (arith, h))
removal_below (suc n) zero h = refl
removal_below (suc n) (suc j) h = ap suc (removal_below n j (omega (arith, h)))

others : (i : ℕ) (r : Option ℕ) → (r ≡ Some i → ⊥)
    → option_map (position_before_removal i) r ≡ option_map (position_before_removal (suc i)) r
others i None h = refl
others i (Some j) h = ap Some (removal_other i j (λ e. h (ap Some e)))

lower_step : (b : Bool) (i : ℕ) (r : Option ℕ) → (b ≡ true → r ≡ Some i) → (r ≡ Some i → b ≡ true)
    → cond b (Some i) (option_map (position_before_removal i) r) ≡ option_map (position_before_removal (suc i)) r
lower_step true i r h f = ap Some (sym (removal_own i)) ∙ ap (option_map (position_before_removal (suc i))) (sym (h refl))
lower_step false i r h f = others i r (λ e. true≢false (sym (f e)))

within_all : (n : ℕ) (r : Option ℕ) → ((i : ℕ) → r ≡ Some i → i < n) → option_map (position_before_removal n) r ≡ r
within_all n None h = refl
within_all n (Some j) h = ap Some (removal_below n j (h j refl))

module _ {V : Type 0} where
  pub lower-one : (ps : List (List ℕ × V)) (i : ℕ) (p : List ℕ × V) → HasDistinctKeys ps → slice_get ps i ≡ Some p
      → (k : List ℕ)
      → cond (bytes_eq p.0 k) (Some i) (option_map (position_before_removal i) (position_of k ps))
      ≡ option_map (position_before_removal (suc i)) (position_of k ps)
  lower-one ps i p d e k = lower_step (bytes_eq p.0 k) i (position_of k ps)
      (λ m. ap (λ x. position_of x ps) (sym (same_bytes p.0 k m)) ∙ place-at ps i p d e)
      (λ f. let same : k ≡ p.0 = same_key ps i k p (key-place k ps i f) e in ap (bytes_eq p.0) same ∙ own p.0)
    where
      same_key : (qs : List (List ℕ × V)) (j : ℕ) (l : List ℕ) (q : List ℕ × V) → slice_get (keys qs) j ≡ Some l
          → slice_get qs j ≡ Some q → l ≡ q.0
      same_key [] j l q f g = cc
      same_key (r ∷ qs) zero l q f g = let one : r ≡ q = cc in let two : r.0 ≡ l = cc in sym two ∙ ap (λ x. x.0) one
      same_key (r ∷ qs) (suc j) l q f g = same_key qs j l q f g

  pub lowered_all : (ps : List (List ℕ × V)) (n : ℕ) → length ps ≤ n → (k : List ℕ)
      → option_map (position_before_removal n) (position_of k ps) ≡ position_of k ps
  lowered_all ps n le k = within_all n (position_of k ps) (λ i e. omega (arith, le, place-within k ps i e))

  -- the list as it is seen
  seen-at : (ps : List (Pair V)) (i : ℕ) (p : Pair V) → slice_get ps i ≡ Some p
      → slice_get (stored_pairs ps) i ≡ Some (string_bytes p.key, p.value)
  seen-at [] i p e = cc
  seen-at (q ∷ ps) zero p e = let one : q ≡ p = cc in ap (λ x. Some (string_bytes x.key, x.value)) one
  seen-at (q ∷ ps) (suc i) p e = seen-at ps i p e

  pub seen-remove : (ps : List (Pair V)) (i : ℕ) → stored_pairs (remove ps i) ≡ remove (stored_pairs ps) i
  seen-remove [] zero = refl
  seen-remove [] (suc i) = refl
  seen-remove (q ∷ ps) zero = refl
  seen-remove (q ∷ ps) (suc i) = ap (λ l. (string_bytes q.key, q.value) ∷ l) (seen-remove ps i)

  pub length-seen : (ps : List (Pair V)) → length (stored_pairs ps) ≡ length ps
  length-seen ps = length-map ps (λ p. (string_bytes p.key, p.value))

  -- a value written
  keys-with_value : (ps : List (List ℕ × V)) (i : ℕ) (w : V) → keys (with_value ps i w) ≡ keys ps
  keys-with_value [] i w = refl
  keys-with_value (p ∷ ps) zero w = refl
  keys-with_value (p ∷ ps) (suc i) w = ap (λ l. p.0 ∷ l) (keys-with_value ps i w)

  place-with_value : (ps : List (List ℕ × V)) (i : ℕ) (w : V) (k : List ℕ)
      → position_of k (with_value ps i w) ≡ position_of k ps
  place-with_value [] i w k = refl
  place-with_value (p ∷ ps) zero w k = refl
  place-with_value (p ∷ ps) (suc i) w k =
      ap (λ r. cond (bytes_eq k p.0) (Some 0) (option_map suc r)) (place-with_value ps i w k)

  length-with_value : (ps : List (List ℕ × V)) (i : ℕ) (w : V) → length (with_value ps i w) ≡ length ps
  length-with_value [] i w = refl
  length-with_value (p ∷ ps) zero w = refl
  length-with_value (p ∷ ps) (suc i) w = ap suc (length-with_value ps i w)

  -- the pair at a position of the fields is the value's
  pub there : (ps : List (Pair V)) (qs : List (List ℕ × V)) (i : ℕ) (p : Pair V) → stored_pairs ps ≡ qs → i < length qs
      → p ≡ get_or ps i p → slice_get qs i ≡ Some (string_bytes p.key, p.value)
  there ps qs i p e l h =
      let within : i < length ps = omega (arith, l, ap length e, length-seen ps) in
      ap (λ r. slice_get r i) (sym e) ∙ seen-at ps i p (slice_get-get_or ps i p within ∙ ap Some (sym h))

  pub key-there : (qs : List (List ℕ × V)) (i : ℕ) (p : List ℕ × V) → slice_get qs i ≡ Some p
      → Some p.0 ≡ slice_get (keys qs) i
  key-there qs i p e = sym (slice_get-map (λ x. x.0) qs i ∙ ap (option_map (λ x. x.0)) e)

  pub value-there : (qs : List (List ℕ × V)) (i : ℕ) (p : List ℕ × V) → slice_get qs i ≡ Some p
      → Some p.1 ≡ slice_get (values qs) i
  value-there qs i p e = sym (slice_get-map (λ x. x.1) qs i ∙ ap (option_map (λ x. x.1)) e)

  seen-set : (ps : List (Pair V)) (i : ℕ) (p : Pair V) (w : V) → i < length ps → p ≡ get_or ps i p
      → stored_pairs (set ps i (record { key = p.key; value = w })) ≡ with_value (stored_pairs ps) i w
  seen-set [] i p w l h = refl
  seen-set (q ∷ ps) zero p w l h = ap (λ x. (string_bytes x.key, w) ∷ stored_pairs ps) h
  seen-set (q ∷ ps) (suc i) p w l h =
      ap (λ r. (string_bytes q.key, q.value) ∷ r) (seen-set ps i p w (omega (arith, l)) h)

  indexes-with : (x : Index) (ps : List (List ℕ × V)) (i : ℕ) (w : V) → IsIndexOf x ps → IsIndexOf x (with_value ps i w)
  indexes-with (Sorted v) ps i w h =
      let same : key_positions v.items (with_value ps i w) ≡ key_positions v.items ps =
      ap (λ ks. map (λ j. (slice_index_or ks j [], j)) v.items) (keys-with_value ps i w) in (
        subst (λ es. HasAscendingKeys es) (sym same) h.0,
        λ k. ap (get k) same ∙ h.1 k ∙ sym (place-with_value ps i w k),
      )
  indexes-with (Map m) ps i w h = λ k. h k ∙ sym (place-with_value ps i w k)

  placed-with : (ps : List (List ℕ × V)) (o : OptionalIndex) (i : ℕ) (w : V) → HasNeededIndex ps o → HasNeededIndex (with_value ps i w) o
  placed-with ps None i w h =
      λ more. subst (IsStrictlySortedBy key_cmp) (sym (keys-with_value ps i w))
      (h (omega (arith, more, length-with_value ps i w)))
  placed-with ps (Some x) i w h =
      (omega (arith, h.0, length-with_value ps i w), indexes-with x.value ps i w h.1)

  indexed-with : (ps : List (List ℕ × V)) (o : OptionalIndex) (i : ℕ) (w : V) → StoreInvariant ps o → StoreInvariant (with_value ps i w) o
  indexed-with ps o i w h = (subst (IsDistinct bytes_eq) (sym (keys-with_value ps i w)) h.0, placed-with ps o i w h.1)

  -- a value written at a position of the fields
  pub written : (ps : List (Pair V)) (qs : List (List ℕ × V)) (i : ℕ) (p : Pair V) (w : V) → stored_pairs ps ≡ qs
      → i < length qs → p ≡ get_or ps i p
      → stored_pairs (set ps i (record { key = p.key; value = w })) ≡ with_value qs i w
  written ps qs i p w e l h =
      seen-set ps i p w (omega (arith, l, ap length e, length-seen ps)) h ∙ ap (λ r. with_value r i w) e

  pub indexed-written : (ps : List (Pair V)) (qs : List (List ℕ × V)) (o : OptionalIndex) (i : ℕ) (p : Pair V) (w : V)
      → stored_pairs ps ≡ qs → i < length qs → p ≡ get_or ps i p → StoreInvariant (stored_pairs ps) o
      → StoreInvariant (stored_pairs (set ps i (record { key = p.key; value = w }))) o
  indexed-written ps qs o i p w e l h is =
      subst (λ r. StoreInvariant r o) (sym (written ps qs i p w e l h))
      (indexed-with qs o i w (subst (λ r. StoreInvariant r o) e is))

  -- a walk
  pub absent-next : (k : List ℕ) (ps : List (List ℕ × V)) (p : List ℕ × V) → position_of k ps ≡ None
      → bytes_eq k p.0 ≡ false → position_of k (ps ++ p ∷ []) ≡ None
  absent-next k [] p none h = ap (λ b. cond b (Some 0) None) h
  absent-next k (q ∷ ps) p none h =
      let both = none_at _ _ none in (λ j. cond (both.0 j) (Some 0) (option_map suc (absent-next k ps p both.1 h j)))

  pub found-first : (k : List ℕ) (ps : List (List ℕ × V)) (i : ℕ) (p : List ℕ × V) → position_of k (take i ps) ≡ None
      → slice_get ps i ≡ Some p → bytes_eq k p.0 ≡ true → position_of k ps ≡ Some i
  found-first k [] i p none e h = cc
  found-first k (q ∷ ps) zero p none e h =
      let same : q ≡ p = cc in
      ap (λ b. cond b (Some 0) (option_map suc (position_of k ps))) (ap (λ x. bytes_eq k x.0) same ∙ h)
  found-first k (q ∷ ps) (suc i) p none e h =
      let both = none_at _ _ none in
      ap (λ b. cond b (Some 0) (option_map suc (position_of k ps))) both.0
      ∙ ap (option_map suc) (found-first k ps i p both.1 e h)

  -- one more key in the map
  pub indexed-next : (ps : List (List ℕ × V)) (i : ℕ) (p : List ℕ × V) (f : List ℕ → Option ℕ) → HasDistinctKeys ps
      → i < length ps → slice_get ps i ≡ Some p → ((k : List ℕ) → f k ≡ position_of k (take i ps))
      → (k : List ℕ) → update bytes_eq f p.0 (Some i) k ≡ position_of k (take (i + 1) ps)
  indexed-next ps i p f d l e h k =
      let n : length (take i ps) ≡ i = length-take-le i ps (omega (arith, l)) in
      (λ j. cond (bytes_eq p.0 k) (Some (sym n j)) (h k j))
      ∙ sym (place-push (take i ps) p.0 p.1 (absent-before ps i p d e) k)
      ∙ ap (position_of k) (sym (take-next ps i p e))

  pub indexed-last : (ps : List (List ℕ × V)) (l : List ℕ) (v : V) (n : ℕ) (f g : List ℕ → Option ℕ)
      → position_of l ps ≡ None → n ≡ length ps → ((k : List ℕ) → f k ≡ position_of k ps)
      → ((k : List ℕ) → g k ≡ update bytes_eq f l (Some n) k) → (k : List ℕ) → g k ≡ position_of k (ps ++ (l, v) ∷ [])
  indexed-last ps l v n f g none e h u k =
      u k ∙ (λ j. cond (bytes_eq l k) (Some (e j)) (h k j)) ∙ sym (place-push ps l v none k)

pub on_ok : {A E : Type 0} (r : Result A E) {P Q : Type 0} → (P → Q) → OnOk r P → OnOk r Q
on_ok (Ok x) f p = f p
on_ok (Err e) f p = tt

pub on_err : {A E : Type 0} (r : Result A E) {P Q : Type 0} → (P → Q) → OnErr r P → OnErr r Q
on_err (Ok x) f p = tt
on_err (Err e) f p = f p

pub none_if : {A : Type 0} (o : Option A) → ((x : A) → o ≡ Some x → ⊥) → o ≡ None
none_if None h = refl
none_if (Some x) h = absurd (h x refl)
