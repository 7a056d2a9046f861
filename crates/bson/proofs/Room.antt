-- The memory that the parts of a text need is that of the whole.
use Rattle.std.proofs.Common.{◌≡◌, ℕ, ◌+◌, ◌<◌, ◌≤◌, None, Some, cond, List, [], ◌∷◌, Result, Ok, Err, refl, sym, ◌∙◌, subst, arith}
use Rattle.std.specs.FinMap.Entries.{find, by_order, put as put_entry}
use Rattle.std.specs.Ordering.{is_eq}
use Rattle.std.specs.declared.cmp.Ordering.TheVariants.{Less, Equal, Greater}
use Rattle.std.specs.List.{IsDistinct}
use Rattle.bson_scalar.specs.declared.form.Doubles.{Doubles}
use Rattle.bson_scalar.specs.declared.form.Form.{Form}
use Rattle.bson_scalar.specs.declared.write_error.WriteError.{WriteError}
use Rattle.bson_scalar.specs.declared.write_error.WriteError.TheVariants.{FiniteDouble, OutOfMemory}
use Rattle.bson_store.specs.AscendingOrder.{key_cmp, sorted_by_key}
use Rattle.bson_store.specs.Pairs.{HasDistinctKeys}
use Rattle.bson_store.proofs.Offered.{find-in_order, lacks}
use Rattle.bson_model.specs.Value.{Value, Values, value, Pairs, pair}
use Rattle.bson.specs.KeyOrders.{pairs_of_order}
use Rattle.bson.specs.OutputCapacity.{IsAllocationFree, ValuesAreAllocationFree, PairsAreAllocationFree, StaysWithinCapacityOrStops, key_capacity}
use Rattle.bson.specs.OutputCapacity.{value_capacity, values_capacity, pairs_capacity}
use Rattle.bson.specs.View.{bson_view, pairs_view}
use Rattle.bson.specs.declared.bson.Bson.{Bson}
use Rattle.bson_model.specs.declared.options.KeyOrder.{KeyOrder}
use Rattle.bson_model.specs.declared.options.KeyOrder.TheVariants.{Ascending, AsGiven}
use Rattle.bson.proofs.Seen.{Entry}

-- ---- writes one after another

-- what comes after a write that took a of the room
pub after : (r : Result (Unit {0}) WriteError) (old mid new a n : ℕ) → old ≤ mid + a → StaysWithinCapacityOrStops r mid new n
    → StaysWithinCapacityOrStops r old new (a + n)
after (Ok done) old mid new a n first h = omega arith
after (Err OutOfMemory) old mid new a n first h = omega arith
after (Err FiniteDouble) old mid new a n first h = tt

-- a part that stopped stops the whole
pub stopped_within : (e : WriteError) (old new later a n : ℕ) → StaysWithinCapacityOrStops (Err e) old new a
    → StaysWithinCapacityOrStops (Err e) old later (a + n)
stopped_within OutOfMemory old new later a n h = omega arith
stopped_within FiniteDouble old new later a n h = tt

module _ (D : Doubles) (f : Form) where
  -- ---- arrays

  abbrev pub ValuesCost : Values → Result (Unit {0}) WriteError → ℕ → ℕ → Type 0
  ValuesCost vs r old new = ValuesAreAllocationFree f vs → StaysWithinCapacityOrStops r old new (values_capacity D f vs)

  pub values_cost_more : (v : Value) (vs : Values) (r : Result (Unit {0}) WriteError) (old mid new : ℕ)
      → (IsAllocationFree f v → old ≤ mid + value_capacity D f v) → ValuesCost vs r mid new → ValuesCost (value v vs) r old new
  values_cost_more v vs r old mid new p q (d, ds) = after r old mid new (value_capacity D f v) (values_capacity D f vs) (p d) (q ds)

  pub values_cost_here : (v : Value) (vs : Values) (e : WriteError) (old mid new : ℕ)
      → (IsAllocationFree f v → StaysWithinCapacityOrStops (Err e) old mid (value_capacity D f v)) → ValuesCost (value v vs) (Err e) old new
  values_cost_here v vs e old mid new p (d, ds) = stopped_within e old mid new (value_capacity D f v) (values_capacity D f vs) (p d)

  -- ---- pairs

  abbrev pub PairsCost : Pairs → Result (Unit {0}) WriteError → ℕ → ℕ → Type 0
  PairsCost ps r old new = PairsAreAllocationFree f ps → StaysWithinCapacityOrStops r old new (pairs_capacity D f ps)

  pair_cost_more : (k : List ℕ) (v : Value) (ps : Pairs) (r : Result (Unit {0}) WriteError) (old near mid new : ℕ)
      → old ≤ near + key_capacity k → (IsAllocationFree f v → near ≤ mid + value_capacity D f v) → PairsCost ps r mid new
      → PairsCost (pair k v ps) r old new
  pair_cost_more k v ps r old near mid new n p q (d, ds) =
      let first = p d in
      after r old mid new (key_capacity k + value_capacity D f v) (pairs_capacity D f ps) (omega arith) (q ds)

  -- one more pair of what is left
  module _ (left rest : List Entry) (k : List ℕ) (v : Bson) (here : left ≡ (k, v) ∷ rest) where
    pub pairs_cost_more : (r : Result (Unit {0}) WriteError) (old near mid new : ℕ) → old ≤ near + key_capacity k
        → (IsAllocationFree f (bson_view v) → near ≤ mid + value_capacity D f (bson_view v))
        → PairsCost (pairs_view rest) r mid new → PairsCost (pairs_view left) r old new
    pairs_cost_more r old near mid new n p q =
        subst (λ (xs : List Entry). PairsCost (pairs_view xs) r old new) (sym here)
        (pair_cost_more k (bson_view v) (pairs_view rest) r old near mid new n p q)

    pub key_cost : (old new : ℕ) → old < key_capacity k → PairsCost (pairs_view left) (Err OutOfMemory) old new
    key_cost old new n =
        subst (λ (xs : List Entry). PairsCost (pairs_view xs) (Err OutOfMemory) old new) (sym here) (λ d. omega arith)

    here_cost : (e : WriteError) (old near mid new : ℕ) → old ≤ near + key_capacity k
        → StaysWithinCapacityOrStops (Err e) near mid (value_capacity D f (bson_view v))
        → StaysWithinCapacityOrStops (Err e) old new (key_capacity k + value_capacity D f (bson_view v) + pairs_capacity D f (pairs_view rest))
    here_cost OutOfMemory old near mid new n h = omega arith
    here_cost FiniteDouble old near mid new n h = tt

    pub pairs_cost_here : (e : WriteError) (old near mid new : ℕ) → old ≤ near + key_capacity k
        → (IsAllocationFree f (bson_view v) → StaysWithinCapacityOrStops (Err e) near mid (value_capacity D f (bson_view v)))
        → PairsCost (pairs_view left) (Err e) old new
    pairs_cost_here e old near mid new n p =
        subst (λ (xs : List Entry). PairsCost (pairs_view xs) (Err e) old new) (sym here)
        (λ d. here_cost e old near mid new n (p d.0))

  -- ---- the order of the pairs counts nowhere

  room_put : (k : List ℕ) (v : Bson) (es : List Entry) → find key_cmp k es ≡ None
      → pairs_capacity D f (pairs_view (put_entry key_cmp k v es))
      ≡ key_capacity k + value_capacity D f (bson_view v) + pairs_capacity D f (pairs_view es)
  room_put k v [] h = refl
  room_put k v (e ∷ es) h =
      elim (key_cmp k e.0) as (λ o. cond (is_eq o) (Some e.1) (find key_cmp k es) ≡ None
      → pairs_capacity D f (pairs_view (by_order o ((k, v) ∷ e ∷ es) ((e.0, v) ∷ es) (e ∷ put_entry key_cmp k v es)))
      ≡ key_capacity k + value_capacity D f (bson_view v)
      + (key_capacity e.0 + value_capacity D f (bson_view e.1) + pairs_capacity D f (pairs_view es))) [
        | Less ↦ λ n. refl
        | Equal ↦ λ n. cc
        | Greater ↦ λ n. let rest = room_put k v es n in omega arith
      ] h

  room_in_order : (ps : List Entry) → HasDistinctKeys ps
      → pairs_capacity D f (pairs_view (sorted_by_key ps)) ≡ pairs_capacity D f (pairs_view ps)
  unfolding IsDistinct
  room_in_order [] d = refl
  room_in_order (p ∷ ps) d =
      let put = room_put p.0 p.1 (sorted_by_key ps) (find-in_order p.0 ps ∙ lacks p.0 ps d.0) in
      let rest = room_in_order ps d.1 in
      omega arith

  direct_put : (k : List ℕ) (v : Bson) (es : List Entry) → find key_cmp k es ≡ None → IsAllocationFree f (bson_view v)
      → PairsAreAllocationFree f (pairs_view es) → PairsAreAllocationFree f (pairs_view (put_entry key_cmp k v es))
  direct_put k v [] h p r = (p, tt)
  direct_put k v (e ∷ es) h p r =
      elim (key_cmp k e.0) as (λ o. cond (is_eq o) (Some e.1) (find key_cmp k es) ≡ None
      → PairsAreAllocationFree f (pairs_view (by_order o ((k, v) ∷ e ∷ es) ((e.0, v) ∷ es) (e ∷ put_entry key_cmp k v es)))) [
        | Less ↦ λ n. (p, r)
        | Equal ↦ λ n. cc
        | Greater ↦ λ n. (r.0, direct_put k v es n p r.1)
      ] h

  direct_in_order : (ps : List Entry) → HasDistinctKeys ps → PairsAreAllocationFree f (pairs_view ps)
      → PairsAreAllocationFree f (pairs_view (sorted_by_key ps))
  unfolding IsDistinct
  direct_in_order [] d r = tt
  direct_in_order (p ∷ ps) d r =
      direct_put p.0 p.1 (sorted_by_key ps) (find-in_order p.0 ps ∙ lacks p.0 ps d.0) r.0 (direct_in_order ps d.1 r.1)

  -- what the pairs cost in the order they cost in the document's own
  pub ordered_cost : (o : KeyOrder) (ps : List Entry) → HasDistinctKeys ps → (r : Result (Unit {0}) WriteError)
      (old new : ℕ) → PairsCost (pairs_view (pairs_of_order o ps)) r old new → PairsCost (pairs_view ps) r old new
  ordered_cost Ascending ps d r old new h direct =
      subst (StaysWithinCapacityOrStops r old new) (room_in_order ps d) (h (direct_in_order ps d direct))
  ordered_cost AsGiven ps d r old new h direct = h direct
