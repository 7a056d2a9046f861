-- What ends an array or a map of tokens well from where it was printed to ends it well from its start.
use Rattle.std.proofs.Common.{◌≡◌, ℕ, None, cond, List, [], ◌∷◌, ◌++◌, Result, Ok}
use Rattle.std.proofs.Common.{Err, Some, false, refl, sym, ap, ◌∙◌, subst}
use Rattle.std.proofs.lemmas.Bool.{or_from}
use Rattle.std.specs.Ordering.{is_eq}
use Rattle.std.specs.declared.cmp.Ordering.TheVariants.{Less, Equal, Greater}
use Rattle.std.specs.FinMap.Entries.{find, by_order, put as put_entry}
use Rattle.std.specs.List.{IsDistinct, AllByRecursion}
use Rattle.std.specs.Str.{bytes_eq}
use Rattle.json.specs.Token.{Token, end_object, key}
use Rattle.json.specs.Tree.{items_tokens, members_tokens}
use Rattle.serde_json.specs.Data.{Data, object, Items, item, Members, member, put}
use Rattle.bson_scalar.specs.TreeText.{json_of_items, json_of_members}
use Rattle.bson_scalar.proofs.Offered.{in_turn}
use Rattle.bson_scalar.specs.Written.{WriteFault, finite, ◌>>=◌, IsWriteFailureOf}
use Rattle.bson_scalar.specs.declared.form.Doubles.{Doubles}
use Rattle.bson_scalar.specs.declared.form.Form.{Form}
use Rattle.bson_scalar.specs.declared.write_error.WriteError.{WriteError}
use Rattle.bson_scalar.specs.declared.write_error.WriteError.TheVariants.{FiniteDouble, OutOfMemory}
use Rattle.bson_store.specs.AscendingOrder.{key_cmp, sorted_by_key}
use Rattle.bson_store.specs.Pairs.{keys, HasDistinctKeys}
use Rattle.bson_model.specs.Value.{Value, code_scope, Values, value, Pairs, no_pairs, pair}
use Rattle.bson_model.specs.Normal.{NumbersInRange, PairsInRange}
use Rattle.bson_model.specs.Writing.{with_scope}
use Rattle.bson_model.specs.DistinctKeys.{has_pair, AllKeysDistinct, PairKeysDistinct}
use Rattle.bson_store.proofs.Offered.{find-in_order, lacks}
use Rattle.bson.specs.KeyOrders.{pairs_of_order, writes_in_key_order, writes_items_in_key_order, writes_pairs_in_key_order, EachValueSatisfies}
use Rattle.bson.specs.Texts.{tokens_of, code_tokens, writes_each_pair}
use Rattle.bson.specs.View.{bson_view, pairs_view}
use Rattle.bson.specs.declared.bson.Bson.{Bson}
use Rattle.bson_model.specs.declared.options.KeyOrder.{KeyOrder}
use Rattle.bson_model.specs.declared.options.KeyOrder.TheVariants.{Ascending, AsGiven}
use Rattle.bson.proofs.Seen.{Entry}
use Rattle.bson.proofs.OntoTree.{bind_same}

-- ---- arrays

abbrev pub EndsItems : Result Items WriteFault → List Token → List Token → Type 0
EndsItems w old end = (ds : Items) × (w ≡ Ok ds) × (end ≡ old ++ items_tokens (json_of_items ds))

-- an element before others, whatever writes them
pub item_more : (a : Result Data WriteFault) (r : Result Items WriteFault) (old new end : List Token)
    → ((x : Data) × (a ≡ Ok x) × (new ≡ old ++ tokens_of x)) → EndsItems r new end
    → EndsItems (a >>= λ d. r >>= λ ds. Ok (item d ds)) old end
item_more a r old new end p q = (
  item p.0 q.0,
  ap (λ b. b >>= λ d. r >>= λ ds. Ok (item d ds)) p.1 ∙ ap (λ b. b >>= λ ds. Ok (item p.0 ds)) q.1,
  in_turn old (tokens_of p.0) new (items_tokens (json_of_items q.0)) end p.2 q.2,
)

module _ (o : KeyOrder) (D : Doubles) (f : Form) where
  pub items_more : (v : Value) (vs : Values) (old new end : List Token)
      → ((x : Data) × (writes_in_key_order o D f v ≡ Ok x) × (new ≡ old ++ tokens_of x))
      → EndsItems (writes_items_in_key_order o D f vs) new end → EndsItems (writes_items_in_key_order o D f (value v vs)) old end
  items_more v vs old new end p q = item_more (writes_in_key_order o D f v) (writes_items_in_key_order o D f vs) old new end p q

  pub items_here : (e : WriteError) (v : Value) (vs : Values) → IsWriteFailureOf e (writes_in_key_order o D f v)
      → IsWriteFailureOf e (writes_items_in_key_order o D f (value v vs))
  items_here OutOfMemory v vs h = tt
  items_here FiniteDouble v vs h = ap (λ r. r >>= λ d. writes_items_in_key_order o D f vs >>= λ ds. Ok (item d ds)) h

  pub items_later : (e : WriteError) (v : Value) (d : Data) (vs : Values) → writes_in_key_order o D f v ≡ Ok d
      → IsWriteFailureOf e (writes_items_in_key_order o D f vs) → IsWriteFailureOf e (writes_items_in_key_order o D f (value v vs))
  items_later OutOfMemory v d vs g h = tt
  items_later FiniteDouble v d vs g h = ap (λ r. r >>= λ c. writes_items_in_key_order o D f vs >>= λ ds. Ok (item c ds)) g
      ∙ ap (λ r. r >>= λ ds. Ok (item d ds)) h

-- ---- pairs unchanged, each value written by w

abbrev pub EndsMembers : Result Members WriteFault → List Token → List Token → Type 0
EndsMembers w old end = (ms : Members) × (w ≡ Ok ms) × (end ≡ old ++ members_tokens (json_of_members ms))

module _ (w : Value → Result Data WriteFault) where
  pub members_more : (k : List ℕ) (v : Value) (ps : Pairs) (old near new end : List Token) → near ≡ old ++ key k ∷ []
      → ((x : Data) × (w v ≡ Ok x) × (new ≡ near ++ tokens_of x))
      → EndsMembers (writes_each_pair w ps) new end → EndsMembers (writes_each_pair w (pair k v ps)) old end
  members_more k v ps old near new end n p q = (
    member k p.0 q.0,
    ap (λ r. r >>= λ d. writes_each_pair w ps >>= λ ms. Ok (member k d ms)) p.1
        ∙ ap (λ r. r >>= λ ms. Ok (member k p.0 ms)) q.1,
    in_turn old (key k ∷ []) near (tokens_of p.0 ++ members_tokens (json_of_members q.0)) end n
        (in_turn near (tokens_of p.0) new (members_tokens (json_of_members q.0)) end p.2 q.2),
  )

  members_here : (e : WriteError) (k : List ℕ) (v : Value) (ps : Pairs) → IsWriteFailureOf e (w v)
      → IsWriteFailureOf e (writes_each_pair w (pair k v ps))
  members_here OutOfMemory k v ps h = tt
  members_here FiniteDouble k v ps h = ap (λ r. r >>= λ d. writes_each_pair w ps >>= λ ms. Ok (member k d ms)) h

  members_later : (e : WriteError) (k : List ℕ) (v : Value) (d : Data) (ps : Pairs) → w v ≡ Ok d
      → IsWriteFailureOf e (writes_each_pair w ps) → IsWriteFailureOf e (writes_each_pair w (pair k v ps))
  members_later OutOfMemory k v d ps g h = tt
  members_later FiniteDouble k v d ps g h = ap (λ r. r >>= λ c. writes_each_pair w ps >>= λ ms. Ok (member k c ms)) g
      ∙ ap (λ r. r >>= λ ms. Ok (member k d ms)) h

  -- one more pair of what is left
  module _ (left rest : List Entry) (k : List ℕ) (v : Bson) (here : left ≡ (k, v) ∷ rest) where
    pub ends_more : (old near new end : List Token) → near ≡ old ++ key k ∷ []
        → ((x : Data) × (w (bson_view v) ≡ Ok x) × (new ≡ near ++ tokens_of x))
        → EndsMembers (writes_each_pair w (pairs_view rest)) new end
        → EndsMembers (writes_each_pair w (pairs_view left)) old end
    ends_more old near new end n p h =
        subst (λ (xs : List Entry). EndsMembers (writes_each_pair w (pairs_view xs)) old end) (sym here)
        (members_more k (bson_view v) (pairs_view rest) old near new end n p h)

    pub stops_here : (e : WriteError) → IsWriteFailureOf e (w (bson_view v)) → IsWriteFailureOf e (writes_each_pair w (pairs_view left))
    stops_here e h =
        subst (λ (xs : List Entry). IsWriteFailureOf e (writes_each_pair w (pairs_view xs))) (sym here)
        (members_here e k (bson_view v) (pairs_view rest) h)

    pub stops_more : (e : WriteError) (d : Data) → w (bson_view v) ≡ Ok d
        → IsWriteFailureOf e (writes_each_pair w (pairs_view rest)) → IsWriteFailureOf e (writes_each_pair w (pairs_view left))
    stops_more e d p h =
        subst (λ (xs : List Entry). IsWriteFailureOf e (writes_each_pair w (pairs_view xs))) (sym here)
        (members_later e k (bson_view v) d (pairs_view rest) p h)

pub ranged_more : (left rest : List Entry) (k : List ℕ) (v : Bson) → left ≡ (k, v) ∷ rest → NumbersInRange (bson_view v)
    → PairsInRange (pairs_view rest) → PairsInRange (pairs_view left)
ranged_more left rest k v here r h = subst (λ (xs : List Entry). PairsInRange (pairs_view xs)) (sym here) (r, h)

pub distinct_more : (left rest : List Entry) (k : List ℕ) (v : Bson) → left ≡ (k, v) ∷ rest
    → AllKeysDistinct (bson_view v) → EachValueSatisfies AllKeysDistinct (pairs_view rest) → EachValueSatisfies AllKeysDistinct (pairs_view left)
distinct_more left rest k v here r h =
    subst (λ (xs : List Entry). EachValueSatisfies AllKeysDistinct (pairs_view xs)) (sym here) (r, h)

-- ---- documents by ascending key

-- a key that is less than the first one is inserted first
pub put_first : (k l : List ℕ) (d : Data) → key_cmp k l ≡ Less → (a : Result Data WriteFault) (b : Result Members WriteFault)
    → ((a >>= λ e. b >>= λ ms. Ok (member l e ms)) >>= λ ms. Ok (member k d ms))
    ≡ ((a >>= λ e. b >>= λ ms. Ok (member l e ms)) >>= λ ms. Ok (put k d ms))
put_first k l d h (Ok e) (Ok ms) = rw h refl
put_first k l d h (Ok e) (Err x) = refl
put_first k l d h (Err x) b = refl

-- a key that is above the first one follows it
put_later : (k l : List ℕ) → key_cmp k l ≡ Greater → (a b : Result Data WriteFault) (r : Result Members WriteFault)
    → (a >>= λ x. (b >>= λ d. r >>= λ ms. Ok (put k d ms)) >>= λ ms. Ok (member l x ms))
    ≡ (b >>= λ d. (a >>= λ x. r >>= λ ms. Ok (member l x ms)) >>= λ ms. Ok (put k d ms))
put_later k l h (Ok x) (Ok d) (Ok ms) = rw h refl
put_later k l h (Ok x) (Ok d) (Err e) = refl
put_later k l h (Ok x) (Err e) r = refl
put_later k l h (Err finite) (Ok d) r = refl
put_later k l h (Err finite) (Err finite) r = refl

module _ (D : Doubles) (f : Form) where
  written_put : (k : List ℕ) (v : Bson) (es : List Entry) → find key_cmp k es ≡ None
      → writes_each_pair (writes_in_key_order Ascending D f) (pairs_view (put_entry key_cmp k v es))
      ≡ (writes_in_key_order Ascending D f (bson_view v)
      >>= λ d. writes_each_pair (writes_in_key_order Ascending D f) (pairs_view es) >>= λ ms. Ok (put k d ms))
  written_put k v [] h = refl
  written_put k v (e ∷ es) h =
      let w : Value → Result Data WriteFault = writes_in_key_order Ascending D f in
      let a = w (bson_view e.1) in
      let r = writes_each_pair w (pairs_view es) in
      elim (key_cmp k e.0) as (λ o. key_cmp k e.0 ≡ o → cond (is_eq o) (Some e.1) (find key_cmp k es) ≡ None
      → writes_each_pair w (pairs_view (by_order o ((k, v) ∷ e ∷ es) ((e.0, v) ∷ es) (e ∷ put_entry key_cmp k v es)))
      ≡ (w (bson_view v) >>= λ d. (a >>= λ x. r >>= λ ms. Ok (member e.0 x ms)) >>= λ ms. Ok (put k d ms))) [
        | Less ↦ λ o n. bind_same (w (bson_view v)) _ _ (λ d. put_first k e.0 d o a r)
        | Equal ↦ λ o n. cc
        | Greater ↦ λ o n. bind_same a _ _ (λ x. ap (λ q. q >>= λ ms. Ok (member e.0 x ms)) (written_put k v es n))
            ∙ put_later k e.0 o a (w (bson_view v)) r
      ] refl h

  -- the map of a document has its members by ascending key
  by_key_is : (ps : List Entry) → HasDistinctKeys ps
      → writes_each_pair (writes_in_key_order Ascending D f) (pairs_view (sorted_by_key ps))
      ≡ writes_pairs_in_key_order Ascending D f (pairs_view ps)
  unfolding IsDistinct
  by_key_is [] d = refl
  by_key_is (p ∷ ps) d =
      written_put p.0 p.1 (sorted_by_key ps) (find-in_order p.0 ps ∙ lacks p.0 ps d.0)
      ∙ bind_same (writes_in_key_order Ascending D f (bson_view p.1)) _ _ (λ x. ap (λ r. r >>= λ ms. Ok (put p.0 x ms))
      (by_key_is ps d.1))

module _ (P : Value → Type 0) where
  each_put : (k : List ℕ) (v : Bson) (es : List Entry) → find key_cmp k es ≡ None
      → EachValueSatisfies P (pairs_view (put_entry key_cmp k v es)) → P (bson_view v) × EachValueSatisfies P (pairs_view es)
  each_put k v [] h r = r
  each_put k v (e ∷ es) h r =
      elim (key_cmp k e.0) as (λ o. cond (is_eq o) (Some e.1) (find key_cmp k es) ≡ None
      → EachValueSatisfies P (pairs_view (by_order o ((k, v) ∷ e ∷ es) ((e.0, v) ∷ es) (e ∷ put_entry key_cmp k v es)))
      → P (bson_view v) × (P (bson_view e.1) × EachValueSatisfies P (pairs_view es))) [
        | Less ↦ λ n r. r
        | Equal ↦ λ n r. cc
        | Greater ↦ λ n r. let rest = each_put k v es n r.1 in (rest.0, (r.0, rest.1))
      ] h r

  -- what holds of each value by ascending key holds of each
  each_by_key : (ps : List Entry) → HasDistinctKeys ps → EachValueSatisfies P (pairs_view (sorted_by_key ps))
      → EachValueSatisfies P (pairs_view ps)
  unfolding IsDistinct
  each_by_key [] d r = tt
  each_by_key (p ∷ ps) d r =
      let both = each_put p.0 p.1 (sorted_by_key ps) (find-in_order p.0 ps ∙ lacks p.0 ps d.0) r in
      (both.0, each_by_key ps d.1 both.1)

each_ranged : (ps : Pairs) → PairsInRange ps → EachValueSatisfies NumbersInRange ps
each_ranged no_pairs r = tt
each_ranged (pair k v ps) r = (r.0, each_ranged ps r.1)

ranged_each : (ps : Pairs) → EachValueSatisfies NumbersInRange ps → PairsInRange ps
ranged_each no_pairs r = tt
ranged_each (pair k v ps) r = (r.0, ranged_each ps r.1)

each_in : (P : Value → Type 0) (o : KeyOrder) (ps : List Entry) → HasDistinctKeys ps
    → EachValueSatisfies P (pairs_view (pairs_of_order o ps)) → EachValueSatisfies P (pairs_view ps)
each_in P Ascending ps d r = each_by_key P ps d r
each_in P AsGiven ps d r = r

pub ranged_in : (o : KeyOrder) (ps : List Entry) → HasDistinctKeys ps → PairsInRange (pairs_view (pairs_of_order o ps))
    → PairsInRange (pairs_view ps)
ranged_in o ps d r = ranged_each (pairs_view ps) (each_in NumbersInRange o ps d (each_ranged (pairs_view (pairs_of_order o ps)) r))

none_has : (k : List ℕ) (ps : List Entry) → AllByRecursion (λ y. bytes_eq k y ≡ false) (keys ps)
    → has_pair k (pairs_view ps) ≡ false
none_has k [] h = refl
none_has k (p ∷ ps) h = or_from (bytes_eq k p.0) (has_pair k (pairs_view ps)) h.0 (none_has k ps h.1)

distinct_pairs : (ps : List Entry) → HasDistinctKeys ps → EachValueSatisfies AllKeysDistinct (pairs_view ps)
    → PairKeysDistinct (pairs_view ps)
unfolding IsDistinct
distinct_pairs [] d h = tt
distinct_pairs (p ∷ ps) d h = (none_has p.0 ps d.0, h.0, distinct_pairs ps d.1 h.1)

-- a document has each key once, and so where each of its values does has the whole
pub distinct_in : (o : KeyOrder) (ps : List Entry) → HasDistinctKeys ps → EachValueSatisfies AllKeysDistinct (pairs_view (pairs_of_order o ps))
    → PairKeysDistinct (pairs_view ps)
distinct_in o ps d h = distinct_pairs ps d (each_in AllKeysDistinct o ps d h)

-- ---- documents in their own order

given_is : (D : Doubles) (f : Form) (ps : Pairs) → writes_each_pair (writes_in_key_order AsGiven D f) ps ≡ writes_pairs_in_key_order AsGiven D f ps
given_is D f no_pairs = refl
given_is D f (pair k v ps) =
    bind_same (writes_in_key_order AsGiven D f v) _ _ (λ d. ap (λ r. r >>= λ ms. Ok (member k d ms)) (given_is D f ps))

-- the members are those of the pairs in the order
pub ordered_is : (o : KeyOrder) (D : Doubles) (f : Form) (ps : List Entry) → HasDistinctKeys ps
    → writes_each_pair (writes_in_key_order o D f) (pairs_view (pairs_of_order o ps)) ≡ writes_pairs_in_key_order o D f (pairs_view ps)
ordered_is Ascending D f ps d = by_key_is D f ps d
ordered_is AsGiven D f ps d = given_is D f (pairs_view ps)

-- ---- code with a scope

pub code_with_scope : (o : KeyOrder) (D : Doubles) (f : Form) (s : List ℕ) (ps : Pairs) (old mid near new : List Token)
    → mid ≡ old ++ code_tokens s
    → ((x : Members) × (writes_pairs_in_key_order o D f ps ≡ Ok x) × (near ≡ mid ++ tokens_of (object x)))
    → new ≡ near ++ end_object ∷ []
    → (t : Data) × (writes_in_key_order o D f (code_scope s ps) ≡ Ok t) × (new ≡ old ++ tokens_of t)
code_with_scope o D f s ps old mid near new m p n = (
  _,
  ap (λ r. r >>= λ ms. Ok (with_scope s ms)) p.1,
  in_turn old (code_tokens s) mid (tokens_of (object p.0) ++ end_object ∷ []) new m
      (in_turn mid (tokens_of (object p.0)) near (end_object ∷ []) new p.2 n),
)
