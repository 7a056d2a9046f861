-- A value whose keys are distinct has the tree that it has with its keys sorted.
use Rattle.std.proofs.Common.{◌≡◌, ℕ, List, true, false, Result, Ok, Err, Ordering, Less, Equal, Greater, nat_cmp, bytes_eq}
use Rattle.std.proofs.Common.{refl, ap, sym, ◌∙◌}
use Rattle.std.proofs.lemmas.Bool.{or_parts, or_from}
use Rattle.std.proofs.lemmas.Slice.Eq.{bytes_eq-Decides}
use Rattle.std.specs.Cmp.Lexicographic.{slice_cmp}
use Rattle.std.specs.Ordering.{match_ordering}
use Rattle.serde_json.specs.Data.{Data, Members, put}
use Rattle.bson_scalar.specs.Written.{WriteFault, finite, ◌>>=◌}
use Rattle.bson_scalar.specs.declared.form.Doubles.{Doubles}
use Rattle.bson_scalar.specs.declared.form.Form.{Form}
use Rattle.bson_model.specs.DistinctKeys.{has_pair, AllKeysDistinct, ItemKeysDistinct, PairKeysDistinct}
use Rattle.bson_model.specs.Sorted.{sorted, sorted_items, sorted_pairs, insert_sorted_pair}
use Rattle.bson_model.specs.Value.{Value, Values, no_values, value, Pairs, no_pairs, pair, scalar, code_scope, array, document}
use Rattle.bson_model.specs.Writing.{writes_value_in, writes_items_in, writes_pairs_in}
use Rattle.bson_model.proofs.Offered.{put_members_swap, equal_keys}

unequal : (k l : List ℕ) → bytes_eq k l ≡ false → k ≡ l → ⊥
unequal k l h e = let yes : bytes_eq k l ≡ true = (bytes_eq-Decides k l).1 e in cc

-- ---- keys of sorted pairs

lacks_by : (o : Ordering) (q k l : List ℕ) (v w : Value) (ps qs : Pairs) → bytes_eq q k ≡ false → bytes_eq q l ≡ false
    → has_pair q ps ≡ false → has_pair q qs ≡ false
    → has_pair q (match_ordering o (pair k v (pair l w ps)) (pair l v ps) (pair l w qs)) ≡ false
lacks_by Less q k l v w ps qs a b h g = or_from (bytes_eq q k) _ a (or_from (bytes_eq q l) _ b h)
lacks_by Equal q k l v w ps qs a b h g = or_from (bytes_eq q l) _ b h
lacks_by Greater q k l v w ps qs a b h g = or_from (bytes_eq q l) _ b g

lacks_inserted : (q k : List ℕ) (v : Value) (ps : Pairs) → bytes_eq q k ≡ false → has_pair q ps ≡ false
    → has_pair q (insert_sorted_pair k v ps) ≡ false
lacks_inserted q k v no_pairs a h = or_from (bytes_eq q k) false a refl
lacks_inserted q k v (pair l w ps) a h =
    let parts = or_parts (bytes_eq q l) (has_pair q ps) h in
    lacks_by (slice_cmp nat_cmp k l) q k l v w ps (insert_sorted_pair k v ps) a parts.0 parts.1 (lacks_inserted q k v ps a parts.1)

lacks_sorted : (q : List ℕ) (ps : Pairs) → has_pair q ps ≡ false → has_pair q (sorted_pairs ps) ≡ false
lacks_sorted q no_pairs h = refl
lacks_sorted q (pair k v ps) h =
    let parts = or_parts (bytes_eq q k) (has_pair q ps) h in
    lacks_inserted q k (sorted v) (sorted_pairs ps) parts.0 (lacks_sorted q ps parts.1)

-- ---- trees

-- members put in turn, in either order
swapped : (k l : List ℕ) → (k ≡ l → ⊥) → (a b : Result Data WriteFault) (r : Result Members WriteFault)
    → (b >>= λ e. (a >>= λ d. r >>= λ ms. Ok (put k d ms)) >>= λ ms. Ok (put l e ms))
    ≡ (a >>= λ d. (b >>= λ e. r >>= λ ms. Ok (put l e ms)) >>= λ ms. Ok (put k d ms))
swapped k l apart (Ok d) (Ok e) (Ok ms) = ap Ok (sym (put_members_swap k l d e ms apart))
swapped k l apart (Ok d) (Ok e) (Err f) = refl
swapped k l apart (Ok d) (Err f) r = refl
swapped k l apart (Err finite) (Ok e) r = refl
swapped k l apart (Err finite) (Err finite) r = refl

module _ (D : Doubles) (f : Form) where
  inserted_by : (o : Ordering) (k l : List ℕ) (v w : Value) (ps : Pairs) → slice_cmp nat_cmp k l ≡ o → bytes_eq k l ≡ false
      → writes_pairs_in D f (insert_sorted_pair k v ps) ≡ writes_pairs_in D f (pair k v ps)
      → writes_pairs_in D f (match_ordering o (pair k v (pair l w ps)) (pair l v ps) (pair l w (insert_sorted_pair k v ps)))
      ≡ writes_pairs_in D f (pair k v (pair l w ps))
  inserted_by Less k l v w ps is apart h = refl
  inserted_by Equal k l v w ps is apart h = absurd (unequal k l apart (equal_keys k l is))
  inserted_by Greater k l v w ps is apart h =
      ap (λ r. writes_value_in D f w >>= λ e. r >>= λ ms. Ok (put l e ms)) h
      ∙ swapped k l (unequal k l apart) (writes_value_in D f v) (writes_value_in D f w) (writes_pairs_in D f ps)

  inserted : (k : List ℕ) (v : Value) (ps : Pairs) → has_pair k ps ≡ false
      → writes_pairs_in D f (insert_sorted_pair k v ps) ≡ writes_pairs_in D f (pair k v ps)
  inserted k v no_pairs h = refl
  inserted k v (pair l w ps) h =
      let parts = or_parts (bytes_eq k l) (has_pair k ps) h in
      inserted_by (slice_cmp nat_cmp k l) k l v w ps refl parts.0 (inserted k v ps parts.1)

  mutual
    pub unsorted : (v : Value) → AllKeysDistinct v → writes_value_in D f (sorted v) ≡ writes_value_in D f v
    unsorted (scalar x) h = refl
    unsorted (code_scope s ps) h = rw (unsorted_pairs ps h) refl
    unsorted (array vs) h = rw (unsorted_items vs h) refl
    unsorted (document ps) h = rw (unsorted_pairs ps h) refl

    unsorted_items : (vs : Values) → ItemKeysDistinct vs → writes_items_in D f (sorted_items vs) ≡ writes_items_in D f vs
    unsorted_items no_values h = refl
    unsorted_items (value v vs) h = rw (unsorted v h.0, unsorted_items vs h.1) refl

    unsorted_pairs : (ps : Pairs) → PairKeysDistinct ps → writes_pairs_in D f (sorted_pairs ps) ≡ writes_pairs_in D f ps
    unsorted_pairs no_pairs h = refl
    unsorted_pairs (pair k v ps) h =
        inserted k (sorted v) (sorted_pairs ps) (lacks_sorted k ps h.0)
        ∙ rw (unsorted v h.1, unsorted_pairs ps h.2) refl
