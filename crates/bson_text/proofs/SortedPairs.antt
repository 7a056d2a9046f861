-- Pairs inserted by ascending key: the later value of a key stays.
use Rattle.std.proofs.Common.{◌≡◌, ℕ, List, true, false, Bool, Less, Equal, Greater, Ordering, nat_cmp, bytes_eq, refl, sym, ap, ◌∙◌, cond}
use Rattle.std.proofs.Common.{subst}
use Rattle.std.proofs.lemmas.Cmp.{nat_list_cmp_total, tied_itself}
use Rattle.std.proofs.lemmas.Slice.Eq.{bytes_eq-Decides}
use Rattle.std.specs.Cmp.Lexicographic.{slice_cmp}
use Rattle.bson_model.specs.Sorted.{insert_sorted_pair, sorted, sorted_pairs}
use Rattle.bson_model.specs.Value.{Value, Pairs, no_pairs, pair}
use Rattle.bson_model.proofs.Offered.{put_swap}
use Rattle.bson_text.specs.TraversalResults.{with_pair_set, with_pairs_set, each_key_once}

put_twice_at : (o : Ordering) (k l : List ℕ) (v w x : Value) (ps : Pairs) → slice_cmp nat_cmp k l ≡ o
    → insert_sorted_pair k v (insert_sorted_pair k w ps) ≡ insert_sorted_pair k v ps
    → insert_sorted_pair k v (insert_sorted_pair k w (pair l x ps)) ≡ insert_sorted_pair k v (pair l x ps)
put_twice_at Less k l v w x ps h is = let s : slice_cmp nat_cmp k k ≡ Equal = tied_itself nat_list_cmp_total k in rw (h, s) refl
put_twice_at Equal k l v w x ps h is = rw (h, h) refl
put_twice_at Greater k l v w x ps h is = rw (h, h) (ap (pair l x) is)

pub put_twice : (k : List ℕ) (v w : Value) (ps : Pairs) → insert_sorted_pair k v (insert_sorted_pair k w ps) ≡ insert_sorted_pair k v ps
put_twice k v w no_pairs = let s : slice_cmp nat_cmp k k ≡ Equal = tied_itself nat_list_cmp_total k in rw s refl
put_twice k v w (pair l x ps) = put_twice_at _ k l v w x ps refl (put_twice k v w ps)

-- ---- the pairs of a document, each key once

unequal : (k l : List ℕ) → bytes_eq k l ≡ false → k ≡ l → ⊥
unequal k l h e = let yes : bytes_eq k l ≡ true = (bytes_eq-Decides k l).1 e in cc

set_at : (b : Bool) (k l : List ℕ) (v w : Value) (ps : Pairs) → bytes_eq k l ≡ b
    → sorted_pairs (with_pair_set k v ps) ≡ insert_sorted_pair k (sorted v) (sorted_pairs ps)
    → sorted_pairs (cond b (pair l v ps) (pair l w (with_pair_set k v ps)))
    ≡ insert_sorted_pair k (sorted v) (insert_sorted_pair l (sorted w) (sorted_pairs ps))
set_at true k l v w ps h is =
    let one : k ≡ l = (bytes_eq-Decides k l).0 h in
    let qs = sorted_pairs ps in
    subst (λ x. insert_sorted_pair l (sorted v) qs ≡ insert_sorted_pair x (sorted v) (insert_sorted_pair l (sorted w) qs)) (sym one)
    (sym (put_twice l (sorted v) (sorted w) qs))
set_at false k l v w ps h is =
    ap (insert_sorted_pair l (sorted w)) is ∙ sym (put_swap k l (sorted v) (sorted w) (sorted_pairs ps) (unequal k l h))

set_sorted : (k : List ℕ) (v : Value) (ps : Pairs)
    → sorted_pairs (with_pair_set k v ps) ≡ insert_sorted_pair k (sorted v) (sorted_pairs ps)
set_sorted k v no_pairs = refl
set_sorted k v (pair l w ps) = set_at (bytes_eq k l) k l v w ps refl (set_sorted k v ps)

-- the pairs after each of others, whose value is sorted, is inserted into them
abbrev pub put_in_turn : Pairs → Pairs → Pairs
put_in_turn no_pairs found = found
put_in_turn (pair k v ps) found = put_in_turn ps (insert_sorted_pair k (sorted v) found)

each_sorted : (ps found : Pairs) → sorted_pairs (with_pairs_set ps found) ≡ put_in_turn ps (sorted_pairs found)
each_sorted no_pairs found = refl
each_sorted (pair k v ps) found = each_sorted ps (with_pair_set k v found) ∙ ap (put_in_turn ps) (set_sorted k v found)

pub once_sorted : (ps : Pairs) → sorted_pairs (each_key_once ps) ≡ put_in_turn ps no_pairs
once_sorted ps = each_sorted ps no_pairs
